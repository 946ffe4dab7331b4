-- The calls of an opening, on the states of a disk.
use Rattle.std.proofs.Common.{◌≡◌, ◌≢◌, ⊎_elim, ℕ, ◌+◌, ◌<◌, ◌≤◌, List, [], ◌∷◌, ◌++◌, length, get_or, take, drop, set}
use Rattle.std.proofs.Common.{if◌then◌else◌, refl, sym, ◌∙◌, ap, subst, arith, append_assoc, length-append, length-drop}
use Rattle.std.specs.Prelude.{Some}
use Rattle.std.specs.Int.{w32, to_le_bytes}
use Rattle.std.proofs.lemmas.Bool.{cases_eq}
use Rattle.std.proofs.lemmas.List.{length-take}
use Rattle.std.proofs.lemmas.List.{append-nil, take_all, take_at, drop_at, drop_all, drop_more, set_at}
use Rattle.disk.specs.Files.{File, MayBecome, settled, appended, appended_in_part, overwritten, cut_to}
use Rattle.disk.specs.Memory.{shown_now}
use Rattle.disk.specs.States.{State}
use Rattle.disk.specs.Calls.{ChangesFile, FailsAt, IsUnchanged, Loses}
use Rattle.disk.specs.declared.fault.DiskFault.{DiskFault}
use Rattle.journal.specs.Batches.{open_batch, batches_text, IsClosed, HasBatches}
use Rattle.journal.specs.Journals.{only_file, EndsAt, IsAtRest, IsClosing, IsOnDisk, LeavesThese}
use Rattle.journal.proofs.Batches.{closed_octet, before_closed}
use Rattle.journal.proofs.Files.{front_stays, all_but_one}
use Rattle.journal.proofs.Commit.{At, after_change, after_sync, leaves}
use Rattle.journal.proofs.Readings.{one_reading}

-- what is on the disk is what a crash leaves
pub same_octets : (octets c : List ℕ) → MayBecome (settled octets) c → c ≡ octets
same_octets octets c may =
    let is = front_stays (settled octets) octets c (omega arith) refl (take_all (length octets) octets (omega arith))
    may in
    let none : drop (length octets) c ≡ [] = drop_all (length octets) c (omega (arith, may.no_longer)) in
    is ∙ ap (λ (l : List ℕ). octets ++ l) none ∙ append-nil octets

-- a batch has five octets at least
pub short_closed : (octets : List ℕ) → length octets ≤ 1 → IsClosed octets
short_closed octets short body rest sized is =
    absurd (omega (
      arith,
      short,
      ap (λ (l : List ℕ). length l) is,
      length-append (open_batch body) rest,
      length-append
          (to_le_bytes w32 (length body)) body,
    ))

pub on_disk_leaves : (state : State) (name file : List ℕ) (bodies : List (List ℕ)) → IsOnDisk state name file
    → HasBatches file bodies → LeavesThese state name bodies
on_disk_leaves state name file bodies at has =
    leaves state name (settled file) (λ found. found ≡ bodies) at.entry
    (λ c may. (bodies, subst (λ (l : List ℕ). HasBatches l bodies) (sym (same_octets file c may)) has, refl))

pub unchanged_leaves : (old new : State) (name file : List ℕ) (bodies : List (List ℕ)) → IsOnDisk old name file
    → IsUnchanged old new → HasBatches file bodies → LeavesThese new name bodies
unchanged_leaves old new name file bodies at same has = on_disk_leaves new name file bodies
    (record { entry = same.entries name ∙ at.entry; sound = same.lost ∙ at.sound }) has

module _ (old new : State) (name file : List ℕ) (bodies : List (List ℕ)) (end : ℕ) (at : IsOnDisk old name file)
    (ends : EndsAt file bodies end) where
  start : At old name (settled file)
  start = record { entry = at.entry; sound = at.sound }

  pub has : HasBatches file bodies
  has = record { tail = ends.tail; text = ends.text; closed = ends.closed; sized = ends.sized }

  -- nothing is behind the batches
  pub none_behind : end ≡ length file → file ≡ batches_text bodies
  none_behind all =
      let size : length ends.tail ≤ 0 = omega (
        arith,
        ap (λ (l : List ℕ). length l) ends.text,
        length-append
            (batches_text bodies) ends.tail,
        ends.end_is,
        all,
      ) in
      let none : ends.tail ≡ [] = drop_all 0 ends.tail size in
      ends.text ∙ ap (λ (l : List ℕ). batches_text bodies ++ l) none ∙ append-nil (batches_text bodies)

  -- one octet is written behind the batches
  one_more : (f : File) → file ≡ batches_text bodies → f.synced ≡ length file → f.rewritten ≡ []
      → f.longest ≤ length file + 1 → length f.shown ≤ length file + 1 → take (length file) f.shown ≡ file
      → (c : List ℕ) → MayBecome f c → HasBatches c bodies
  one_more f whole synced none longest short_shown shows c may =
      let is = front_stays f file c (omega (arith, synced)) none shows may in
      let short : length (drop (length file) c) ≤ 1 = omega
      (arith, length-drop (length file) c, may.no_longer, longest, short_shown) in
      record {
        tail = drop (length file) c;
        text = is ∙ ap (λ (l : List ℕ). l ++ drop (length file) c) whole;
        closed = short_closed (drop (length file) c) short;
        sized = ends.sized;
      }

  pub append_closes : end ≡ length file → ChangesFile old new name (appended (254 ∷ [])) → IsClosing new name bodies
  append_closes all changes =
      let next = after_change old new name (settled file) (appended (254 ∷ [])) start changes in
      record {
        file = appended (254 ∷ []) (settled file);
        entry = next.entry;
        sound = next.sound;
        gate = 254;
        behind = [];
        shut = λ zero_is. absurd (cc zero_is);
        shown = ap (λ (l : List ℕ). l ++ 254 ∷ []) (none_behind all);
        leaves = one_more (appended (254 ∷ []) (settled file)) (none_behind all) refl refl (omega arith)
            (omega (arith, length-append file (254 ∷ [])))
            (take_at file (254 ∷ []) (length file) refl);
        sized = ends.sized;
      }

  pub append_fails : end ≡ length file → (fault : DiskFault)
      → FailsAt old new name fault ((n : ℕ) × ChangesFile old new name (appended_in_part n (254 ∷ [])))
      → LeavesThese new name bodies
  append_fails all fault fails = ⊎_elim
      (λ same. unchanged_leaves old new name file bodies at same has)
      (λ part.
      let f = appended_in_part part.0 (254 ∷ []) (settled file) in
      let next = after_change old new name (settled file) (appended_in_part part.0 (254 ∷ [])) start part.1 in
      leaves new name f (λ found. found ≡ bodies) next.entry (λ c may. (
        bodies,
        one_more f (none_behind all) refl refl (omega arith)
            (omega (arith, length-append file (take part.0 (254 ∷ [])), length-take {A = ℕ} part.0 (254 ∷ [])))
            (take_at file (take part.0 (254 ∷ [])) (length file) refl) c may,
        refl,
      )))
      fails.done

  abbrev gate : ℕ
  gate = get_or file end 0

  abbrev behind : List ℕ
  behind = drop (end + 1) file

  tail_is : end < length file → ends.tail ≡ get_or file end 0 ∷ drop (end + 1) file
  tail_is some = sym (drop_at (batches_text bodies) ends.tail end (sym ends.end_is)) ∙ ap (λ (l : List ℕ). drop end l)
      (sym ends.text) ∙ drop_more file end 0 some

  at_gate : end < length file → file ≡ batches_text bodies ++ get_or file end 0 ∷ drop (end + 1) file
  at_gate some = ends.text ∙ ap (λ (l : List ℕ). batches_text bodies ++ l) (tail_is some)

  gate_closed : end < length file → IsClosed (get_or file end 0 ∷ drop (end + 1) file)
  gate_closed some = subst IsClosed (tail_is some) ends.closed

  -- the octet behind the batches is written over
  any_octet : end < length file → get_or file end 0 ≡ 1 → (octet : ℕ) (c : List ℕ)
      → MayBecome (overwritten end octet (settled file)) c → HasBatches c bodies
  any_octet some open_gate octet c may =
      let T = batches_text bodies in
      let moved = subst (λ (l : List ℕ). MayBecome (overwritten end octet (settled l)) c) (at_gate some) may in
      let is = all_but_one T (get_or file end 0) octet (drop (end + 1) file) c
      (subst (λ (n : ℕ). MayBecome (overwritten n octet (settled (T ++ get_or file end 0 ∷ drop (end + 1) file)))
      c) ends.end_is moved) in
      record {
        tail = get_or c (length T) 0 ∷ drop (end + 1) file;
        text = is;
        closed = ⊎_elim
            (λ one. subst (λ (g : ℕ). IsClosed (g ∷ drop (end + 1) file)) (open_gate ∙ sym one) (gate_closed some))
            (λ not_one. closed_octet (get_or c (length T) 0) (drop (end + 1) file) not_one)
            (cases_eq (get_or c (length T) 0) 1);
        sized = ends.sized;
      }

  pub overwrite_closes : end < length file → get_or file end 0 ≡ 1 → ChangesFile old new name (overwritten end 254)
      → IsClosing new name bodies
  overwrite_closes some open_gate changes =
      let next = after_change old new name (settled file) (overwritten end 254) start changes in
      record {
        file = overwritten end 254 (settled file);
        entry = next.entry;
        sound = next.sound;
        gate = 254;
        behind = drop (end + 1) file;
        shut = λ zero_is. absurd (cc zero_is);
        shown = ap (λ (l : List ℕ). set l end 254) (at_gate some) ∙ set_at (batches_text bodies) (get_or file end 0)
            (drop (end + 1) file) 254 end (sym ends.end_is);
        leaves = any_octet some open_gate 254;
        sized = ends.sized;
      }

  pub overwrite_fails : end < length file → get_or file end 0 ≡ 1 → (fault : DiskFault)
      → FailsAt old new name fault ((octet : ℕ) × ChangesFile old new name (overwritten end octet))
      → LeavesThese new name bodies
  overwrite_fails some open_gate fault fails = ⊎_elim
      (λ same. unchanged_leaves old new name file bodies at same has)
      (λ part.
      let next = after_change old new name (settled file) (overwritten end part.0) start part.1 in
      leaves new name (overwritten end part.0 (settled file)) (λ found. found ≡ bodies) next.entry
      (λ c may. (bodies, any_octet some open_gate part.0 c may, refl)))
      fails.done

  -- it is closed already
  pub closes : end < length file → get_or file end 0 ≢ 1 → IsClosing old name bodies
  closes some shut = record {
    file = settled file;
    entry = at.entry;
    sound = at.sound;
    gate = get_or file end 0;
    behind = drop (end + 1) file;
    shut = shut;
    shown = at_gate some;
    leaves = λ c may. subst (λ (l : List ℕ). HasBatches l bodies) (sym (same_octets file c may)) has;
    sized = ends.sized;
  }

pub closing_leaves : (state : State) (name : List ℕ) (bodies : List (List ℕ)) → IsClosing state name bodies
    → LeavesThese state name bodies
closing_leaves state name bodies closing = leaves state name closing.file (λ found. found ≡ bodies) closing.entry
    (λ c may. (bodies, closing.leaves c may, refl))

module _ (zero one two three : State) (name : List ℕ) (bodies : List (List ℕ)) (closing : IsClosing zero name bodies)
  where
    begin : At zero name closing.file
    begin = record { entry = closing.entry; sound = closing.sound }

    abbrev rest : List ℕ
    rest = batches_text bodies ++ closing.gate ∷ []

    pub first_sync_fails : (fault : DiskFault) → FailsAt zero one name fault (Loses zero one)
        → LeavesThese one name bodies
    first_sync_fails fault fails =
        let same = ⊎_elim (λ same. same.entries name) (λ loses. loses.entries name) fails.done in
        leaves one name closing.file (λ found. found ≡ bodies) (same ∙ closing.entry)
        (λ c may. (bodies, closing.leaves c may, refl))

    module _ (synced : At one name (settled closing.file.shown)) where
      whole : At one name (settled (batches_text bodies ++ closing.gate ∷ closing.behind))
      whole = record {
        entry = synced.entry ∙ ap (λ (l : List ℕ). only_file (settled l)) closing.shown;
        sound
            = synced.sound;
      }

      shown_is : batches_text bodies ++ closing.gate ∷ closing.behind ≡ (batches_text bodies ++ closing.gate ∷ []) ++
          closing.behind
      shown_is = sym (append_assoc (batches_text bodies) (closing.gate ∷ []) closing.behind)

      size : length (batches_text bodies ++ closing.gate ∷ []) ≡ length (batches_text bodies) + 1
      size = length-append (batches_text bodies) (closing.gate ∷ [])

      cut_shown : take (length (batches_text bodies) + 1) (batches_text bodies ++ closing.gate ∷ closing.behind) ≡
          batches_text bodies ++ closing.gate ∷ []
      cut_shown = ap (λ (l : List ℕ). take (length (batches_text bodies) + 1) l) shown_is ∙ take_at
          (batches_text bodies ++ closing.gate ∷ []) closing.behind (length (batches_text bodies) + 1) size

      pub cut_leaves : (c : List ℕ) → MayBecome (cut_to (length (batches_text bodies) + 1)
          (settled (batches_text bodies ++ closing.gate ∷ closing.behind))) c → HasBatches c bodies
      cut_leaves c may =
          let front = batches_text bodies ++ closing.gate ∷ [] in
          let cut = cut_to (length (batches_text bodies) + 1)
          (settled (batches_text bodies ++ closing.gate ∷ closing.behind)) in
          let long : length front ≤ cut.synced = omega
          (arith, size, ap (λ (l : List ℕ). length l) shown_is, length-append front closing.behind) in
          let shows : take (length front) cut.shown ≡ front = ap (λ (l : List ℕ). take (length front) l) cut_shown ∙
          take_all (length front) front (omega arith) in
          let is = front_stays cut front c long refl shows may ∙ append_assoc (batches_text bodies) (closing.gate ∷ [])
          (drop (length front) c) in
          subst (λ (l : List ℕ). HasBatches l bodies) (sym is)
          (before_closed bodies closing.gate (drop (length front) c) closing.shut closing.sized)

      pub cut_fails : (fault : DiskFault) → FailsAt one two name fault
          (ChangesFile one two name (cut_to (length (batches_text bodies) + 1))) → LeavesThese two name bodies
      cut_fails fault fails = ⊎_elim
          (λ same. on_disk_leaves two name (batches_text bodies ++ closing.gate ∷ closing.behind) bodies
          (record { entry = same.entries name ∙ whole.entry; sound = same.lost ∙ whole.sound })
          (before_closed bodies closing.gate closing.behind closing.shut closing.sized))
          (λ part.
          let next = after_change one two name (settled (batches_text bodies ++ closing.gate ∷ closing.behind))
          (cut_to (length (batches_text bodies) + 1)) whole part in
          leaves two name (cut_to (length (batches_text bodies) + 1)
          (settled (batches_text bodies ++ closing.gate ∷ closing.behind))) (λ found. found ≡ bodies) next.entry
          (λ c may. (bodies, cut_leaves c may, refl)))
          fails.done

      pub is_cut : ChangesFile one two name (cut_to (length (batches_text bodies) + 1))
          → At two name (cut_to (length (batches_text bodies) + 1)
          (settled (batches_text bodies ++ closing.gate ∷ closing.behind)))
      is_cut changes = after_change one two name (settled (batches_text bodies ++ closing.gate ∷ closing.behind))
          (cut_to (length (batches_text bodies) + 1)) whole changes

      pub last_sync_fails : (fault : DiskFault) → ChangesFile one two name (cut_to (length (batches_text bodies) + 1))
          → FailsAt two three name fault (Loses two three) → LeavesThese three name bodies
      last_sync_fails fault changes fails =
          let same = ⊎_elim (λ same. same.entries name) (λ loses. loses.entries name) fails.done in
          leaves three name (cut_to (length (batches_text bodies) + 1)
          (settled (batches_text bodies ++ closing.gate ∷ closing.behind))) (λ found. found ≡ bodies)
          (same ∙ (is_cut changes).entry) (λ c may. (bodies, cut_leaves c may, refl))

      pub rests : ChangesFile one two name (cut_to (length (batches_text bodies) + 1))
          → ChangesFile two three name (λ f. if two.lost then f else settled f.shown) → IsAtRest three name bodies
      rests changes syncs =
          let last = after_sync two three name (cut_to (length (batches_text bodies) + 1)
          (settled (batches_text bodies ++ closing.gate ∷ closing.behind))) (is_cut changes) syncs in
          record {
            gate = closing.gate;
            shut = closing.shut;
            file = record {
              entry = last.entry ∙ ap (λ (l : List ℕ). only_file (settled l)) cut_shown;
              sound
                  = last.sound;
            };
            sized = closing.sized;
          }

pub rest_leaves : (state : State) (name : List ℕ) (bodies : List (List ℕ)) → IsAtRest state name bodies
    → LeavesThese state name bodies
rest_leaves state name bodies rest = on_disk_leaves state name (batches_text bodies ++ rest.gate ∷ []) bodies rest.file
    (before_closed bodies rest.gate [] rest.shut rest.sized)

-- where the batches end, of the octets that were read
pub ends_here : (file octets : List ℕ) (bodies : List (List ℕ)) (end : ℕ) → octets ≡ file → HasBatches file bodies
    → (found : List (List ℕ)) × EndsAt octets found end → EndsAt file bodies end
ends_here file octets bodies end is has_bodies found =
    let moved = subst (λ (l : List ℕ). EndsAt l found.0 end) is found.1 in
    let has_found : HasBatches file found.0 = record
    { tail = moved.tail; text = moved.text; closed = moved.closed; sized = moved.sized } in
    subst (λ (b : List (List ℕ)). EndsAt file b end) (one_reading file found.0 bodies has_found has_bodies) moved

-- nothing was changed by reading
pub still_there : (old new : State) (name file : List ℕ) → IsOnDisk old name file → IsUnchanged old new
    → IsOnDisk new name file
still_there old new name file at same = record { entry = same.entries name ∙ at.entry; sound = same.lost ∙ at.sound }

-- a read shows what is on the disk
pub shown_there : (state : State) (name file : List ℕ) → IsOnDisk state name file
    → shown_now (state.entries name) ≡ Some file
shown_there state name file at = ap shown_now at.entry

-- ---- another octet is put behind the batches, where nothing is behind it

module _ (old one two : State) (name : List ℕ) (bodies : List (List ℕ)) (rest : IsAtRest old name bodies) (octet : ℕ)
  where
    abbrev resting_file : File
    resting_file = settled (batches_text bodies ++ rest.gate ∷ [])

    abbrev put_over : File → File
    put_over = overwritten (length (batches_text bodies)) octet

    rested : At old name (settled (batches_text bodies ++ rest.gate ∷ []))
    rested = record { entry = rest.file.entry; sound = rest.file.sound }

    put_leaves : (shown : ℕ) (c : List ℕ)
        → MayBecome (overwritten (length (batches_text bodies)) shown (settled (batches_text bodies ++ rest.gate ∷ []))) c
        → HasBatches c bodies
    put_leaves shown c may = record {
      tail = get_or c (length (batches_text bodies)) 0 ∷ [];
      text = all_but_one (batches_text bodies) rest.gate shown [] c may;
      closed = short_closed (get_or c (length (batches_text bodies)) 0 ∷ []) (omega arith);
      sized = rest.sized;
    }

    pub put_fails : (fault : DiskFault)
        → FailsAt old one name fault
        ((shown : ℕ) × ChangesFile old one name (overwritten (length (batches_text bodies)) shown))
        → LeavesThese one name bodies
    put_fails fault fails = ⊎_elim
        (λ same. unchanged_leaves old one name (batches_text bodies ++ rest.gate ∷ []) bodies rest.file same
        (before_closed bodies rest.gate [] rest.shut rest.sized))
        (λ part.
        let next = after_change old one name resting_file (overwritten (length (batches_text bodies)) part.0) rested
        part.1 in
        leaves one name (overwritten (length (batches_text bodies)) part.0 resting_file) (λ found. found ≡ bodies)
        next.entry (λ c may. (bodies, put_leaves part.0 c may, refl)))
        fails.done

    module _ (puts : ChangesFile old one name (overwritten (length (batches_text bodies)) octet)) where
      put_there : At one name (overwritten (length (batches_text bodies)) octet
          (settled (batches_text bodies ++ rest.gate ∷ [])))
      put_there = after_change old one name resting_file put_over rested puts

      pub put_sync_fails : (fault : DiskFault) → FailsAt one two name fault (Loses one two)
          → LeavesThese two name bodies
      put_sync_fails fault fails =
          let same = ⊎_elim (λ same. same.entries name) (λ loses. loses.entries name) fails.done in
          leaves two name (put_over resting_file) (λ found. found ≡ bodies) (same ∙ put_there.entry)
          (λ c may. (bodies, put_leaves octet c may, refl))

      pub put_rests : octet ≢ 1 → ChangesFile one two name (λ f. if one.lost then f else settled f.shown)
          → IsAtRest two name bodies
      put_rests shut syncs =
          let last = after_sync one two name (put_over resting_file) put_there syncs in
          let shown = set_at (batches_text bodies) rest.gate [] octet (length (batches_text bodies)) refl in
          record {
            gate = octet;
            shut = shut;
            file = record {
              entry = last.entry ∙ ap (λ (l : List ℕ). only_file (settled l)) shown;
              sound = last.sound;
            };
            sized = rest.sized;
          }
