-- The calls of a commit, on the states of a disk.
use Rattle.std.proofs.Common.{◌≡◌, ◌≢◌, inl, inr, ⊎_elim, ℕ, ◌+◌, ◌≤◌, Bool, false, if◌then◌else◌, List, [], ◌∷◌, ◌++◌}
use Rattle.std.proofs.Common.{length, set, take, drop, refl, sym, ◌∙◌, ap, subst, arith, append_assoc, length-append}
use Rattle.std.specs.Prelude.{Option, Some, None, IsSomeAnd}
use Rattle.std.specs.List.{AllByRecursion}
use Rattle.std.proofs.lemmas.List.{append-nil, take_all, take_at, set_at}
use Rattle.disk.specs.Files.{File, MayBecome, settled, appended, appended_in_part, overwritten}
use Rattle.disk.specs.States.{Entry, State, NameMayLeave}
use Rattle.disk.specs.Calls.{ChangesFile, FailsAt, Loses}
use Rattle.disk.specs.declared.fault.DiskFault.{DiskFault}
use Rattle.journal.specs.Batches.{closed_batch, open_batch, batches_text, IsBody, HasBatches}
use Rattle.journal.specs.Journals.{only_file, Stands, LeavesBatches, WithOrWithout}
use Rattle.journal.specs.declared.journal.Journal.{Journal}
use Rattle.std.specs.Int.{w32, to_le_bytes}
use Rattle.journal.proofs.Batches.{text-push, before_closed, any_gate, sized_push}
use Rattle.journal.proofs.Files.{front_stays, all_but_one}

-- there is this file alone under the name, and no sync has failed
pub record At (state : State) (name : List ℕ) (file : File) : Type 0 where
  pub entry : state.entries name ≡ only_file file
  pub sound : state.lost ≡ false

pub after_change : (old new : State) (name : List ℕ) (file : File) (change : File → File) → At old name file
    → ChangesFile old new name change → At new name (change file)
after_change old new name file change at changes =
    let some : Some changes.file ≡ Some file = sym changes.was ∙ ap (λ (e : Entry). e.now) at.entry in
    let same : changes.file ≡ file = cc some in
    record {
      entry =
          changes.entry.here
          ∙ ap (λ (e : Entry). record e { now = Some (change changes.file) }) at.entry
          ∙ ap (λ (f : File). only_file (change f)) same;
      sound = changes.entry.lost ∙ at.sound;
    }

pub after_sync : (old new : State) (name : List ℕ) (file : File) → At old name file
    → ChangesFile old new name (λ f. if old.lost then f else settled f.shown) → At new name (settled file.shown)
after_sync old new name file at changes =
    let next = after_change old new name file (λ f. if old.lost then f else settled f.shown) at changes in
    record {
      entry = next.entry ∙ ap (λ (b : Bool). only_file (if b then file else settled file.shown)) at.sound;
      sound
          = next.sound;
    }

-- a crash leaves what it may leave of the file alone
pub leaves : (state : State) (name : List ℕ) (file : File) (P : List (List ℕ) → Type 0)
    → state.entries name ≡ only_file file
    → ((c : List ℕ) → MayBecome file c → (bodies : List (List ℕ)) × HasBatches c bodies × P bodies)
    → LeavesBatches state name P
leaves state name file P entry each octets may = of octets (subst (λ (e : Entry). NameMayLeave e octets) entry may)
  where
    of : (octets : Option (List ℕ)) → NameMayLeave (only_file file) octets
        → IsSomeAnd octets (λ c. (bodies : List (List ℕ)) × HasBatches c bodies × P bodies)
    of None (inl none) = absurd none
    of None (inr (inl none)) = absurd none
    of None (inr (inr moved)) = absurd (cc moved)
    of (Some c) (inl become) = each c become
    of (Some c) (inr (inl none)) = absurd none
    of (Some c) (inr (inr moved)) = absurd (cc moved)

module _ (name : List ℕ) (bodies : List (List ℕ)) (body : List ℕ) (gate : ℕ) (shut : gate ≢ 1)
    (sized : AllByRecursion IsBody bodies) (one : IsBody body) where
  -- the file at rest, and with the batch behind it
  abbrev pub at_rest : List ℕ
  at_rest = batches_text bodies ++ gate ∷ []

  abbrev pub staged : List ℕ
  staged = at_rest ++ closed_batch body

  abbrev Found : List ℕ → Type 0
  Found c = (found : List (List ℕ)) × HasBatches c found × WithOrWithout bodies body found

  closed_front : (file : File) → length at_rest ≤ file.synced → file.rewritten ≡ []
      → take (length at_rest) file.shown ≡ at_rest → (c : List ℕ) → MayBecome file c → Found c
  closed_front file synced none shows c may =
      let junk = drop (length at_rest) c in
      let is : c ≡ batches_text bodies ++ gate ∷ junk = front_stays file at_rest c synced none shows may ∙ append_assoc
      (batches_text bodies) (gate ∷ []) junk in (
        bodies,
        subst (λ (l : List ℕ). HasBatches l bodies) (sym is) (before_closed bodies gate junk shut sized),
        inl
            refl,
      )

  staged_is : staged ≡ batches_text bodies ++ gate ∷ closed_batch body
  staged_is = append_assoc (batches_text bodies) (gate ∷ []) (closed_batch body)

  opening : (octet : ℕ) (c : List ℕ) → MayBecome (overwritten (length (batches_text bodies)) octet (settled staged)) c
      → Found c
  opening octet c may =
      let T = batches_text bodies in
      let is = all_but_one T gate octet (closed_batch body) c
      (subst (λ (l : List ℕ). MayBecome (overwritten (length T) octet (settled l)) c) staged_is may) in
      subst Found (sym is) (any_gate bodies body _ sized one)

  pub rests : (state : State) → At state name (settled at_rest) → LeavesBatches state name (WithOrWithout bodies body)
  rests state at = leaves state name (settled at_rest) (WithOrWithout bodies body) at.entry
      (closed_front (settled at_rest) (omega arith) refl (take_all (length at_rest) at_rest (omega arith)))

  whole_staged : (c : List ℕ) → MayBecome (settled staged) c → Found c
  whole_staged = closed_front (settled staged) (omega (arith, length-append at_rest (closed_batch body))) refl
      (take_at at_rest (closed_batch body) (length at_rest) refl)

  -- the first write fails
  pub append_fails : (old new : State) (fault : DiskFault) → At old name (settled at_rest)
      → FailsAt old new name fault ((n : ℕ) × ChangesFile old new name (appended_in_part n (closed_batch body)))
      → LeavesBatches new name (WithOrWithout bodies body)
  append_fails old new fault at fails = ⊎_elim
      (λ same. rests new (record { entry = same.entries name ∙ at.entry; sound = same.lost ∙ at.sound }))
      (λ part.
      let next = after_change old new name (settled at_rest) (appended_in_part part.0 (closed_batch body)) at part.1 in
      leaves new name (appended_in_part part.0 (closed_batch body) (settled at_rest)) (WithOrWithout bodies body)
      next.entry
      (closed_front (appended_in_part part.0 (closed_batch body) (settled at_rest)) (omega arith) refl
      (take_at at_rest (take part.0 (closed_batch body)) (length at_rest) refl)))
      fails.done

  -- a sync fails, and the file is what it was
  same_file : (old new : State) (fault : DiskFault) → FailsAt old new name fault (Loses old new)
      → new.entries name ≡ old.entries name
  same_file old new fault fails = ⊎_elim (λ same. same.entries name) (λ loses. loses.entries name) fails.done

  pub first_sync_fails : (old new : State) (fault : DiskFault)
      → At old name (appended (closed_batch body) (settled at_rest)) → FailsAt old new name fault (Loses old new)
      → LeavesBatches new name (WithOrWithout bodies body)
  first_sync_fails old new fault at fails =
      leaves new name (appended (closed_batch body) (settled at_rest)) (WithOrWithout bodies body)
      (same_file old new fault fails ∙ at.entry)
      (closed_front (appended (closed_batch body) (settled at_rest)) (omega arith) refl
      (take_at at_rest (closed_batch body) (length at_rest) refl))

  -- the batch is not opened, or it is
  pub opening_fails : (old new : State) (fault : DiskFault) → At old name (settled staged)
      → FailsAt old new name fault ((octet : ℕ) × ChangesFile old new name
      (overwritten (length (batches_text bodies)) octet))
      → LeavesBatches new name (WithOrWithout bodies body)
  opening_fails old new fault at fails = ⊎_elim
      (λ same. leaves new name (settled staged) (WithOrWithout bodies body) (same.entries name ∙ at.entry) whole_staged)
      (λ part.
      let change = overwritten (length (batches_text bodies)) part.0 in
      let next = after_change old new name (settled staged) change at part.1 in
      leaves new name (change (settled staged)) (WithOrWithout bodies body) next.entry (opening part.0))
      fails.done

  pub last_sync_fails : (old new : State) (fault : DiskFault) (octet : ℕ)
      → At old name (overwritten (length (batches_text bodies)) octet (settled staged))
      → FailsAt old new name fault (Loses old new) → LeavesBatches new name (WithOrWithout bodies body)
  last_sync_fails old new fault octet at fails =
      leaves new name (overwritten (length (batches_text bodies)) octet (settled staged)) (WithOrWithout bodies body)
      (same_file old new fault fails ∙ at.entry) (opening octet)

  -- the file with the batch
  pub committed_is : set staged (length (batches_text bodies)) 1 ≡ batches_text (bodies ++ body ∷ []) ++ 254 ∷ []
  committed_is =
      ap (λ (l : List ℕ). set l (length (batches_text bodies)) 1) staged_is
      ∙ set_at (batches_text bodies) gate (closed_batch body) 1 (length (batches_text bodies)) refl
      ∙ sym (append_assoc (batches_text bodies) (open_batch body) (254 ∷ []))
      ∙ sym (text-push bodies body (254 ∷ []))

  pub end_is : length (batches_text bodies) + (5 + length body) ≡ length (batches_text (bodies ++ body ∷ []))
  end_is =
      let whole = ap (λ (l : List ℕ). length l) (sym (append-nil (batches_text (bodies ++ body ∷ []))) ∙ text-push
      bodies body [] ∙ append-nil (batches_text bodies ++ open_batch body)) in
      omega (
        arith,
        whole,
        length-append (batches_text bodies) (open_batch body),
        length-append
            (to_le_bytes w32 (length body)) body,
      )

  -- the batch is there
  more_sized : AllByRecursion IsBody (bodies ++ body ∷ [])
  more_sized = sized_push bodies body sized one

  at_end : (state : State) → At state name (settled (set staged (length (batches_text bodies)) 1))
      → At state name (settled (batches_text (bodies ++ body ∷ []) ++ 254 ∷ []))
  at_end state at = record {
    entry = at.entry ∙ ap (λ (l : List ℕ). only_file (settled l)) committed_is;
    sound
        = at.sound;
  }

  pub committed_leaves : (state : State) → At state name (settled (set staged (length (batches_text bodies)) 1))
      → LeavesBatches state name (WithOrWithout bodies body)
  committed_leaves state at =
      let more = bodies ++ body ∷ [] in
      let whole = batches_text more ++ 254 ∷ [] in
      leaves state name (settled whole) (WithOrWithout bodies body) (at_end state at).entry (λ c may.
      let junk = drop (length whole) c in
      let is : c ≡ batches_text more ++ 254 ∷ junk = front_stays (settled whole) whole c (omega arith) refl
      (take_all (length whole) whole (omega arith)) may ∙ append_assoc (batches_text more) (254 ∷ []) junk in (
        more,
        subst (λ (l : List ℕ). HasBatches l more) (sym is)
            (before_closed more 254 junk (λ zero_is. absurd (cc zero_is)) more_sized),
        inr refl,
      ))

  pub stands : (state : State) (journal : Journal)
      → At state name (settled (set staged (length (batches_text bodies)) 1)) → journal.name ≡ name
      → journal.end ≡ length (batches_text bodies) + (5 + length body) → Stands journal state (bodies ++ body ∷ [])
  stands state journal at name_is end = record {
    gate = 254;
    closed = λ zero_is. absurd (cc zero_is);
    entry = ap state.entries name_is ∙ (at_end state at).entry;
    sound = at.sound;
    end = end ∙ end_is;
    sized = more_sized;
  }
