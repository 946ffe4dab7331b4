-- Entries are read and gathered.
use Rattle.std.proofs.Common.{◌≡◌, ◌⊎◌, inl, inr, ⊎_elim, ℕ, ◌+◌, ◌<◌, ◌≤◌, ◌^◌, List, [], ◌∷◌, ◌++◌, length, refl, sym, ap, subst}
use Rattle.std.proofs.Common.{append-nil, append_assoc, arith, length-append, ◌∙◌}
use Rattle.std.specs.Prelude.{Err, MatchResult, None, Ok, Result}
use Rattle.std.proofs.KnownBytes.{Consumes-nil}
use Rattle.octet_devices.specs.Device.{InputState, count_on}
use Rattle.archive_pages.specs.Paged.{at_most_all, entries_in}
use Rattle.archive_streams.specs.Entries.{Ends, Halts, IsBegun, IsCutShort, IsWhole, Reads, ReadsOne, current}
use Rattle.archive_streams.specs.Entries.{still_to_come}
use Rattle.archive_streams.specs.Faults.{SideFailures}
use Rattle.archive_streams.specs.declared.entries.ArchiveEntries.{ArchiveEntries}
use Rattle.archive_streams.specs.declared.fault.InputFault.TheVariants.{Device, Endless}
use Rattle.archive_streams.specs.declared.fault.SideFault.{SideFault}
use Rattle.archive_streams.specs.declared.fault.SideFault.TheVariants.{Archive, Input as Of_reader}
use Rattle.archive_streams.proofs.EntrySteps.{begun, begun_whole}
use Rattle.archive_text.specs.Entries.{Entry, IsAscending}
use Rattle.archive_text.specs.Text.{IsArchive, entry_text, text_of}
use Rattle.archive_text.specs.declared.limits.TheConstants.{ENTRY_MAX}
use Rattle.archive_text.proofs.Ascending.{archive_nil, archive_right, ascending_right, same_members}
use Rattle.archive_text.proofs.Members.{has_either, has_left, has_right}
use Rattle.archive_text.proofs.Texts.{text_length, text_push, text_some}
use Rattle.durable_store.specs.Recovery.{Adds}
use Rattle.durable_store.proofs.Growth.{entry_fits}
use Rattle.store_addition.specs.Additions.{Counts, FailuresAt}
use Rattle.store_addition.specs.Adding.{Began, Gathering, Halted, IsCounted, IsFresh, IsNext, KeepsGathered}
use Rattle.store_addition.specs.Adding.{IsInRoom, Looking, Takes, WholeRead}
use Rattle.store_addition.specs.declared.adding.TheConstants.{PIECE_OCTETS}
use Rattle.store_addition.specs.declared.adding.Adding.{Adding}
use Rattle.store_addition.specs.declared.addition.Addition.{Addition}
use Rattle.store_addition.specs.declared.fault.AddFault.{AddFault}
use Rattle.store_addition.specs.declared.fault.AddFault.TheVariants.{Input, Segment, Memory}

-- ---- counts

pub none_counted : (added : Addition) → added.entries ≡ 0 → added.last ≡ None → Counts added []
none_counted added number none = record {
  number = number;
  none = λ is. none;
  latest = λ before e is. absurd (omega (arith, ap length is, length-append before (e ∷ [])));
}

last_of : (a b : List Entry) (x y : Entry) → a ++ x ∷ [] ≡ b ++ y ∷ [] → x ≡ y
last_of [] [] x y is = cc is
last_of [] (e ∷ b) x y is = absurd (omega (arith, ap length is, length-append b (y ∷ [])))
last_of (e ∷ a) [] x y is = absurd (omega (arith, ap length is, length-append a (x ∷ [])))
last_of (e ∷ a) (f ∷ b) x y is =
    let behind : a ++ x ∷ [] ≡ b ++ y ∷ [] = cc is in
    last_of a b x y behind

counted_more : (s t : Addition) (es : List Entry) (x : Entry) → length es < 2 ^ 63
    → t.entries ≡ at_most_all (s.entries + 1) → t.last ≡ x.instant → Counts s es → Counts t (es ++ x ∷ [])
counted_more s t es x few number last counts = record {
  number = omega (arith, few, number, counts.number, length-append es (x ∷ []));
  none = λ is. absurd (omega (arith, ap length is, length-append es (x ∷ [])));
  latest = λ before e is. last ∙ ap (λ (y : Entry). y.instant) (last_of es before x e is);
}

-- ---- sizes

pub few_of : (es : List Entry) → length es ≤ length (text_of es)
few_of [] = omega arith
few_of (e ∷ es) = omega (arith, few_of es, text_some e, length-append (entry_text e) (text_of es))

short_read : (d e : InputState) (es : List Entry) → IsBegun d e es → length (text_of es) < 2 ^ 62
short_read d e es b = omega (arith, b.short, ap length b.parts, length-append (text_of es) b.rest)

-- ---- nothing was read yet

pub none_gathered : (s : Adding) (d : InputState) → IsFresh s → Gathering s d d []
none_gathered s d fresh = record {
  reads = subst (Reads s.entries d d) (sym fresh.none_waits) (fresh.none_read d);
  counted = record {
    adds = fresh.none_added;
    gathers = subst (Counts s.gathered) (sym fresh.none_waits) fresh.none_gathered;
    size = fresh.no_octets ∙ ap (λ (l : List Entry). length (text_of l)) (sym fresh.none_waits);
  };
}

-- ---- an entry is read

counted_kept : (s t : Adding) (done : List Entry) → KeepsGathered s t → IsCounted s done → IsCounted t done
counted_kept s t done kept counted = record {
  adds = subst (λ (a : Addition). Counts a done) (sym kept.same_added) counted.adds;
  gathers =
      subst (λ (a : Addition). Counts a (done ++ entries_in t.piece)) (sym kept.same_gathered)
      (subst (λ (l : List Entry). Counts s.gathered (done ++ l)) (sym kept.same_piece) counted.gathers);
  size = kept.same_size ∙ counted.size ∙ ap (λ (l : List Entry). length (text_of l)) (sym kept.same_piece);
}

pub looks : (s m : Adding) (d e f : InputState) (done : List Entry) → KeepsGathered s m
    → ReadsOne s.entries m.entries e f → Gathering s d e done → Looking m d f done
looks s m d e f done kept one g = record {
  reads =
      subst (λ (l : List Entry). Reads m.entries d f ((done ++ l) ++ current m.entries ∷ [])) (sym kept.same_piece)
      (one.reads d (done ++ entries_in s.piece) g.reads);
  counted = counted_kept s m done kept g.counted;
}

-- it is one
pub is_next : (s : Adding) (d e : InputState) (done : List Entry) → Looking s d e done → IsNext s
is_next s d e done w =
    let all = (done ++ entries_in s.piece) ++ current s.entries ∷ [] in
    let read : IsBegun d e all = begun s.entries d e all w.reads in
    let last : IsArchive ENTRY_MAX (current s.entries ∷ []) =
    archive_right ENTRY_MAX (done ++ entries_in s.piece) (current s.entries ∷ []) read.archive in
    record { is = last.entries.0; fits = last.fits.0 }

-- it is put behind those of the piece
pushed : (old new : List Entry) (x : Entry) → IsAscending (old ++ x ∷ []) → IsAscending new
    → Adds old new (λ e. x ≡ e) → new ≡ old ++ x ∷ []
pushed old new x ascending also adds =
    same_members new (old ++ x ∷ []) also ascending
    (λ e has. ⊎_elim (λ before. has_left old (x ∷ []) e before) (λ is. has_right old (x ∷ []) e (inl is)) ((adds e).0 has))
    (λ e has. (adds e).1 (⊎_elim (λ before. inl before)
    (λ last. ⊎_elim (λ is. inr is) (λ none. absurd none) last) (has_either old (x ∷ []) e has)))

pub takes_one : (s t : Adding) (d e : InputState) (done : List Entry) → t.entries ≡ s.entries → Takes s t
    → Looking s d e done → Gathering t d e done
takes_one s t d e done same takes w =
    let x = current s.entries in
    let piece = entries_in s.piece in
    let read : IsBegun d e ((done ++ piece) ++ x ∷ []) = begun s.entries d e ((done ++ piece) ++ x ∷ []) w.reads in
    let behind : (done ++ piece) ++ x ∷ [] ≡ done ++ (piece ++ x ∷ []) = append_assoc done piece (x ∷ []) in
    let is : entries_in t.piece ≡ piece ++ x ∷ [] =
    pushed piece (entries_in t.piece) x
    (ascending_right done (piece ++ x ∷ []) (subst IsAscending behind read.archive.ascending))
    t.piece.paged.archive.ascending takes.adds in
    let all : (done ++ piece) ++ x ∷ [] ≡ done ++ entries_in t.piece =
    behind ∙ ap (λ (l : List Entry). done ++ l) (sym is) in
    let short = short_read d e ((done ++ piece) ++ x ∷ []) read in
    record {
      reads =
          subst (λ (n : ArchiveEntries). Reads n d e (done ++ entries_in t.piece)) (sym same)
          (subst (λ (l : List Entry). Reads s.entries d e l) all w.reads);
      counted = record {
        adds = subst (λ (a : Addition). Counts a done) (sym takes.same_added) w.counted.adds;
        gathers =
            subst (Counts t.gathered) all
            (counted_more s.gathered t.gathered (done ++ piece) x
            (omega (
              arith,
              short,
              few_of ((done ++ piece) ++ x ∷ []),
              length-append (done ++ piece) (x ∷ []),
            ))
            takes.number takes.latest w.counted.gathers);
        size = omega (
          arith,
          takes.size,
          w.counted.size,
          ap (λ (l : List Entry). length (text_of l)) is,
          ap length (text_push piece x),
          length-append (text_of piece) (entry_text x),
          entry_fits x (is_next s d e done w).fits,
          short,
          ap (λ (l : List Entry). length (text_of l)) behind,
          text_length done (piece ++ x ∷ []),
        );
      };
    }

-- ---- the end is found

pub ends_whole : (s m : Adding) (d e f : InputState) (done : List Entry) → KeepsGathered s m
    → Ends s.entries m.entries e f → Gathering s d e done → WholeRead m d f done
ends_whole s m d e f done kept ends g = record {
  whole =
      subst (λ (l : List Entry). IsWhole d f (done ++ l)) (sym kept.same_piece)
      (ends.whole d (done ++ entries_in s.piece) g.reads);
  counted = counted_kept s m done kept g.counted;
}

-- ---- or a fault stops it

pub halts : (fault : SideFault) (s m : Adding) (d e f : InputState) (done : List Entry) → KeepsGathered s m
    → Halts fault s.entries m.entries e f → Gathering s d e done → Halted (Input fault) m d f done
halts fault s m d e f done kept h g = record {
  behind = [];
  read =
      subst (IsCutShort fault d f) (sym (append-nil (done ++ entries_in m.piece)))
      (subst (λ (l : List Entry). IsCutShort fault d f (done ++ l)) (sym kept.same_piece)
      (h.cut_short d (done ++ entries_in s.piece) g.reads));
  all = λ is. refl;
  kind = tt;
  counted = counted_kept s m done kept g.counted;
}

-- there is no memory for the entry that was read last
pub halts_full : (s t : Adding) (d e : InputState) (done : List Entry) → t.entries ≡ s.entries → KeepsGathered s t
    → Looking s d e done → Halted Memory t d e done
halts_full s t d e done same kept w =
    let x = current s.entries in
    record {
      behind = x ∷ [];
      read =
          subst (λ (l : List Entry). IsBegun d e ((done ++ l) ++ x ∷ [])) (sym kept.same_piece)
          (begun s.entries d e ((done ++ entries_in s.piece) ++ x ∷ []) w.reads);
      all = λ of. absurd of;
      kind = tt;
      counted = counted_kept s t done kept w.counted;
    }

-- ---- whatever came

began_with : (s : Adding) (d e : InputState) (done : List Entry) → IsCounted s done
    → IsBegun d e (done ++ entries_in s.piece) → Began s d e done
began_with s d e done counted read = record {
  behind = [];
  read = subst (IsBegun d e) (sym (append-nil (done ++ entries_in s.piece))) read;
  counted = counted;
}

pub began_piece : (s : Adding) (d e : InputState) (done : List Entry) → Gathering s d e done → Began s d e done
began_piece s d e done g = began_with s d e done g.counted (begun s.entries d e (done ++ entries_in s.piece) g.reads)

pub began_whole : (s : Adding) (d e : InputState) (done : List Entry) → WholeRead s d e done → Began s d e done
began_whole s d e done w = began_with s d e done w.counted (begun_whole d e (done ++ entries_in s.piece) w.whole)

pub began_halted : (fault : AddFault) (s : Adding) (d e : InputState) (done : List Entry) → Halted fault s d e done
    → Began s d e done
began_halted (Input fault) s d e done h = record {
  behind = h.behind;
  read = record {
    given = h.read.given;
    rest = h.read.rest;
    consumed = h.read.consumed;
    parts = h.read.front.parts;
    archive = h.read.front.archive;
    few = h.read.few;
    short = h.read.short;
  };
  counted = h.counted;
}
began_halted (Segment fault) s d e done h = absurd h.kind
began_halted Memory s d e done h = record { behind = h.behind; read = h.read; counted = h.counted }

-- ---- how often the reader failed

pub side_failures : {X : Type 0} (r : Result X SideFault) (old new : ℕ) → SideFailures r old new
    → MatchResult r (λ _. new ≡ old) (λ fault. FailuresAt (Input fault) old new)
side_failures (Ok x) old new is = is
side_failures (Err (Archive fault)) old new is = is
side_failures (Err (Of_reader Device)) old new is = is
side_failures (Err (Of_reader Endless)) old new is = is

either_failures : (fault : AddFault) (old new : ℕ) → FailuresAt fault old new → (new ≡ old) ⊎ (new ≡ count_on old)
either_failures (Input (Archive fault)) old new is = inl is
either_failures (Input (Of_reader Device)) old new is = inr is
either_failures (Input (Of_reader Endless)) old new is = inl is
either_failures (Segment fault) old new is = is
either_failures Memory old new is = inl is

pub result_failures : {X : Type 0} (r : Result X AddFault) (old new : ℕ)
    → MatchResult r (λ _. new ≡ old) (λ fault. FailuresAt fault old new) → (new ≡ old) ⊎ (new ≡ count_on old)
result_failures (Ok x) old new is = inl is
result_failures (Err fault) old new is = either_failures fault old new is

-- ---- before anything was read

pub none_begun : (d : InputState) → IsBegun d d []
none_begun d = record {
  given = [];
  rest = [];
  consumed = Consumes-nil d.left;
  parts = refl;
  archive = archive_nil ENTRY_MAX;
  few = record { calls = λ low. omega arith; octets = λ low. omega arith; ends = λ low. omega arith };
  short = omega arith;
}

-- ---- from entry to entry

-- less is still to come than at first
pub nearer_then : (first s t : Adding) → (s ≡ first) ⊎ (still_to_come s.entries < still_to_come first.entries)
    → still_to_come t.entries < still_to_come s.entries → still_to_come t.entries < still_to_come first.entries
nearer_then first s t (inl same) near =
    subst (λ (a : Adding). still_to_come t.entries < still_to_come a.entries) same near
nearer_then first s t (inr less) near = omega (arith, less, near)

-- an entry more is in the room
pub takes_room : (s m t : Adding) → s.octets < PIECE_OCTETS → KeepsGathered s m → IsNext m → Takes m t → IsInRoom t
takes_room s m t below kept next takes =
    omega (arith, below, kept.same_size, takes.size, entry_fits (current m.entries) next.fits)
