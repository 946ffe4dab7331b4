-- A side that is read on, entry by entry.
use Rattle.std.proofs.Common.{◌≡◌, ℕ, ◌+◌, ◌*◌, ◌<◌, ◌≤◌, ◌^◌, List, [], ◌∷◌, ◌++◌, length, refl, sym, ap, subst, ◌∙◌}
use Rattle.std.proofs.Common.{append_assoc, arith, inl, inr}
use Rattle.std.proofs.KnownBytes.{Consumes-trans}
use Rattle.std.proofs.lemmas.List.{length-append}
use Rattle.archive_text.specs.Entries.{Entry, Has, IsAscending, IsBelow}
use Rattle.archive_text.specs.Text.{IsArchive, entry_text, text_of}
use Rattle.archive_text.specs.declared.limits.TheConstants.{ENTRY_MAX}
use Rattle.archive_text.proofs.Ascending.{archive_from, ascending_after, below_after}
use Rattle.archive_text.proofs.Members.{of_member}
use Rattle.archive_text.proofs.Texts.{text_goes_on, text_push}
use Rattle.archive_streams.specs.EntryTexts.{entry_in, HoldsEntry, IsAbove}
use Rattle.octet_devices.specs.Device.{InputState}
use Rattle.archive_streams.specs.Pieces.{HasFewCallsOf, ReadsOn, reach, size_of, unused}
use Rattle.archive_streams.specs.Sides.{Due, EndsWith, IsNear, IsNextFault, IsSideStop, IsStopCause, ReadTo, Ready}
use Rattle.archive_streams.specs.declared.entry.EntryText.{EntryText}
use Rattle.archive_streams.specs.declared.fault.SideFault.{SideFault}
use Rattle.archive_streams.specs.declared.fault.SideFault.TheVariants.{Archive, Input}
use Rattle.archive_streams.specs.declared.fault.InputFault.TheVariants.{Device, Endless}
use Rattle.archive_streams.specs.declared.pieces.Pieces.{Pieces}
use Rattle.archive_streams.specs.declared.side.ArchiveReader.{ArchiveReader}
use Rattle.archive_streams.proofs.NextEntries.{some_or_none}

-- so many octets are within what calls of this size can have given
pub within_reach : (size n : ℕ) (p : Pieces) → size_of p ≡ size → n ≤ reach p → n ≤ size * p.calls
within_reach size n p same h = subst (λ (k : ℕ). n ≤ k * p.calls) same h

-- so is the position
pub near_at : (size : ℕ) (r : ArchiveReader) → size_of r.pieces ≡ size → IsNear r
    → r.position + length (unused r.pieces) ≤ size * r.pieces.calls
near_at size r same near = within_reach size (r.position + length (unused r.pieces)) r.pieces same near

-- a reader is called as often as its calls are counted
pub few_calls : (size : ℕ) (s : ArchiveReader) (d e : InputState) (x : List ℕ) → size_of s.pieces ≡ size
    → (d.calls < 2 ^ 63 → e.calls ≡ d.calls + s.pieces.calls) → (d.calls < 2 ^ 63 → e.ends ≡ d.ends + s.pieces.ends)
    → length x ≤ reach s.pieces → HasFewCallsOf size d e x
few_calls size s d e x same h ended far = record {
  calls = λ low. omega (arith, h low, s.pieces.few);
  octets = λ low. omega (
    arith,
    ap (λ (n : ℕ). size * n) (h low),
    within_reach size (length x) s.pieces same far,
  );
  ends = λ low. omega (arith, ended low, s.pieces.once);
}

-- an entry above the last one is above all before it
above_all : (ws : List Entry) (last : EntryText) (e : Entry) → EndsWith ws last → IsAscending ws → IsAbove last e
    → (w : Entry) → Has ws w → IsBelow w e
above_all ws last e ends up above w h = elim (some_or_none last.text.items) [
  | inl none ↦ absurd (subst (λ (l : List Entry). Has l w) (ends.none none) h)
  | inr some ↦ behind (ends.some some)
      (above some)
]
  where
    behind : (before : List Entry) × (ws ≡ before ++ entry_in last ∷ []) → IsBelow (entry_in last) e → IsBelow w e
    behind (before, same) below =
        of_member (λ (x : Entry). IsBelow x e) (before ++ entry_in last ∷ []) w
        (below_after before (entry_in last) e (subst IsAscending same up) below)
        (subst (λ (l : List Entry). Has l w) same h)

-- so an archive goes on with it
archive_on : (es : List Entry) (last t : EntryText) → EndsWith es last → IsArchive ENTRY_MAX es → HoldsEntry t
    → IsAbove last (entry_in t) → IsArchive ENTRY_MAX (es ++ entry_in t ∷ [])
archive_on es last t ends archive h above =
    archive_from ENTRY_MAX es (entry_in t) archive h.entry h.fits
    (elim (some_or_none last.text.items) [
      | inl none ↦ alone (ends.none none)
      | inr some ↦ behind (ends.some some)
          (above some)
    ])
  where
    alone : es ≡ [] → IsAscending (es ++ entry_in t ∷ [])
    alone none = subst (λ (l : List Entry). IsAscending (l ++ entry_in t ∷ [])) (sym none) (tt, tt)

    behind : (before : List Entry) × (es ≡ before ++ entry_in last ∷ []) → IsBelow (entry_in last) (entry_in t)
        → IsAscending (es ++ entry_in t ∷ [])
    behind (before, same) below =
        subst (λ (l : List Entry). IsAscending (l ++ entry_in t ∷ [])) (sym same)
        (ascending_after before (entry_in last) (entry_in t) (subst IsAscending same archive.ascending) below)

-- what was given, and what was given then
given_on : (s t : ArchiveReader) (d e f : InputState) (x : List ℕ) (es : List Entry) → ReadTo s d e x es
    → (r : ReadsOn s.pieces t.pieces e f (unused s.pieces) (t.entry.text.items ++ unused t.pieces))
    → x ++ r.more ≡ text_of es ++ (t.entry.text.items ++ unused t.pieces)
given_on s t d e f x es read r =
    ap (λ (u : List ℕ). u ++ r.more) read.parts ∙ append_assoc (text_of es) (unused s.pieces) r.more
    ∙ ap (λ (u : List ℕ). text_of es ++ u) (sym r.grown)

-- the next entry was read
pub read_next : (s t : ArchiveReader) (d e f : InputState) (x : List ℕ) (es : List Entry) (last : EntryText)
    → ReadTo s d e x es → EndsWith es last → HoldsEntry t.entry → IsAbove last (entry_in t.entry)
    → (r : ReadsOn s.pieces t.pieces e f (unused s.pieces) (t.entry.text.items ++ unused t.pieces))
    → t.position ≡ s.position + length t.entry.text.items
    → ReadTo t d f (x ++ r.more) (es ++ entry_in t.entry ∷ [])
read_next s t d e f x es last read ends h above r position = record {
  consumed = Consumes-trans d.left e.left f.left _ _ read.consumed r.consumed;
  parts = text_goes_on es (entry_in t.entry) (x ++ r.more) (t.entry.text.items ++ unused t.pieces) (unused t.pieces)
      (given_on s t d e f x es read r) (ap (λ (u : List ℕ). u ++ unused t.pieces) h.text_is);
  archive = archive_on es last t.entry ends read.archive h above;
  position = omega (
    arith,
    position,
    read.position,
    ap length (text_push es (entry_in t.entry)),
    length-append (text_of es) (entry_text (entry_in t.entry)),
    ap length h.text_is,
  );
  far = omega (arith, read.far, r.far, length-append x r.more);
  calls = λ low.
      let first = read.calls low in
      omega (arith, first, r.calls (omega (arith, low, first)));
  ends = λ low.
      let first = read.calls low in
      omega (arith, read.ends low, r.ends (omega (arith, low, first)));
  at_end = r.at_end read.at_end;
}

-- the end was found
pub read_end : (s t : ArchiveReader) (d e f : InputState) (x : List ℕ) (es : List Entry) → ReadTo s d e x es
    → (r : ReadsOn s.pieces t.pieces e f (unused s.pieces) (t.entry.text.items ++ unused t.pieces))
    → t.entry.text.items ≡ [] → t.position ≡ s.position + length t.entry.text.items → ReadTo t d f (x ++ r.more) es
read_end s t d e f x es read r none position = record {
  consumed = Consumes-trans d.left e.left f.left _ _ read.consumed r.consumed;
  parts = given_on s t d e f x es read r ∙ ap (λ (u : List ℕ). text_of es ++ (u ++ unused t.pieces)) none;
  archive = read.archive;
  position = omega (arith, position, read.position, ap length none);
  far = omega (arith, read.far, r.far, length-append x r.more);
  calls = λ low.
      let first = read.calls low in
      omega (arith, first, r.calls (omega (arith, low, first)));
  ends = λ low.
      let first = read.calls low in
      omega (arith, read.ends low, r.ends (omega (arith, low, first)));
  at_end = r.at_end read.at_end;
}

-- a side is ready again
pub ready_next : (s t : ArchiveReader) (d e f : InputState) (es ws : List Entry) (last : EntryText) → Due s d e es last
    → EndsWith ws last → IsAscending ws → HoldsEntry t.entry → IsAbove last (entry_in t.entry)
    → ReadsOn s.pieces t.pieces e f (unused s.pieces) (t.entry.text.items ++ unused t.pieces)
    → t.position ≡ s.position + length t.entry.text.items → Ready t d f es ws
ready_next s t d e f es ws last due ends up h above r position = record {
  x = due.x ++ r.more;
  es = es ++ entry_in t.entry ∷ [];
  read = read_next s t d e f due.x es last due.read due.ends h above r position;
  place = inl (h, refl, above_all ws last (entry_in t.entry) ends up above);
}

pub ready_end : (s t : ArchiveReader) (d e f : InputState) (es ws : List Entry) (last : EntryText) → Due s d e es last
    → ReadsOn s.pieces t.pieces e f (unused s.pieces) (t.entry.text.items ++ unused t.pieces)
    → t.position ≡ s.position + length t.entry.text.items
    → (t.entry.text.items ≡ []) × (unused t.pieces ≡ []) × (0 < t.pieces.ends) → Ready t d f es ws
ready_end s t d e f es ws last due r position end = record {
  x = due.x ++ r.more;
  es = es;
  read = read_end s t d e f due.x es due.read r end.0 position;
  place = inr (end.0, refl, end.1, end.2);
}

-- why a side stops
stop_cause : (fault : SideFault) (s t : ArchiveReader) (x rest : List ℕ) (es : List Entry) (last : EntryText)
    → IsArchive ENTRY_MAX es → EndsWith es last → s.position ≡ length (text_of es) → x ≡ text_of es ++ rest
    → IsNextFault fault last s.position rest t.pieces → IsStopCause fault t x rest es
stop_cause (Archive fault) s t x rest es last archive ends position parts wrong = (
  wrong.0 es archive ends (sym position),
  wrong.1,
  λ at.
      wrong.2 (omega (arith, at, ap length parts, length-append (text_of es) rest, position)),
)
stop_cause (Input Device) s t x rest es last archive ends position parts wrong = wrong
stop_cause (Input Endless) s t x rest es last archive ends position parts wrong = wrong

-- a side stops
pub side_stops : (fault : SideFault) (s t : ArchiveReader) (d e f : InputState) (es : List Entry) (last : EntryText)
    → Due s d e es last → ReadsOn s.pieces t.pieces e f (unused s.pieces) (t.entry.text.items ++ unused t.pieces)
    → IsNextFault fault last s.position (t.entry.text.items ++ unused t.pieces) t.pieces → IsSideStop fault t d f es
side_stops fault s t d e f es last due r wrong =
    let rest = t.entry.text.items ++ unused t.pieces in
    let parts : due.x ++ r.more ≡ text_of es ++ rest = given_on s t d e f due.x es due.read r in
    record {
      x = due.x ++ r.more;
      rest = rest;
      consumed = Consumes-trans d.left e.left f.left _ _ due.read.consumed r.consumed;
      parts = parts;
      archive = due.read.archive;
      cause = stop_cause fault s t (due.x ++ r.more) rest es last due.read.archive due.ends due.read.position parts
          wrong;
      far = omega (arith, due.read.far, r.far, length-append due.x r.more);
      calls = λ low.
          let first = due.read.calls low in
          omega (arith, first, r.calls (omega (arith, low, first)));
      ends = λ low.
          let first = due.read.calls low in
          omega (arith, due.read.ends low, r.ends (omega (arith, low, first)));
      at_end = r.at_end due.read.at_end;
    }
