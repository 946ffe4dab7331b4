-- An archive that is read entry by entry, as its user sees it.
use Rattle.std.proofs.Common.{◌≡◌, ℕ, ◌+◌, ◌-◌, ◌*◌, ◌<◌, List, [], ◌∷◌, ◌++◌, length, refl, sym, ap, subst, ◌∙◌}
use Rattle.std.proofs.Common.{append-nil, arith}
use Rattle.std.specs.Prelude.{◌≢◌}
use Rattle.std.specs.Fmt.{decimal}
use Rattle.std.specs.Io.KnownBytes.{Consumes}
use Rattle.std.proofs.KnownBytes.{Consumes-nil}
use Rattle.std.proofs.lemmas.List.{length-append}
use Rattle.octet_devices.specs.Device.{InputState}
use Rattle.octet_devices.specs.declared.loops.TheConstants.{READER_CALLS}
use Rattle.archive_text.specs.Entries.{Entry}
use Rattle.archive_text.specs.Faults.{IsLongestArchive}
use Rattle.archive_text.specs.Text.{text_of}
use Rattle.archive_text.specs.declared.fault.ArchiveFault.TheVariants.{BadFrame}
use Rattle.archive_text.specs.declared.limits.TheConstants.{ENTRY_MAX}
use Rattle.archive_text.proofs.Ascending.{archive_nil}
use Rattle.archive_text.proofs.Prefixes.{archive_fault, longest_faulty}
use Rattle.archive_streams.specs.Entries.{HasRead, IsBegun, IsCauseOf, IsCutShort, IsWhole, Reads}
use Rattle.archive_streams.specs.EntryTexts.{entry_in, HoldsEntry, IsAbove}
use Rattle.archive_streams.specs.Pieces.{HasFewLargeCalls, ReadsOn, size_of, unused}
use Rattle.archive_streams.specs.Sides.{Due, IsNear, IsNextFault, IsSideStop, ReadTo}
use Rattle.archive_streams.specs.declared.entries.ArchiveEntries.{ArchiveEntries}
use Rattle.archive_streams.specs.declared.entry.EntryText.{EntryText}
use Rattle.archive_streams.specs.declared.fault.InputFault.TheVariants.{Device, Endless}
use Rattle.archive_streams.specs.declared.fault.SideFault.{SideFault}
use Rattle.archive_streams.specs.declared.fault.SideFault.TheVariants.{Archive, Input}
use Rattle.archive_streams.specs.declared.pieces.TheConstants.{ENTRIES_READ_MAX}
use Rattle.archive_streams.specs.declared.progress.Progress.{Progress}
use Rattle.archive_streams.specs.declared.progress.Progress.TheVariants.{Open, Ended, Stopped}
use Rattle.archive_streams.specs.declared.side.ArchiveReader.{ArchiveReader}
use Rattle.archive_streams.proofs.Merges.{ends_with}
use Rattle.archive_streams.proofs.SideSteps.{few_calls, near_at, within_reach, read_end, read_next, side_stops}

-- before the first call nothing was read
pub none_read : (s : ArchiveReader) (d : InputState) → unused s.pieces ≡ [] → s.position ≡ 0 → s.pieces.calls ≡ 0
    → s.pieces.ends ≡ 0 → s.entry.text.items ≡ [] → Due s d d [] s.entry
none_read s d none first calls ends empty = record {
  x = [];
  read = record {
    consumed = Consumes-nil d.left;
    parts = sym none;
    archive = archive_nil ENTRY_MAX;
    position = first;
    far = omega arith;
    calls = λ low. omega (arith, calls);
    ends = λ low. omega (arith, ends);
    at_end = λ some. absurd (omega (arith, some, ends));
  };
  ends = record { none = λ e. refl; some = λ some. absurd (some empty) };
}

-- the text of an entry has octets
some_text : (t : EntryText) → HoldsEntry t → t.text.items ≢ []
some_text t h none = omega (
  arith,
  ap length none,
  ap length h.text_is,
  length-append (decimal (length (entry_in t).octets)) (32 ∷ (entry_in t).octets),
)

-- the next entry is due behind the one that was read last
due_behind : (p : Progress) (s : ArchiveReader) (last : EntryText) (d e : InputState) (es : List Entry) → p ≡ Open
    → last ≡ s.entry → HasRead p s d e es → Due s d e es last
due_behind p s last d e es still same read =
    subst (Due s d e es) (sym same) (subst (λ (q : Progress). HasRead q s d e es) still read)

-- one entry more is read
pub goes_on : (p : Progress) (s t : ArchiveReader) (last : EntryText) (d e f : InputState) (es : List Entry) → p ≡ Open
    → last ≡ s.entry → HoldsEntry t.entry → IsAbove last (entry_in t.entry)
    → ReadsOn s.pieces t.pieces e f (unused s.pieces) (t.entry.text.items ++ unused t.pieces)
    → t.position ≡ s.position + length t.entry.text.items → HasRead p s d e es
    → HasRead p t d f (es ++ entry_in t.entry ∷ [])
goes_on p s t last d e f es still same h above r position read =
    let due : Due s d e es last = due_behind p s last d e es still same read in
    let next : Due t d f (es ++ entry_in t.entry ∷ []) t.entry = record {
      x = due.x ++ r.more;
      read = read_next s t d e f due.x es last due.read due.ends h above r position;
      ends = ends_with es t.entry (some_text t.entry h);
    } in
    subst (λ (q : Progress). HasRead q t d f (es ++ entry_in t.entry ∷ [])) (sym still) next

-- and fewer octets are still to come
pub comes_nearer : (s t : ArchiveReader) → size_of t.pieces ≡ ENTRIES_READ_MAX → IsNear t → HoldsEntry t.entry
    → t.position ≡ s.position + length t.entry.text.items
    → ENTRIES_READ_MAX * READER_CALLS - t.position < ENTRIES_READ_MAX * READER_CALLS - s.position
comes_nearer s t size near h position =
    omega (
      arith,
      near_at ENTRIES_READ_MAX t size near,
      t.pieces.few,
      position,
      ap length h.text_is,
      length-append (decimal (length (entry_in t.entry).octets)) (32 ∷ (entry_in t.entry).octets),
    )

-- the end is found
whole_of : (t : ArchiveReader) (d f : InputState) (x : List ℕ) (es : List Entry)
    → size_of t.pieces ≡ ENTRIES_READ_MAX → ReadTo t d f x es
    → unused t.pieces ≡ [] → 0 < t.pieces.ends → IsWhole d f es
whole_of t d f x es size r none ended =
    let whole : x ≡ text_of es = r.parts ∙ ap (λ (u : List ℕ). text_of es ++ u) none ∙ append-nil (text_of es) in
    record {
      archive = r.archive;
      consumed = subst (Consumes d.left f.left) whole r.consumed;
      few = subst (HasFewLargeCalls d f) whole (few_calls ENTRIES_READ_MAX t d f x size r.calls r.ends r.far);
      short = omega (
        arith,
        ap length whole,
        within_reach ENTRIES_READ_MAX (length x) t.pieces size r.far,
        t.pieces.few,
      );
      ended = λ low. omega (arith, r.ends low, ended);
      none_left = r.at_end ended;
    }

pub ends_whole : (p : Progress) (s t : ArchiveReader) (last : EntryText) (d e f : InputState) (es : List Entry)
    → p ≡ Open → last ≡ s.entry → size_of s.pieces ≡ ENTRIES_READ_MAX
    → ReadsOn s.pieces t.pieces e f (unused s.pieces) (t.entry.text.items ++ unused t.pieces)
    → t.position ≡ s.position + length t.entry.text.items
    → (t.entry.text.items ≡ []) × (unused t.pieces ≡ []) × (0 < t.pieces.ends) → HasRead p s d e es → IsWhole d f es
ends_whole p s t last d e f es still same size r position end read =
    let due : Due s d e es last = due_behind p s last d e es still same read in
    whole_of t d f (due.x ++ r.more) es (r.size ∙ size) (read_end s t d e f due.x es due.read r end.0 position) end.1 end.2

-- ---- it stops

cause_of : (fault : SideFault) (s : ArchiveReader) (d e : InputState) (es : List Entry) → (t : IsSideStop fault s d e es)
    → IsCauseOf fault d e t.x
cause_of (Archive fault) s d e es t = (
  archive_fault ENTRY_MAX t.x es t.rest fault (omega arith) t.archive t.parts t.cause.1 t.cause.0,
  λ at. (λ low. omega (arith, t.ends low, t.cause.2 at), t.at_end (t.cause.2 at)),
)
cause_of (Input Device) s d e es t = tt
cause_of (Input Endless) s d e es t =
    (λ low. omega (arith, t.calls low, t.cause.1), λ low. omega (arith, t.ends low, t.cause.2))

front_of : (fault : SideFault) (s : ArchiveReader) (d e : InputState) (es : List Entry) → (t : IsSideStop fault s d e es)
    → IsLongestArchive ENTRY_MAX t.x es t.rest
front_of (Archive fault) s d e es t =
    longest_faulty ENTRY_MAX t.x es t.rest fault (omega arith) t.archive t.parts t.cause.0
front_of (Input Device) s d e es t =
    longest_faulty ENTRY_MAX t.x es t.rest (BadFrame (length (text_of es) + length t.rest)) (omega arith) t.archive
    t.parts (length t.rest, t.cause, refl)
front_of (Input Endless) s d e es t =
    longest_faulty ENTRY_MAX t.x es t.rest (BadFrame (length (text_of es) + length t.rest)) (omega arith) t.archive
    t.parts (length t.rest, t.cause.0, refl)

pub stops_short : (fault : SideFault) (p : Progress) (s t : ArchiveReader) (last : EntryText) (d e f : InputState)
    (es : List Entry) → p ≡ Open → last ≡ s.entry → size_of s.pieces ≡ ENTRIES_READ_MAX
    → ReadsOn s.pieces t.pieces e f (unused s.pieces) (t.entry.text.items ++ unused t.pieces)
    → IsNextFault fault last s.position (t.entry.text.items ++ unused t.pieces) t.pieces → HasRead p s d e es
    → IsCutShort fault d f es
stops_short fault p s t last d e f es still same size r wrong read =
    let stop : IsSideStop fault t d f es =
    side_stops fault s t d e f es last (due_behind p s last d e es still same read) r wrong in
    record {
      given = stop.x;
      rest = stop.rest;
      consumed = stop.consumed;
      front = front_of fault t d f es stop;
      few = few_calls ENTRIES_READ_MAX t d f stop.x (r.size ∙ size) stop.calls stop.ends stop.far;
      short = omega (
        arith,
        within_reach ENTRIES_READ_MAX (length stop.x) t.pieces (r.size ∙ size) stop.far,
        t.pieces.few,
      );
      cause = cause_of fault t d f es stop;
    }

-- what was given up to now begins with the entries that were read
begun_due : (s : ArchiveReader) (d e : InputState) (es : List Entry) → size_of s.pieces ≡ ENTRIES_READ_MAX
    → Due s d e es s.entry → IsBegun d e es
begun_due s d e es size due = record {
  given = due.x;
  rest = unused s.pieces;
  consumed = due.read.consumed;
  parts = due.read.parts;
  archive = due.read.archive;
  few = few_calls ENTRIES_READ_MAX s d e due.x size due.read.calls due.read.ends due.read.far;
  short = omega (arith, within_reach ENTRIES_READ_MAX (length due.x) s.pieces size due.read.far, s.pieces.few);
}

pub begun_whole : (d e : InputState) (es : List Entry) → IsWhole d e es → IsBegun d e es
begun_whole d e es whole = record {
  given = text_of es;
  rest = [];
  consumed = whole.consumed;
  parts = sym (append-nil (text_of es));
  archive = whole.archive;
  few = whole.few;
  short = whole.short;
}

begun_short : (fault : SideFault) (d e : InputState) (es : List Entry) → IsCutShort fault d e es → IsBegun d e es
begun_short fault d e es short = record {
  given = short.given;
  rest = short.rest;
  consumed = short.consumed;
  parts = short.front.parts;
  archive = short.front.archive;
  few = short.few;
  short = short.short;
}

pub begun : (s : ArchiveEntries) (d e : InputState) (es : List Entry) → Reads s d e es → IsBegun d e es
begun s d e es reads = by_progress s.progress reads
  where
    by_progress : (p : Progress) → HasRead p s.reader d e es → IsBegun d e es
    by_progress Open due = begun_due s.reader d e es s.size due
    by_progress Ended whole = begun_whole d e es whole
    by_progress (Stopped fault) short = begun_short fault d e es short
