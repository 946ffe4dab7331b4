-- The steps of a count.
use Rattle.std.proofs.Common.{◌≡◌, ℕ, ◌^◌, ◌<◌, List, [], ◌∷◌, ◌++◌, Option, length, refl, sym, ap, subst, false, ◌∙◌, arith}
use Rattle.std.proofs.lemmas.List.{length-append}
use Rattle.octet_devices.specs.Device.{InputState}
use Rattle.syslog_value.specs.Parts.{Parts}
use Rattle.std.specs.Prelude.{ℤ, OnOk, Result, Ok, Err, is_err}
use Rattle.syslog_fields.specs.Appending.{Adds}
use Rattle.syslog_reading.specs.WellFormed.{WellFormed}
use Rattle.syslog_grammar.proofs.CanonicalParses.{canonical_well_formed}
use Rattle.archive_text.specs.Entries.{Entry, IsEntry}
use Rattle.archive_text.specs.Text.{text_of}
use Rattle.archive_text.proofs.Members.{has_right, of_member}
use Rattle.archive_streams.specs.Entries.{current, IsBegun, Reads, ReadsOne}
use Rattle.archive_streams.specs.declared.entries.ArchiveEntries.{ArchiveEntries}
use Rattle.archive_streams.proofs.EntrySteps.{begun}
use Rattle.archive_sets.specs.Selecting.{IsHalt}
use Rattle.archive_sets.specs.declared.fault.SelectFault.{SelectFault}
use Rattle.archive_sets.specs.declared.fault.SelectFault.TheVariants.{Archive, Read, Endless, Write, Memory}
use Rattle.archive_counts.specs.Counted.{Stopped}
use Rattle.archive_counts.specs.Counting.{Halted, IsFresh, Looking, Tabling}
use Rattle.archive_counts.specs.Tables.{AddsTo, IsTableOf}
use Rattle.archive_counts.specs.Words.{HasText, WordsText}
use Rattle.archive_counts.specs.declared.counting.Counting.{Counting}
use Rattle.archive_counts.specs.declared.key.CountKey.{CountKey}
use Rattle.archive_counts.specs.declared.options.CountOptions.{CountOptions}
use Rattle.archive_counts.specs.declared.table.Table.{Table}
use Rattle.archive_counts.proofs.Tables.{table_takes}
use Rattle.std.proofs.Common.{inl}

pub tabling_none : (keys : List CountKey) (s : Counting) (d : InputState) → IsFresh keys s → Tabling keys s d d
tabling_none keys s d fresh = record { xs = []; reads = fresh.none_read d; table = fresh.none_counted }

-- an entry is read
pub looks : (keys : List CountKey) (s m : Counting) (d e f : InputState) → m.table ≡ s.table
    → ReadsOne s.entries m.entries e f → Tabling keys s d e → Looking keys m d f
looks keys s m d e f same one w = record {
  xs = w.xs;
  reads = one.reads d w.xs w.reads;
  table = subst (λ (t : Table). IsTableOf keys t w.xs) (sym same) w.table;
}

pub on_ok : {X E : Type 0} (r : Result X E) (P : Type 0) → is_err r ≡ false → OnOk r P → P
on_ok (Ok x) P good h = h
on_ok (Err e) P good h = absurd cc

-- an entry of an archive is of a record, and of its instant
record OfRecord (e : Entry) : Type 0 where
  of : Parts ℤ
  known : WellFormed of e.octets
  time : of.time ≡ e.instant

entry_record : (e : Entry) → IsEntry e → OfRecord e
entry_record e (r, h) =
    record { of = r; known = canonical_well_formed r e.octets h.valid h.canonical; time = sym h.instant }

-- it goes into the table, by the words of its record
pub takes : (keys : List CountKey) (s t : Counting) (x : Entry) (text : List ℕ) (d e : InputState)
    → x ≡ current s.entries → t.entries ≡ s.entries
    → ((r : Parts ℤ) → WellFormed r x.octets → r.time ≡ x.instant → WordsText keys r text) → AddsTo s.table t.table text x
    → Looking keys s d e → Tabling keys t d e
takes keys s t x text d e is same words adds w =
    let reads : Reads s.entries d e (w.xs ++ x ∷ []) =
    subst (λ (y : Entry). Reads s.entries d e (w.xs ++ y ∷ [])) (sym is) w.reads in
    let read : IsBegun d e (w.xs ++ x ∷ []) = begun s.entries d e (w.xs ++ x ∷ []) reads in
    let one : OfRecord x =
    entry_record x (of_member IsEntry (w.xs ++ x ∷ []) x read.archive.entries (has_right w.xs (x ∷ []) x (inl refl))) in
    let has : HasText keys text x =
    record { of = one.of; well_formed = one.known; holds = words one.of one.known one.time } in
    let short : length (text_of (w.xs ++ x ∷ [])) < 2 ^ 64 =
    omega (arith, read.short, ap length read.parts, length-append (text_of (w.xs ++ x ∷ [])) read.rest) in
    record {
      xs = w.xs ++ x ∷ [];
      reads = subst (λ (n : ArchiveEntries). Reads n d e (w.xs ++ x ∷ [])) (sym same) reads;
      table = table_takes keys s.table t.table w.xs x text read.archive.ascending short has adds w.table;
    }

-- by what the calls that do so say
words_are : (r : Parts ℤ) (keys : List CountKey) (old new text : List ℕ) → old ≡ [] → text ≡ new
    → Adds (WordsText keys r) old new → WordsText keys r text
words_are r keys old new text none is (added, words, e) =
    subst (WordsText keys r) (sym (is ∙ e ∙ ap (λ (l : List ℕ). l ++ added) none)) words

pub takes_words : {X E : Type 0} (keys : List CountKey) (s t : Counting) (x : Entry) (old new text : List ℕ)
    (result : Result X E) → x ≡ current s.entries → old ≡ []
    → ((r : Parts ℤ) → WellFormed r x.octets → r.time ≡ x.instant → Adds (WordsText keys r) old new) → text ≡ new
    → OnOk result (AddsTo s.table t.table text x) → t.entries ≡ s.entries
    → OnOk result ((d e : InputState) → Looking keys s d e → Tabling keys t d e)
takes_words keys s t x old new text (Ok y) is none words text_is adds same = λ d e w.
    takes keys s t x text d e is same (λ r known time. words_are r keys old new text none text_is (words r known time)) adds w
takes_words keys s t x old new text (Err y) is none words text_is adds same = adds

-- or a fault halts it
pub halts : (fault : SelectFault) (keys : List CountKey) (s m : Counting) (d e f : InputState)
    → IsHalt fault s.entries m.entries e f → Tabling keys s d e → Halted fault d f
halts (Archive a) keys s m d e f h w = record { xs = w.xs; read = h.cut_short d w.xs w.reads; cause = tt }
halts Read keys s m d e f h w = record { xs = w.xs; read = h.cut_short d w.xs w.reads; cause = tt }
halts Endless keys s m d e f h w = record { xs = w.xs; read = h.cut_short d w.xs w.reads; cause = tt }
halts (Write sent) keys s m d e f h w = absurd h
halts Memory keys s m d e f h w = absurd h

-- memory may run out at any time
pub halts_for_memory : (d e : InputState) → Halted Memory d e
halts_for_memory d e = record { xs = []; read = tt; cause = tt }

-- nothing is written then
pub unwritten : (options : CountOptions) (fault : SelectFault) (d e : InputState) (taken : Option (List ℕ))
    → Halted fault d e → Stopped options fault d e taken taken
unwritten options (Archive a) d e taken h = record { xs = h.xs; read = h.read; same = refl }
unwritten options Read d e taken h = record { xs = h.xs; read = h.read; same = refl }
unwritten options Endless d e taken h = record { xs = h.xs; read = h.read; same = refl }
unwritten options (Write sent) d e taken h = absurd h.cause
unwritten options Memory d e taken h = record { xs = h.xs; read = h.read; same = refl }
