-- A segment is read and counted.
use Rattle.std.proofs.Common.{◌≡◌, ℕ, ◌+◌, ◌-◌, ◌^◌, ◌≤◌, List, [], ◌∷◌, ◌++◌, length, min, refl, sym, ap, ◌∙◌, arith}
use Rattle.std.proofs.lemmas.List.{length-append}
use Rattle.octet_devices.specs.Device.{InputState}
use Rattle.archive_text.specs.Entries.{Entry}
use Rattle.archive_text.specs.Text.{entry_text, text_of}
use Rattle.archive_text.proofs.Members.{all_append}
use Rattle.archive_text.proofs.Texts.{text_push}
use Rattle.archive_streams.specs.Entries.{current, Ends, Reads, ReadsOne}
use Rattle.archive_streams.specs.declared.entries.ArchiveEntries.{ArchiveEntries}
use Rattle.archive_sets.proofs.Selecting.{no_more_than_octets}
use Rattle.record_store.specs.Holdings.{IsOfPeriod}
use Rattle.store_reading.specs.Damages.{IsDamagedArchive, OfLeft, position}
use Rattle.store_reading.specs.Segments.{IsWholeOf, ReadsOf}
use Rattle.store_reading.specs.declared.fault.FileFault.TheVariants.{OtherDay}
use Rattle.store_reading.proofs.Damaged.{file_is, other_day, other_day_at}
use Rattle.store_statistics.specs.Files.{IsSegmentWith}
use Rattle.store_statistics.specs.Tallies.{IsTallyOf}
use Rattle.store_statistics.specs.declared.figures.Figures.{Figures}
use Rattle.store_statistics.specs.declared.tally.Tally.{Tally}
use Rattle.store_statistics.proofs.Counting.{are_figures}

-- entries of the period were read and counted, up to a position
pub record CountsOf (period : List ℕ) (s : ArchiveEntries) (at : ℕ) (t : Tally) (d e : InputState) : Type 0 where
  pub segment : ReadsOf period s d e
  pub place : at ≡ position (length (text_of segment.entries))
  pub tally : IsTallyOf t segment.entries

pub counts_none : (period : List ℕ) (s : ArchiveEntries) (t : Tally) (d : InputState) → Reads s d d []
    → IsTallyOf t [] → CountsOf period s 0 t d d
counts_none period s t d none tally =
    record { segment = record { entries = []; reads = none; days = tt }; place = refl; tally = tally }

place_more : (most a b at n later : ℕ) → at ≡ min a most → n ≡ min b most → later ≡ min (at + n) most
    → later ≡ min (a + b) most
place_more most a b at n later one two both = omega arith

pub counts_more : (period : List ℕ) (s t : ArchiveEntries) (at n later : ℕ) (a b : Tally) (d e f : InputState)
    → CountsOf period s at a d e → ReadsOne s t e f → IsOfPeriod period (current t)
    → n ≡ position (length (entry_text (current t))) → later ≡ position (at + n)
    → ((es : List Entry) → IsTallyOf a es → IsTallyOf b (es ++ current t ∷ [])) → CountsOf period t later b d f
counts_more period s t at n later a b d e f h one of size sum tallies = record {
  segment = record {
    entries = h.segment.entries ++ current t ∷ [];
    reads = one.reads d h.segment.entries h.segment.reads;
    days = all_append (IsOfPeriod period) h.segment.entries (current t ∷ []) h.segment.days (of, tt);
  };
  place = place_more (2 ^ 64 - 1) (length (text_of h.segment.entries)) (length (entry_text (current t))) at n later
      h.place size sum
      ∙ ap position (sym (ap length (text_push h.segment.entries (current t))
      ∙ length-append (text_of h.segment.entries) (entry_text (current t))));
  tally = tallies h.segment.entries h.tally;
}

-- the next entry is of another day
pub other_told : (period : List ℕ) (s t : ArchiveEntries) (at : ℕ) (a : Tally) (d e f : InputState)
    → CountsOf period s at a d e → ReadsOne s t e f → ¬ (IsOfPeriod period (current t))
    → OfLeft d (λ file. IsDamagedArchive period file (OtherDay at))
other_told period s t at a d e f h one differs file left =
    let reads = one.reads d h.segment.entries h.segment.reads in
    record {
      not_archive = other_day period d f file left t h.segment.entries reads differs;
      told = other_day_at period d f file left t h.segment.entries at reads h.segment.days h.place differs;
    }

exact_of : (n most large is : ℕ) → is ≡ min n large → n ≤ most → most ≤ large → is ≡ n
exact_of n most large is at few fits = omega arith

-- all was read
pub counted_of : (period : List ℕ) (s t : ArchiveEntries) (figures : Figures) (d e f : InputState)
    → CountsOf period s figures.octets figures.tally d e → Ends s t e f
    → OfLeft d (λ file. IsSegmentWith period file figures)
counted_of period s t figures d e f h ends file left =
    let es = h.segment.entries in
    let whole = ends.whole d es h.segment.reads in
    let w : IsWholeOf period d f = record { entries = es; whole = whole; days = h.segment.days } in
    let is : file ≡ text_of es = file_is period d f file w left in
    let size : length file ≡ length (text_of es) = ap length is in
    record {
      entries = es;
      segment = record { archive = whole.archive; text_is = is; days = h.segment.days };
      figures = are_figures figures es (length file) h.tally
          (exact_of (length (text_of es)) (2 ^ 38) (2 ^ 64 - 1) figures.octets h.place (omega (arith, whole.short))
          (omega arith) ∙ sym size)
          (omega (arith, size, no_more_than_octets es)) (omega (arith, size, whole.short));
    }
