-- What a frame does to a set.
use Rattle.std.proofs.Common.{◌≡◌, ◌≤◌, ℕ, List, [], ◌∷◌, ◌++◌, length, inl, inr, sym, subst, arith, ap, refl, None, Some, ◌∙◌}
use Rattle.std.specs.Prelude.{◌↔◌, ℤ}
use Rattle.syslog_value.specs.Parts.{Parts}
use Rattle.syslog_frame.specs.declared.limits.TheConstants.{FRAME_MAX}
use Rattle.syslog_grammar.proofs.Bounded.{canonical_bounded}
use Rattle.syslog_legacy.specs.ClockReadings as under
use Rattle.syslog_legacy.specs.ClockReadings.{Clock}
use Rattle.syslog_legacy.specs.FrameReadings.{IsReadAs, octets_read}
use Rattle.syslog_legacy.specs.declared.frame_reading.FrameReading.{FrameReading}
use Rattle.syslog_legacy.proofs.Bounds.{legacy_bounded}
use Rattle.syslog_legacy.proofs.FrameReadings.{fault_not_read, not_utf8, read_within}
use Rattle.archive_text.specs.Entries.{Entry, Has, IsEntryOf}
use Rattle.archive_text.specs.declared.limits.TheConstants.{ENTRY_MAX}
use Rattle.archive_laws.proofs.Collected.{both}
use Rattle.syslog_collect.specs.Frames.{IsEntryOfFrame}
use Rattle.syslog_collect.proofs.Gains.{spelled_after, spelled_before, spelled_either}
use Rattle.syslog_collect.proofs.OneReading.{one_entry}
use Rattle.frame_engine.specs.Converted.{noted_line}
use Rattle.frame_engine.specs.Readings.{IsRecordOf, IsRefusedWith}
use Rattle.frame_engine.specs.declared.line.Line.{Line}
use Rattle.archive_engine.specs.Archived.{archive_handling}
use Rattle.driver.specs.Effects.{Adds, Done, nothing, then_done}
use Rattle.frame_engine.proofs.HandlingLemmas.{then_nothing}
use Rattle.archive_engine.specs.Gathering.{Gathered, GathersFrame, GathersFrom}
use Rattle.archive_engine.specs.declared.gathering.Gathering.{Gathering}
use Rattle.archive_engine.specs.GatheringLaws.{gathered_less}

-- the entry of a record as which so many octets are read fits an archive
fits_under : (clock : Clock) (b : List ℕ) (r : Parts ℤ) (e : Entry) → length b ≤ FRAME_MAX
    → under.IsReadAs clock r b → IsEntryOf r e → length e.octets ≤ ENTRY_MAX
fits_under None b r e few is entry = omega (arith, canonical_bounded r b e.octets FRAME_MAX is entry.canonical few)
fits_under (Some k) b r e few (inl (form, is)) entry =
    omega (arith, canonical_bounded r b e.octets FRAME_MAX is entry.canonical few)
fits_under (Some k) b r e few (inr (form, is)) entry =
    legacy_bounded k r b e.octets FRAME_MAX ENTRY_MAX is entry.canonical few (omega arith)

fits : (way : FrameReading) (f : List ℕ) (r : Parts ℤ) (e : Entry) → length f ≤ FRAME_MAX → IsReadAs way r f
    → IsEntryOf r e → length e.octets ≤ ENTRY_MAX
fits way f r e few is entry =
    fits_under way.clock (octets_read way f) r e (omega (arith, few, read_within way f)) is entry

-- a frame's record was added
pub gathered_more : {S : Type 0} (H : S → List Entry → Type 0)
    → ((s : S) (es fs : List Entry) → ((x : Entry) → Has fs x ↔ Has es x) → H s es → H s fs) → (way : FrameReading)
    (old new : S) (frames : List (List ℕ)) (f : List ℕ) → (g : Gathered H way old frames)
    → GathersFrame H way new f g.entries → Gathered H way new (frames ++ f ∷ [])
gathered_more H alike way old new frames f g k =
    let b = both ENTRY_MAX g.entries (k.entry ∷ []) g.archive ((k.r, k.is_entry), tt)
    (fits way f k.r k.entry k.few k.is_read k.is_entry, tt) in
    record {
      entries = b.entries;
      archive = b.archive;
      holds = alike new (k.entry ∷ g.entries) b.entries
          (λ x. (
            λ has. elim ((b.has x).0 has) [
              | inl first ↦ inr first
              | inr (inl one) ↦ inl one
              | inr (inr none) ↦ absurd none
            ],
            λ has. elim has [
              | inl one ↦ (b.has x).1 (inr (inl one))
              | inr first ↦ (b.has x).1 (inl first)
            ],
          ))
          k.holds;
      members = λ x. (
        λ has. elim ((b.has x).0 has) [
          | inl first ↦ spelled_before way frames (f ∷ []) x ((g.members x).0 first)
          | inr (inl one) ↦ spelled_after way frames (f ∷ []) x
              (inl (subst (IsEntryOfFrame way f) one (k.few, (k.r, k.is_read, k.is_entry))))
          | inr (inr none) ↦ absurd none
        ],
        λ spelled. elim (spelled_either way frames (f ∷ []) x spelled) [
          | inl first ↦ (b.has x).1 (inl ((g.members x).1 first))
          | inr (inl (few, (q, is, entry))) ↦
              (b.has x).1 (inr (inl (one_entry way f k.r q k.entry x k.is_read is k.is_entry entry)))
          | inr (inr none) ↦ absurd none
        ],
      );
    }

-- a refused frame is read as no record
no_entry : (way : FrameReading) (n : ℕ) (f : List ℕ) (line : Line) → IsRefusedWith way n f line → (x : Entry)
    → ¬ (IsEntryOfFrame way f x)
no_entry way n f line (inl (long, e)) x (few, more) = omega (arith, few, long)
no_entry way n f line (inr (inl (le, offset, stops, e))) x (few, (r, is, entry)) = not_utf8 way f r offset stops is
no_entry way n f line (inr (inr (le, form, fault, bad, e))) x (few, (r, is, entry)) =
    fault_not_read way f r fault form bad is

pub gathered_refused : {S : Type 0} (H : S → List Entry → Type 0) (way : FrameReading) (s : S)
    (frames : List (List ℕ)) (n : ℕ) (f : List ℕ) (line : Line)
    → IsRefusedWith way n f line
    → Gathered H way s frames → Gathered H way s (frames ++ f ∷ [])
gathered_refused H way s frames n f line refused g =
    gathered_less H way s frames f (no_entry way n f line refused) g

-- what is noted of a refused frame
pub refused_handled : (way : FrameReading) (n : ℕ) (f : List ℕ) (line : Line) → IsRefusedWith way n f line
    → archive_handling way n f (noted_line line)
refused_handled way n f line (inl (long, e)) = inl (long, ap noted_line e)
refused_handled way n f line (inr (inl (few, offset, stops, e))) =
    inr (inr (inr (few, (offset, stops, ap noted_line e))))
refused_handled way n f line (inr (inr (few, form, fault, bad, e))) =
    inr (inr (inl (few, form, (fault, bad, ap noted_line e))))

-- ---- what a frame does

pub frame_added : {S F : Type 0} (H : S → List Entry → Type 0) (first old new : Gathering S F) (n : ℕ)
    (f : List ℕ) (frames : List (List ℕ)) (d : Done) → (r : Parts ℤ) × IsRecordOf old.reading r f
    → new.reading ≡ old.reading
    → (Gathered H old.reading old.set frames → Gathered H old.reading new.set (frames ++ f ∷ []))
    → GathersFrom H first old frames
    → Adds (archive_handling first.reading n f) d d × GathersFrom H first new (frames ++ f ∷ [])
frame_added H first old new n f frames d some same more s =
    let record_of : (r : Parts ℤ) × IsRecordOf first.reading r f =
    subst (λ (w : FrameReading). (r : Parts ℤ) × IsRecordOf w r f) s.0 some in (
      (nothing, inr (inl (record_of.1.0, (record_of.0, record_of.1.1), refl)), sym (then_nothing d)),
      (
        same ∙ s.0,
        λ h. subst (λ (w : FrameReading). Gathered H w new.set (frames ++ f ∷ [])) s.0
            (more (subst (λ (w : FrameReading). Gathered H w old.set frames) (sym s.0) (s.1 h))),
      ),
    )

pub frame_refused : {S F : Type 0} (H : S → List Entry → Type 0) (first old : Gathering S F) (n : ℕ)
    (f : List ℕ) (frames : List (List ℕ)) (line : Line) (d e : Done) → IsRefusedWith old.reading n f line
    → e ≡ then_done d (noted_line line) → GathersFrom H first old frames
    → Adds (archive_handling first.reading n f) d e × GathersFrom H first old (frames ++ f ∷ [])
frame_refused H first old n f frames line d e refused is s =
    let here : IsRefusedWith first.reading n f line =
    subst (λ (w : FrameReading). IsRefusedWith w n f line) s.0 refused in (
      (noted_line line, refused_handled first.reading n f line here, is),
      (s.0, λ h. gathered_refused H first.reading old.set frames n f line here (s.1 h)),
    )
