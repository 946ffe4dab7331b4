-- A frame is read in one way.
use Rattle.std.proofs.Common.{◌≡◌, ◌≤◌, ℕ, List, length, inl, inr, sym, ap, ◌∙◌, subst, arith}
use Rattle.std.specs.Prelude.{ℤ, Some, None}
use Rattle.octet_language.specs.Language.{AnyOf}
use Rattle.syslog_value.specs.Parts.{Parts}
use Rattle.syslog_fields.specs.Canonical.{Canonical}
use Rattle.syslog_reading.specs.WellFormed.{WellFormed}
use Rattle.syslog_grammar.proofs.CanonicalParses.{canonical_once}
use Rattle.syslog_legacy.specs.NewForm.{HasNewForm}
use Rattle.syslog_legacy.specs.Readings.{Legacy, ReadAs}
use Rattle.syslog_legacy.specs.declared.clock.LegacyClock.{LegacyClock}
use Rattle.syslog_legacy.proofs.FrameReadings.{one_reading}
use Rattle.syslog_legacy.specs.ClockReadings as under
use Rattle.syslog_legacy.specs.ClockReadings.{Clock}
use Rattle.archive_text.specs.Entries.{Entry, IsEntryOf}
use Rattle.syslog_frame.specs.declared.limits.TheConstants.{FRAME_MAX}
use Rattle.archive_text.specs.Stores.{AddsRecord}
use Rattle.archive_text.specs.declared.store.Added.{Added}
use Rattle.archive_text.specs.declared.store.Added.TheVariants as added
use Rattle.syslog_collect.specs.Outcomes.{AddsFrame, IsOutcome, IsRecordFrame, added_outcome}
use Rattle.syslog_legacy.specs.FrameReadings.{IsLegacy, IsReadAs, octets_read, whole}
use Rattle.syslog_legacy.specs.declared.frame_reading.FrameReading.{FrameReading}
use Rattle.syslog_collect.specs.declared.outcome.Outcome.{Outcome}
use Rattle.syslog_collect.specs.declared.outcome.Outcome.TheVariants.{New, Held, Refused, RefusedLegacy, TooLong}
use Rattle.syslog_collect.specs.declared.outcome.Outcome.TheVariants.{BadCount}

under_not_read : (clock : Clock) (b : List ℕ) (r : Parts ℤ) → ¬ (under.IsLegacy clock b) → ¬ (AnyOf WellFormed b)
    → under.IsReadAs clock r b → ⊥
under_not_read None b r form none is = none (r, is)
under_not_read (Some k) b r form none (inl is) = none (r, is.1)
under_not_read (Some k) b r form none (inr is) = form is.0

-- what is no record is not read as one
pub not_read : (way : FrameReading) (f : List ℕ) (r : Parts ℤ) → ¬ (IsLegacy way f)
    → ¬ (AnyOf WellFormed (octets_read way f)) → IsReadAs way r f → ⊥
not_read way f r form none is = under_not_read way.clock (octets_read way f) r form none is

-- a frame has one entry
pub one_entry : (way : FrameReading) (f : List ℕ) (r q : Parts ℤ) (e x : Entry) → IsReadAs way r f → IsReadAs way q f
    → IsEntryOf r e → IsEntryOf q x → e ≡ x
one_entry way f r q e x wr wq er ex =
    let same = one_reading way f r q wr wq in
    let instants : e.instant ≡ x.instant = er.instant ∙ ap (λ (p : Parts ℤ). p.time) same ∙ sym ex.instant in
    let octets : e.octets ≡ x.octets = canonical_once q e.octets x.octets
    (subst (λ (p : Parts ℤ). Canonical p e.octets) same er.canonical) ex.canonical in
    λ i. record { instant = instants i; octets = octets i }

-- under a clock, octets with the front of RFC 5424 are read as without one
pub outcome_new_form : (k : LegacyClock) (old new : List Entry) (f : List ℕ) (o : Outcome) → HasNewForm f
    → IsOutcome (whole None) old new f o → IsOutcome (whole (Some k)) old new f o
outcome_new_form k old new f New form (le, (r, is, adds)) = (le, (r, inl (form, is), adds))
outcome_new_form k old new f Held form (le, (r, is, adds)) = (le, (r, inl (form, is), adds))
outcome_new_form k old new f (Refused fault) form (le, never, is, none, same) = (le, λ no. no form, is, none, same)
outcome_new_form k old new f (RefusedLegacy offset) form (le, stops, same) = absurd stops
outcome_new_form k old new f TooLong form h = h
outcome_new_form k old new f (BadCount at) form h = absurd h

pub record_new_form : (k : LegacyClock) (f : List ℕ) → HasNewForm f → IsRecordFrame (whole None) f
    → IsRecordFrame (whole (Some k)) f
record_new_form k f form (le, (r, is)) = (le, (r, inl (form, is)))

pub adds_outcome : (way : FrameReading) (old new : List Entry) (f : List ℕ) (how : Added) → AddsFrame way f old new how
    → IsOutcome way old new f (added_outcome how)
adds_outcome way old new f added.New adds = adds
adds_outcome way old new f added.Held adds = adds

-- a legacy packet's record was added
pub legacy_adds : (k : LegacyClock) (old new : List Entry) (f : List ℕ) (r q : Parts ℤ) (how : Added)
    → length f ≤ FRAME_MAX → ¬ (HasNewForm f) → Legacy k (ReadAs r) f → q ≡ r → AddsRecord q old new how
    → IsOutcome (whole (Some k)) old new f (added_outcome how)
legacy_adds k old new f r q how le form is same adds =
    adds_outcome (whole (Some k)) old new f how (
      le,
      (
        r,
        inr (form, is),
        subst (λ (p : Parts ℤ). AddsRecord p old new how) same adds,
      ),
    )

pub legacy_record : (k : LegacyClock) (f : List ℕ) (r : Parts ℤ) → length f ≤ FRAME_MAX → ¬ (HasNewForm f)
    → Legacy k (ReadAs r) f → IsRecordFrame (whole (Some k)) f
legacy_record k f r le form is = (le, (r, inr (form, is)))

-- ---- a frame, by its octets that are read

outcome_read : (way : FrameReading) (old new : List Entry) (f : List ℕ) (o : Outcome) → length f ≤ FRAME_MAX
    → length (octets_read way f) ≤ FRAME_MAX → IsOutcome (whole way.clock) old new (octets_read way f) o
    → IsOutcome way old new f o
outcome_read way old new f New few le (le', adds) = (few, adds)
outcome_read way old new f Held few le (le', adds) = (few, adds)
outcome_read way old new f (Refused fault) few le (le', form, bad, none, same) = (few, form, bad, none, same)
outcome_read way old new f (RefusedLegacy offset) few le (le', stops, same) = (few, stops, same)
outcome_read way old new f TooLong few le (long, same) = absurd (omega (arith, le, long))
outcome_read way old new f (BadCount at) few le h = absurd h

-- what becomes of a frame within the limit is what becomes of these octets
pub outcome_of_octets : (way : FrameReading) (old new : List Entry) (f b : List ℕ) (o : Outcome)
    → length f ≤ FRAME_MAX → length b ≤ FRAME_MAX → b ≡ octets_read way f → IsOutcome (whole way.clock) old new b o
    → IsOutcome way old new f o
outcome_of_octets way old new f b o few le e h =
    outcome_read way old new f o few (subst (λ (x : List ℕ). length x ≤ FRAME_MAX) e le)
    (subst (λ (x : List ℕ). IsOutcome (whole way.clock) old new x o) e h)
