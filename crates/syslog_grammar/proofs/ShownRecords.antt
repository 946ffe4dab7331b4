-- The record whose canonical text was appended for a view.
use Rattle.std.proofs.Common.{◌≡◌, ℕ, ◌++◌, List, sym, ap, subst, ◌∙◌}
use Rattle.std.specs.Prelude.{ℤ}
use Rattle.std.proofs.Math.Logic.{∥∥₁_elim}
use Rattle.std.proofs.Props.{props}
use Rattle.std.proofs.lemmas.List.{append_cancel_left}
use Rattle.syslog_value.specs.Parts.{Parts, IsRecord}
use mathlib.Core.HLevel.{×_prop}
use Rattle.syslog_fields.specs.Appending.{Adds}
use Rattle.syslog_fields.specs.Canonical.{Canonical}
use Rattle.syslog_reading.specs.ShownParts.{ViewParts, IsViewOf, IsSpelled}
use Rattle.syslog_reading.specs.WellFormed.{AddsCanonical, WellFormed}
use Rattle.syslog_reading.proofs.Laws.{same_parts}
use Rattle.syslog_reading.proofs.Props.{canonical_prop, record_prop, texts_set, unique_prop}
use Rattle.syslog_reading.proofs.Valid.{well_formed_valid}
use Rattle.syslog_grammar.specs.ShownRecords.{AddsShown}
use Rattle.syslog_grammar.proofs.CanonicalParses.{canonical_injective}

-- a record of this instant whose canonical text was added
AddsRecordAt : ViewParts → List ℕ → List ℕ → Type 0
AddsRecordAt s old new = (r : Parts ℤ) × (IsRecord r × ((s.instant ≡ r.time) × Adds (Canonical r) old new))

adds_prop : (r : Parts ℤ) (old new : List ℕ) → IsProp (Adds (Canonical r) old new)
adds_prop r old new =
    let Added : List ℕ → Type 0 = λ t. Canonical r t × (new ≡ old ++ t) in
    let nested : IsProp ((t : List ℕ) × Added t) =
    unique_prop {B = Added} (λ t. ×_prop (canonical_prop r t) (texts_set new (old ++ t)))
    (λ t u h k. append_cancel_left old t u (sym h.1 ∙ k.1)) in
    let flat : (t : List ℕ) × Added t → Adds (Canonical r) old new = λ n. (n.0, n.1.0, n.1.1) in
    λ p q. ap flat (nested (p.0, (p.1, p.2)) (q.0, (q.1, q.2)))

time_prop : (s : ViewParts) (r : Parts ℤ) → IsProp (s.instant ≡ r.time)
time_prop = hlevel props

same_record : (r q : Parts ℤ) (old new : List ℕ) → IsRecord r → IsRecord q → Adds (Canonical r) old new
    → Adds (Canonical q) old new → r ≡ q
same_record r q old new h k (t, ct, et) (u, cu, eu) =
    (canonical_injective r q t u h k ct cu).1 (append_cancel_left old t u (sym et ∙ eu))

record_at_prop : (s : ViewParts) (old new : List ℕ) → IsProp (AddsRecordAt s old new)
unfolding AddsRecordAt
record_at_prop s old new =
    unique_prop {B = λ r. IsRecord r × ((s.instant ≡ r.time) × Adds (Canonical r) old new)}
    (λ r. ×_prop (record_prop r) (×_prop (time_prop s r) (adds_prop r old new)))
    (λ r q h k. same_record r q old new h.0 k.0 h.1.1 k.1.1)

-- the instant that a view shows is that of the record
pub shown_time : (b : List ℕ) (s : ViewParts) (r : Parts ℤ) → IsViewOf b s → WellFormed r b → s.instant ≡ r.time
shown_time b s r (p, text, range, distinct, shown) (q, also, range', distinct', means) =
    shown.instant ∙ (same_parts p q b text also).header.time ∙ sym means.time

record_of_octets : (b : List ℕ) (s : ViewParts) (old new : List ℕ) → IsViewOf b s → AddsCanonical b old new
    → AddsRecordAt s old new
unfolding AddsRecordAt
record_of_octets b s old new seen (r, formed, added) =
    (r, (well_formed_valid r b formed, (shown_time b s r seen formed, added)))

some_record_at : (s : ViewParts) (old new : List ℕ) → ∥ IsSpelled s ∥₁
    → ((b : List ℕ) → IsViewOf b s → AddsCanonical b old new) → AddsRecordAt s old new
some_record_at s old new some put = ∥∥₁_elim some (record_at_prop s old new)
    (λ h. record_of_octets h.0 s old new h.1 (put h.0 h.1))

-- what was appended for each octets that are shown so was appended for one record
pub adds_shown : (s : ViewParts) (old new : List ℕ) → ∥ IsSpelled s ∥₁
    → ((b : List ℕ) → IsViewOf b s → AddsCanonical b old new) → AddsShown s old new
unfolding AddsRecordAt
adds_shown s old new some put =
    let (r, (valid, (instant, added))) = some_record_at s old new some put in
    record {
      shown = r;
      valid = valid;
      instant = instant;
      spelled = λ b seen.
          let (q, formed, also) = put b seen in
          subst (λ (p : Parts ℤ). WellFormed p b)
          (same_record q r old new (well_formed_valid q b formed) valid also added) formed;
      octets = added.0;
      canonical = added.1;
      added = added.2;
    }
