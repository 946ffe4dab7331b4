-- Octets with a fault are no record.
use Rattle.std.proofs.Common.{◌≡◌, ℕ, List, [], ◌∷◌, ◌++◌, refl, sym, subst, ◌∙◌, inl, inr}
use Rattle.std.specs.Prelude.{ℤ, Option, Some, None, IfSome, option_map}
use Rattle.octet_language.specs.Language.{AnyOf}
use Rattle.syslog_value.specs.Parts.{Parts, ElementParts, IsInstant}
use Rattle.syslog_value.specs.Structured.{HasId}
use Rattle.syslog_fields.specs.Time.{CivilTime, instant}
use Rattle.syslog_reading.specs.Faults.{AreDistinct, FaultOf}
use Rattle.syslog_reading.specs.Parsing.{IsSyntaxFault}
use Rattle.syslog_reading.specs.WellFormed.{WellFormed}
use Rattle.syslog_reading.specs.declared.fault.Fault.{Fault}
use Rattle.syslog_reading.specs.declared.fault.Fault.TheVariants.{Syntax, InstantRange, RepeatedId}
use Rattle.syslog_reading.proofs.Laws.{same_parts}

-- ---- the instant

abbrev IsRange : Option ℤ → Type 0
IsRange time = IfSome time IsInstant

of_instant : (t : Option CivilTime) → IsRange (option_map instant t) → IfSome t (λ c. IsInstant (instant c))
of_instant None h = tt
of_instant (Some c) h = h

to_instant : (t : Option CivilTime) → IfSome t (λ c. IsInstant (instant c)) → IsRange (option_map instant t)
to_instant None h = tt
to_instant (Some c) h = h

-- two times of one instant are both in range, or neither is
pub same_range : (t u : Option CivilTime) → option_map instant t ≡ option_map instant u
    → IfSome u (λ c. IsInstant (instant c)) → IfSome t (λ c. IsInstant (instant c))
same_range t u e h = of_instant t (subst IsRange (sym e) (to_instant u h))

-- ---- the ids

holds_middle : (before : List ElementParts) (e : ElementParts) (behind : List ElementParts)
    → HasId e.id (before ++ e ∷ behind)
holds_middle [] e behind = inl refl
holds_middle (d ∷ ds) e behind = inr (holds_middle ds e behind)

-- an id that an element before it has is not distinct
pub not_distinct : (before : List ElementParts) (e : ElementParts) (behind : List ElementParts) → HasId e.id before
    → ¬ (AreDistinct (before ++ e ∷ behind))
not_distinct [] e behind h all = h
not_distinct (d ∷ ds) e behind (inl same) all =
    all.0 (subst (λ (id : List ℕ). HasId id (ds ++ e ∷ behind)) (sym same) (holds_middle ds e behind))
not_distinct (d ∷ ds) e behind (inr h) all = not_distinct ds e behind h all.1

-- ---- the faults

pub fault_excludes : (b : List ℕ) (f : Fault) (r : Parts ℤ) → FaultOf b f → WellFormed r b → ⊥
fault_excludes b (Syntax f at) r (none, offset, field) (s, k, in_range, distinct, m) = none (s, k)
fault_excludes b (InstantRange at) r (p, h, out, offset) (s, k, in_range, distinct, m) =
    out (same_range p.time s.time (same_parts p s b h k).header.time in_range)
fault_excludes b (RepeatedId at) r (p, h, in_range, before, found, offset) (s, k, in_range', distinct, m) =
    let same : before ++ found.element ∷ found.behind ≡ s.elements = sym found.parts ∙ (same_parts p s b h k).elements
    in
    not_distinct before found.element found.behind found.same (subst AreDistinct (sym same) distinct)

pub no_record : (b : List ℕ) (f : Fault) → FaultOf b f → ¬ (AnyOf WellFormed b)
no_record b f h (r, w) = fault_excludes b f r h w

pub no_syntax : (b : List ℕ) (f : Fault) → IsSyntaxFault b f → ¬ (AnyOf WellFormed b)
no_syntax b (Syntax f at) h w = no_record b (Syntax f at) h w
no_syntax b (InstantRange at) h w = h
no_syntax b (RepeatedId at) h w = h
