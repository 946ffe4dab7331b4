-- What a view shows is valid.
use Rattle.std.proofs.Common.{◌≡◌, ℕ, List, [], ◌∷◌, refl, sym, subst, false, true, inl, inr}
use Rattle.std.specs.Prelude.{Option, IfSome}
use Rattle.std.specs.List.{AllByRecursion, IsDistinct, IsDistinct-prop}
use Rattle.std.specs.Ordering.{on}
use Rattle.std.specs.Str.{bytes_eq}
use Rattle.std.proofs.Math.Logic.{∥∥₁_elim, ∥∥₁_map}
use Rattle.std.proofs.Props.{props}
use Rattle.std.proofs.lemmas.Slice.Eq.{bytes_eq-Decides}
use Rattle.octet_language.specs.Language.{AnyOf}
use Rattle.syslog_value.specs.Parts.{ElementParts, IsMessage, IsWord}
use Rattle.syslog_value.specs.Structured.{HasId, HaveDistinctIds}
use Rattle.syslog_fields.specs.Grammar.{StructuredDataText}
use Rattle.syslog_reading.specs.Faults.{AreDistinct}
use Rattle.syslog_reading.specs.ShownParts.{ViewParts, IsSpelled}
use Rattle.syslog_reading.proofs.Props.{message_prop}
use Rattle.syslog_reading.proofs.Valid.{parsed_valid}

-- ---- the words and the message

pub record HasValidParts (s : ViewParts) : Type 0 where
  pub hostname : IfSome s.hostname (IsWord 255)
  pub app_name : IfSome s.app_name (IsWord 48)
  pub proc_id : IfSome s.proc_id (IsWord 128)
  pub msg_id : IfSome s.msg_id (IsWord 32)
  pub message : IsMessage s.message

valid_prop : (s : ViewParts) → IsProp (HasValidParts s)
valid_prop = hlevel (props, message_prop)

spelled_valid : (s : ViewParts) → IsSpelled s → HasValidParts s
spelled_valid s (b, (p, text, range, distinct, shown)) =
    let valid = parsed_valid p b text range in
    record {
      hostname = subst (λ (o : Option (List ℕ)). IfSome o (IsWord 255)) (sym shown.hostname) valid.hostname;
      app_name = subst (λ (o : Option (List ℕ)). IfSome o (IsWord 48)) (sym shown.app_name) valid.app_name;
      proc_id = subst (λ (o : Option (List ℕ)). IfSome o (IsWord 128)) (sym shown.proc_id) valid.proc_id;
      msg_id = subst (λ (o : Option (List ℕ)). IfSome o (IsWord 32)) (sym shown.msg_id) valid.msg_id;
      message = subst IsMessage (sym shown.message) valid.message;
    }

pub shown_valid : (s : ViewParts) → ∥ IsSpelled s ∥₁ → HasValidParts s
shown_valid s h = ∥∥₁_elim h (valid_prop s) (λ k. spelled_valid s k)

-- ---- the structured data

spelled_data : (s : ViewParts) → IsSpelled s → AnyOf StructuredDataText s.elements
spelled_data s (b, (p, text, range, distinct, shown)) = (p.elements, shown.elements)

pub shown_data : (s : ViewParts) → ∥ IsSpelled s ∥₁ → ∥ AnyOf StructuredDataText s.elements ∥₁
shown_data s h = ∥∥₁_map h (λ k. spelled_data s k)

other_id : (e f : ElementParts) → (f.id ≡ e.id → ⊥) → bytes_eq e.id f.id ≡ false
other_id e f differ =
    elim (bytes_eq e.id f.id) as (λ b. bytes_eq e.id f.id ≡ b → bytes_eq e.id f.id ≡ false) [
      | true ↦ λ is. absurd (differ (sym ((bytes_eq-Decides e.id f.id).0 is)))
      | false ↦ λ is. is
    ] refl

other_ids : (e : ElementParts) (es : List ElementParts) → ¬ (HasId e.id es)
    → AllByRecursion (λ f. on (λ g. g.id) bytes_eq e f ≡ false) es
other_ids e [] h = tt
other_ids e (f ∷ fs) h = (other_id e f (λ same. h (inl same)), other_ids e fs (λ k. h (inr k)))

distinct_ids : (es : List ElementParts) → AreDistinct es → HaveDistinctIds es
unfolding IsDistinct
distinct_ids [] h = tt
distinct_ids (e ∷ es) h = (other_ids e es h.0, distinct_ids es h.1)

spelled_distinct : (s : ViewParts) (es : List ElementParts)
    → ((ds : List ElementParts) → StructuredDataText ds s.elements → es ≡ ds) → IsSpelled s → HaveDistinctIds es
spelled_distinct s es same (b, (p, text, range, distinct, shown)) =
    subst HaveDistinctIds (sym (same p.elements shown.elements)) (distinct_ids p.elements distinct)

pub shown_distinct : (s : ViewParts) (es : List ElementParts) → ∥ IsSpelled s ∥₁
    → ((ds : List ElementParts) → StructuredDataText ds s.elements → es ≡ ds) → HaveDistinctIds es
shown_distinct s es h same =
    ∥∥₁_elim h (IsDistinct-prop (on (λ e. e.id) bytes_eq) es) (λ k. spelled_distinct s es same k)
