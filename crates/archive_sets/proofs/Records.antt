-- The record that a view shows.
use Rattle.std.proofs.Common.{ℕ, List, sym, subst, ◌∙◌}
use Rattle.std.specs.Prelude.{ℤ, ◌↔◌}
use Rattle.octet_language.specs.Language.{AnyOf}
use Rattle.std.specs.List.Sorted.{IsPermutation}
use Rattle.syslog_value.specs.Parts.{ElementParts, Parts}
use Rattle.syslog_reading.specs.ViewParts.{IsViewOf, ViewParts}
use Rattle.syslog_reading.specs.WellFormed.{WellFormed}
use Rattle.syslog_reading.proofs.Laws.{same_parts}
use Rattle.archive_sets.specs.Fields.{IsOfRecord}
use Rattle.archive_sets.specs.Tests.{IsShownAs}
use Rattle.archive_sets.specs.declared.word_field.WordField.TheVariants.{Hostname, AppName, ProcId, MsgId}
use Rattle.archive_sets.proofs.Ids.{ids_permuted}

pub shown_as : (b : List ℕ) (s : ViewParts) (r : Parts ℤ) → IsViewOf b s → WellFormed r b → IsShownAs r s
shown_as b s r (p, text, range, distinct, shown) (q, also, range', distinct', means) =
    let same = same_parts p q b text also in
    let header = same.header in
    record {
      priority = shown.priority ∙ header.priority ∙ sym means.priority;
      word = elim [
        | Hostname ↦ shown.hostname ∙ header.hostname ∙ sym means.hostname
        | AppName ↦ shown.app_name ∙ header.app_name ∙ sym means.app_name
        | ProcId ↦ shown.proc_id ∙ header.proc_id ∙ sym means.proc_id
        | MsgId ↦ shown.msg_id ∙ header.msg_id ∙ sym means.msg_id
      ];
      elements = p.elements;
      spelled = shown.elements;
      message = shown.message ∙ same.message ∙ sym means.message;
      ids = λ id.
          ids_permuted p.elements r.elements id
          (subst (λ (es : List ElementParts). IsPermutation es r.elements) (sym same.elements) means.elements);
    }

-- a test of what a view shows is one of the record
pub met_by_shown : (b : List ℕ) (s : ViewParts) (P : Parts ℤ → Type 0) (Q : Type 0) → AnyOf WellFormed b → IsViewOf b s
    → ((r : Parts ℤ) → IsShownAs r s → Q ↔ P r)
    → Q ↔ IsOfRecord P b
met_by_shown b s P Q some seen test = (
  λ q. record {
    of = some.0;
    well_formed = some.1;
    holds = (test some.0 (shown_as b s some.0 seen some.1)).0 q;
  },
  λ h. (test h.of (shown_as b s h.of seen h.well_formed)).1 h.holds,
)

-- octets that are no record meet no condition
pub met_by_none : (b : List ℕ) (P : Parts ℤ → Type 0) → ¬ (AnyOf WellFormed b) → ¬ (IsOfRecord P b)
met_by_none b P none h = none (h.of, h.well_formed)
