use Rattle.std.proofs.Common.{ℕ, List, sym, subst}
use Rattle.octet_language.specs.Language.{AnyOf, Each}
use Rattle.syslog_fields.specs.Grammar.{Param}
use Rattle.syslog_reading.proofs.owned.to_element.Goals as goal

pub to_params-requires : goal.to_params-requires
to_params-requires c = subst (λ (text : List ℕ). ∥ AnyOf (Each Param) text ∥₁) (sym c.params_text.ensures)
    c.requires.params
