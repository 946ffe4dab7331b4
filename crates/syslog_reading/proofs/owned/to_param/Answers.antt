use Rattle.std.proofs.Common.{ℕ, List, sym, subst, ◌∙◌}
use Rattle.octet_language.specs.Language.{AnyOf}
use Rattle.syslog_fields.specs.Values.{Spells}
use Rattle.syslog_reading.proofs.OwnedParts.{param_is}
use Rattle.syslog_reading.proofs.owned.to_param.Goals as goal

pub to_text-requires : goal.to_text-requires
to_text-requires c = subst (λ (raw : List ℕ). ∥ AnyOf Spells raw ∥₁) (sym c.raw.ensures) c.requires.value

pub returns : goal.returns
returns c = λ text h. param_is c.new.result c.args.view.now.name.now text
    (c.new.ensures.name ∙ c.in_ok-name.ensures ∙ c.name.ensures)
    (c.new.ensures.value ∙ c.in_ok-value.ensures text (rw c.raw.ensures h))
