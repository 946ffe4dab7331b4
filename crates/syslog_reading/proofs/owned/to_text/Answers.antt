use Rattle.std.proofs.Common.{ap, sym, subst, ◌∙◌}
use Rattle.std.specs.Prelude.{IsUtf8}
use Rattle.std.proofs.Math.Logic.{∥∥₁_elim}
use Rattle.syslog_reading.proofs.Valid.{valid_value}
use Rattle.syslog_reading.proofs.owned.to_text.Goals as goal

pub unreachable-requires : goal.unreachable-requires
unreachable-requires c =
    ∥∥₁_elim c.requires (λ x y. absurd x) (λ h. let i = c.in-Err.ensures.succeeds (subst IsUtf8
    (sym (c.in_ok-unescape.ensures h.0 h.1)) (valid_value h.0 c.args.raw.now h.1)) in absurd cc)

pub returns : goal.returns
returns c = λ text h. ap (λ v. v.items) c.in-Ok.ensures.ok ∙ c.in_ok-unescape.ensures text h
