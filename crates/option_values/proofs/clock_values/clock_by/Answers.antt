use Rattle.std.proofs.Common.{◌∙◌, Some, ap, sym, option_map, rules, w16}
use Rattle.std.proofs.lemmas.Int.{to_z-of_z}
use Rattle.syslog_legacy.specs.declared.clock.LegacyClock.{LegacyClock}
use Rattle.option_values.specs.Clocks.{clock_at}
use Rattle.option_values.proofs.ClockLemmas.{other_dialect}
use Rattle.option_values.proofs.clock_values.clock_by.Goals as goal

pub returns : goal.returns
returns c =
    rw c.in-Some.is (ap (λ (x : LegacyClock). Some (Some x)) (other_dialect c.in_ok-clock.clock c.with_dialect.result
    c.args.dialect c.with_dialect.ensures.year c.with_dialect.ensures.offset c.with_dialect.ensures.dialect)
    ∙ ap (option_map (λ (x : LegacyClock). Some (record x { dialect = c.args.dialect })))
    (sym c.in_ok-clock.was ∙ c.clock_at.ensures
    ∙ ap (clock_at c.in-Some.year) (to_z-of_z w16 c.args.offset_minutes (search rules))))
