use Rattle.std.proofs.Common.{List, ℕ, Option, Some, rules, subst, sym}
use Rattle.std.specs.Option.{option_map}
use Rattle.store_reading.specs.Names.{AddsDay}
use Rattle.store_reading.proofs.Nearest.{nearer_day}
use Rattle.store_reading.proofs.days.nearer.Goals as goal

pub returns-then-is_before : goal.returns-then-is_before
returns-then-is_before c =
    subst (λ (o : Option (List ℕ)). AddsDay (option_map (λ d. d.now) c.args.last) c.args.day o (Some c.args.day))
    (sym c.in-Some.is)
    (nearer_day (option_map (λ d. d.now) c.args.last) c.args.day c.in-Some.next (c.is_after.ensures.0 (search rules))
    (c.is_before.ensures.0 (search rules)))
