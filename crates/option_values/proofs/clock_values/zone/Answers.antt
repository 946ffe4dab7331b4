use Rattle.std.proofs.Common.{◌≡◌, ◌∙◌, ap, List, ℕ, Option, rules, length, take, drop, ◌-◌}
use Rattle.option_values.specs.Clocks.{minutes_of}
use Rattle.option_values.proofs.ClockLemmas.{zone_ahead, zone_behind}
use Rattle.option_values.proofs.clock_values.zone.Goals as goal

-- the minutes of the digits behind the letter
behind : (a b : List ℕ) (r : Option ℕ) → r ≡ minutes_of (take (length a - 1) (drop 1 a)) → a ≡ b
    → r ≡ minutes_of (take (length b - 1) (drop 1 b))
behind a b r e same = e ∙ ap (λ (s : List ℕ). minutes_of (take (length s - 1) (drop 1 s))) same

pub returns-in_ok-minutes-in-69 : goal.returns-in_ok-minutes-in-69
returns-in_ok-minutes-in-69 c =
    zone_ahead c.args.text.now c.minutes.result c.in_ok-minutes-in-69.field-0
    (behind c.as_bytes.result.now c.args.text.now c.minutes.result c.minutes.ensures c.as_bytes.ensures.value)
    (search rules) (search rules) (search rules)

pub returns-in_ok-minutes-in-87 : goal.returns-in_ok-minutes-in-87
returns-in_ok-minutes-in-87 c =
    zone_behind c.args.text.now c.minutes-in-87.result c.in_ok-minutes-in-87.field-0
    (behind c.as_bytes.result.now c.args.text.now c.minutes-in-87.result c.minutes-in-87.ensures
    c.as_bytes.ensures.value)
    (search rules) (search rules) (search rules)
