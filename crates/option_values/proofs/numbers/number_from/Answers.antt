use Rattle.std.proofs.Common.{arith, rules}
use Rattle.option_values.proofs.NumberLemmas.{number_yes, parsed_number, unparsed_number}
use Rattle.option_values.proofs.numbers.number_from.Goals as goal

pub returns-in-Ok : goal.returns-in-Ok
returns-in-Ok c =
    let (digits, some, e) = parsed_number 32 c.args.text.now c.in-Ok.number c.in-Ok.ensures.value.0 (search rules) in
    number_yes c.args.first c.args.last c.args.text.now c.in-Ok.number digits some e c.if-number-first.true c.if-number-last.true

pub returns-in_default-3 : goal.returns-in_default-3
returns-in_default-3 c =
    unparsed_number 32 c.args.first c.args.last c.args.text.now c.in_default.field-0 c.in_default.ensures.value.0
    (search rules) (omega (arith, c.ranges.last.fits))
