use Rattle.std.proofs.Common.{arith, rules}
use Rattle.option_values.proofs.NumberLemmas.{number_yes, parsed_number, parsed_small, unparsed_number}
use Rattle.option_values.proofs.numbers.size_of.Goals as goal

pub returns-in-Ok : goal.returns-in-Ok
returns-in-Ok c =
    let (digits, some, e) = parsed_number 64 c.args.text.now c.in-Ok.number c.in-Ok.ensures.value.0 (search rules) in
    number_yes 0 18_446_744_073_709_551_615 c.args.text.now c.in-Ok.number digits some e (omega arith)
    (omega (arith, parsed_small 64 c.args.text.now c.in-Ok.number c.in-Ok.ensures.value.0))

pub returns-in-Err : goal.returns-in-Err
returns-in-Err c =
    unparsed_number 64 0 18_446_744_073_709_551_615 c.args.text.now c.in-Err.field-0 c.in-Err.ensures.value.0
    (search rules) (omega arith)
