use Rattle.std.proofs.Common.{rules, w16}
use Rattle.std.proofs.lemmas.Int.{to_z-of_z}
use Rattle.option_values.proofs.ClockLemmas.{new_clock}
use Rattle.option_values.proofs.clock_values.clock_at.Goals as goal

pub returns : goal.returns
returns c =
    new_clock c.args.year c.args.offset_minutes _ c.new.result
    (to_z-of_z w16 c.args.offset_minutes (search rules))
    c.new.ensures.valid c.new.ensures.year c.new.ensures.offset c.new.ensures.dialect
