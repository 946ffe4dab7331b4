use Rattle.std.proofs.Common.{◌++◌, rules, sym}
use Rattle.std.proofs.lemmas.List.{length-append}
use Rattle.option_values.proofs.TimeLemmas.{long_unspelled}
use Rattle.option_values.proofs.time_values.completed.Goals as goal

pub returns-then-len-ge-SPACED_MAX : goal.returns-then-len-ge-SPACED_MAX
returns-then-len-ge-SPACED_MAX c =
    sym (long_unspelled (c.args.text.now ++ c.args.end.now) (search (rules, length-append c.args.text.now c.args.end.now)))
