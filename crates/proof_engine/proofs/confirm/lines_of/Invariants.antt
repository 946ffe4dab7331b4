use Rattle.std.proofs.Common.{◌≡◌, take}
use Rattle.std.specs.List.{flat_map}
use Rattle.proof_engine.specs.Confirmed.{answer_line}
use Rattle.proof_engine.proofs.confirm.lines_of.Given as goal

abbrev pub invariant-loop-answer : goal.invariant-loop-answer
invariant-loop-answer l = l.lines.items ≡ flat_map answer_line (take l.answer-index l.answers)
