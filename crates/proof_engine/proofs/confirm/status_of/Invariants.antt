use Rattle.std.proofs.Common.{◌≡◌, drop}
use Rattle.proof_engine.specs.Confirmed.{shown_status}
use Rattle.proof_engine.proofs.confirm.status_of.Given as goal

abbrev pub invariant-loop-answer : goal.invariant-loop-answer
invariant-loop-answer l = shown_status (drop l.answer-index l.answers) ≡ shown_status l.answers
