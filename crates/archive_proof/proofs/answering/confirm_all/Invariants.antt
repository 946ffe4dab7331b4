use Rattle.std.proofs.Common.{take}
use Rattle.std.specs.Option.{option_map}
use Rattle.archive_proof.specs.Answering.{AreAnswered}
use Rattle.archive_proof.specs.Asking.{asked_entries}
use Rattle.archive_proof.proofs.answering.confirm_all.Given as goal

abbrev pub invariant-loop-sought : goal.invariant-loop-sought
invariant-loop-sought l =
    AreAnswered l.head (asked_entries (take l.sought-index l.asked)) l.text l.answers.items
    (option_map (λ s. s.now) l.left)
