use Rattle.std.proofs.Common.{◌≡◌, List, [], ℕ, true, arith, rules}
use Rattle.ledger.specs.declared.head.ChainHead.{ChainHead}
use Rattle.ledger.specs.Chains.{EndsAt}
use Rattle.ledger_disk.proofs.Behind.{behind_some, no_front}
use Rattle.ledger_disk.proofs.appending.head_behind.Goals as goal
use Rattle.ledger_disk.proofs.appending.head_behind.Goals.{else-line-lines-via-then-line-lines+else-not-are_all}
use Rattle.ledger_disk.proofs.appending.head_behind.Goals.{else-line-lines-via-else-line-lines}

pub returns : goal.returns
returns c whole =
    let last = c.in-Some.ensures.last whole in
    let lines = c.args.lines.now in
    let line = c.in-Some.line.now in
    let none : last.0 ≡ [] → c.args.are_all ≡ true = elim c.else-line-lines.branch [
      | else-line-lines-via-then-line-lines+else-not-are_all w ↦ λ is. search rules
      | else-line-lines-via-else-line-lines w ↦
          no_front lines last.0 line (c.args.are_all ≡ true) last.1 (omega arith)
    ] in
    behind_some c.behind.result ((h : ChainHead) → ¬ (EndsAt h line)) lines last.0 line c.args.are_all c.behind.ensures
    last.1 none
