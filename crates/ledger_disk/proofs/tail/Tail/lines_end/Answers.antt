use Rattle.std.proofs.Common.{◌≡◌, ◌⊎◌, ◌<◌, List, ℕ, arith, inl, inr, rules, subst}
use Rattle.ledger_disk.specs.Ledgers.{IsLinesEnd}
use Rattle.ledger_disk.proofs.Tails.{end_in_tail}
use Rattle.ledger_disk.proofs.tail.Tail.lines_end.Goals as goal
use Rattle.ledger_disk.proofs.tail.Tail.lines_end.Goals.{then-end-eq0, else-end-eq0}

pub returns-clause-end : goal.returns-clause-end
returns-clause-end c file tail =
    let at = c.args.self.now.at in
    let n = c.lines_end-end.result in
    let all : (at ≡ 0) ⊎ (0 < n) = elim c.if-end-eq0.branch [
      | then-end-eq0 w ↦ inl (grind arith)
      | else-end-eq0 w ↦ inr (omega arith)
    ] in
    let octets = c.args.self.now.octets.items in
    let end : IsLinesEnd octets n =
    subst (λ (l : List ℕ). IsLinesEnd l n) c.deref.ensures.value c.lines_end-end.ensures in
    end_in_tail file octets at n tail end all
