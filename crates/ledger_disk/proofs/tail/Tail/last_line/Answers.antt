use Rattle.std.proofs.Common.{◌≡◌, ◌⊎◌, ◌+◌, ◌++◌, ◌<◌, List, ℕ, arith, inl, inr, length, subst, sym, take}
use Rattle.std.proofs.lemmas.List.{length-take-le}
use Rattle.ledger_disk.specs.Ledgers.{IsLast, IsLinesEnd}
use Rattle.ledger_disk.proofs.Behind.{last_in_file, last_size, lines_taken}
use Rattle.ledger_disk.proofs.tail.Tail.last_line.Goals as goal
use Rattle.ledger_disk.proofs.tail.Tail.last_line.Goals.{else-line-len-via-then-line-len+else-self-gt0}
use Rattle.ledger_disk.proofs.tail.Tail.last_line.Goals.{else-line-len-via-else-line-len}

pub returns : goal.returns
returns c file tail =
    let at = c.args.self.now.at in
    let octets = c.args.self.now.octets.items in
    let len = c.in-Some.len in
    let line = c.in-Some-last_of.line.now in
    let here = c.in-Some.ensures.here in
    let whole = subst (λ (l : List ℕ). IsLinesEnd (take len l) (length (take len l))) (sym c.deref.ensures.value)
    (lines_taken octets len here) in
    let last = c.in-Some-last_of.ensures.last whole in
    let is : IsLast (take len octets) last.0 line =
    subst (λ (l : List ℕ). IsLast (take len l) last.0 line) c.deref.ensures.value last.1 in
    let size = last_size (take len octets) last.0 line is in
    let taken : length (take len octets) ≡ len = length-take-le len octets here.within in
    let some : (at ≡ 0) ⊎ (0 < length last.0) = elim c.else-line-len.branch [
      | else-line-len-via-then-line-len+else-self-gt0 w ↦ inl (omega arith)
      | else-line-len-via-else-line-len w ↦ inr (omega arith)
    ] in (
      at + len,
      c.in-Some.ensures.end file tail,
      (take at file ++ last.0, last_in_file file octets at len last.0 line tail some is),
    )
