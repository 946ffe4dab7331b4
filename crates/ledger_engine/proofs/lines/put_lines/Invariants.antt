use Rattle.std.proofs.Common.{◌≡◌, ◌++◌, take}
use Rattle.ledger_engine.specs.Lines.{name_lines}
use Rattle.ledger_engine.proofs.lines.put_lines.Given as goal

abbrev pub invariant-names : goal.invariant-names
invariant-names l = l.lines.items ≡ l.initial.lines.items ++ name_lines l.words (take l.name-index l.names)
