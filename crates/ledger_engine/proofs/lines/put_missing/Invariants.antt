use Rattle.std.proofs.Common.{◌≡◌, ◌++◌, take, codes}
use Rattle.ledger_engine.specs.Findings.{octets_of}
use Rattle.ledger_engine.specs.Lines.{name_lines}
use Rattle.ledger_engine.proofs.lines.put_missing.Given as goal

abbrev pub invariant-names : goal.invariant-names
invariant-names l =
    l.lines.items ≡ l.initial.lines.items ++ name_lines (codes " missing\n") (octets_of (take l.name-index l.names))
