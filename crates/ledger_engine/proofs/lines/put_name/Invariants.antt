use Rattle.std.proofs.Common.{◌≡◌, ◌++◌, take}
use Rattle.std.specs.Prelude.{flat_map}
use Rattle.ledger_engine.specs.Lines.{printed}
use Rattle.ledger_engine.proofs.lines.put_name.Given as goal

abbrev pub invariant-octets : goal.invariant-octets
invariant-octets l = l.lines.items ≡ l.initial.lines.items ++ flat_map printed (take l.octet-index l.name)
