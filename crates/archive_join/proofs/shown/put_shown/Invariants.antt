use Rattle.std.proofs.Common.{◌≤◌, take}
use Rattle.octet_devices.specs.Held.{HasPut}
use Rattle.archive_join.specs.Shown.{shown}
use Rattle.archive_join.proofs.Lines.{ArePlain, between}
use Rattle.archive_join.proofs.shown.put_shown.Given as goal

abbrev pub invariant-octets : goal.invariant-octets
invariant-octets g l = record {
  few : l.from ≤ l.at;
  put : HasPut (g.W.Output.state l.fn.writer) (g.W.Output.state l.writer) l.fn.held l.held
      (shown (take l.from l.octets));
  plain : ArePlain (between l.from l.at l.octets);
}
