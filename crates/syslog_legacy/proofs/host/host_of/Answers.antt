use Rattle.std.proofs.Common.{◌≡◌, ◌<◌, length, rules}
use Rattle.syslog_legacy.proofs.Hosts.{no_host_empty, no_host_behind}
use Rattle.syslog_legacy.proofs.host.host_of.Goals as goal

pub returns-then-is_empty : goal.returns-then-is_empty
returns-then-is_empty c =
    let none : length c.args.run.now ≡ 0 = search rules in
    no_host_empty c.args.octets.now c.args.run.now c.args.rest.now c.requires none

pub returns-in_err-rest : goal.returns-in_err-rest
returns-in_err-rest c =
    let some : 0 < length c.args.rest.now = search rules in
    rw c.from_residual.ensures (no_host_behind c.args.octets.now c.args.run.now c.args.rest.now
    c.requires some c.in_err-rest.ensures)
