use Rattle.std.proofs.Common.{◌≡◌, length, rules}
use Rattle.archive_text.specs.declared.limits.TheConstants.{ENTRY_MAX}
use Rattle.archive_laws.proofs.Judged.{read_all, read_none}
use Rattle.archive_laws.proofs.validation.archive_or_fault.Goals as goal

pub loop-rest-init : goal.loop-rest-init
loop-rest-init c = read_none ENTRY_MAX c.args.text.now

pub returns : goal.returns
returns c =
    let none : length c.loop-rest.rest.now ≡ 0 = search rules in
    read_all ENTRY_MAX c.args.text.now c.loop-rest.rest.now c.loop-rest.last c.loop-rest.invariant none
