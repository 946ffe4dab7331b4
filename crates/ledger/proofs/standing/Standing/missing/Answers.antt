use Rattle.std.proofs.Common.{[], arith}
use Rattle.ledger.specs.declared.standing.Standing.{Standing}
use Rattle.ledger.proofs.StandingLemmas.{strikes_on, struck_missing, struck_there}
use Rattle.ledger.proofs.standing.Standing.missing.Goals as goal

pub loop-name-preserved : goal.loop-name-preserved
loop-name-preserved c =
    let t : Standing = record { segments = c.remove-there.new.self; alloc = c.loop-name.self.alloc } in
    strikes_on c.args.self c.loop-name.self t c.args.names.now c.loop-name.name-index
    (record { ref_ptr = (0, 0); now = [] }) c.loop-name-test.true c.remove-there.ensures.updates c.loop-name.invariant

pub returns-clause-there : goal.returns-clause-there
returns-clause-there c =
    struck_there c.args.self c.loop-name.self c.args.names.now c.loop-name.name-index (omega arith) c.loop-name.invariant

pub returns-clause-missing : goal.returns-clause-missing
returns-clause-missing c =
    struck_missing c.args.self c.loop-name.self c.args.names.now c.loop-name.name-index (omega arith)
    c.loop-name.invariant
