use Rattle.ledger.specs.Lines.{said_of}
use Rattle.ledger_disk.proofs.Batches.{one_line}
use Rattle.ledger_disk.proofs.appending.append_line.Goals as goal

pub returns-clause-written : goal.returns-clause-written
returns-clause-written g c tells sound =
    one_line (g.D.Disk.state c.args.disk.now) (g.D.Disk.state c.append_lines.new.disk) c.args.ledger.now
    (said_of c.args.entry.now) (c.in_ok-before.ensures.written tells sound)
