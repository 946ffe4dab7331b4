use Rattle.syslog_reading.proofs.whole.repeated_id.Goals as goal

pub returns-then-differ : goal.returns-then-differ
returns-then-differ c =
    let d = c.requires.some in
    (d.0, d.1, c.requires.differ c.if-differ.true d.0 d.1)
