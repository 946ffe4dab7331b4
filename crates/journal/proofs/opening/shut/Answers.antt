use Rattle.std.proofs.Common.{◌<◌, length, arith}
use Rattle.journal.proofs.Repair.{append_closes, append_fails, overwrite_closes, overwrite_fails, closes}
use Rattle.journal.proofs.Repair.{closing_leaves}
use Rattle.journal.proofs.opening.shut.Goals as goal

pub returns-in_err-append-clause-leaves : goal.returns-in_err-append-clause-leaves
returns-in_err-append-clause-leaves g c tells bodies at ends =
    append_fails (g.D.Disk.state c.args.disk.now) (g.D.Disk.state c.append.new.self) c.args.name.now c.args.file.now
    bodies c.args.end at ends (omega arith) c.in_err-append.field-0.0 (c.in_err-append.ensures.done tells)

pub returns-then-end-file-clause-closing : goal.returns-then-end-file-clause-closing
returns-then-end-file-clause-closing g c tells bodies at ends =
    append_closes (g.D.Disk.state c.args.disk.now) (g.D.Disk.state c.append.new.self) c.args.name.now c.args.file.now
    bodies c.args.end at ends (omega arith) (c.in_ok-append.ensures.done tells)

pub returns-then-end-file-clause-leaves : goal.returns-then-end-file-clause-leaves
returns-then-end-file-clause-leaves g c tells bodies at ends =
    closing_leaves (g.D.Disk.state c.append.new.self) c.args.name.now bodies
    (returns-then-end-file-clause-closing g c tells bodies at ends)

pub returns-in_err-overwrite-clause-leaves : goal.returns-in_err-overwrite-clause-leaves
returns-in_err-overwrite-clause-leaves g c tells bodies at ends =
    let some : c.args.end < length c.args.file.now = omega arith in
    overwrite_fails (g.D.Disk.state c.args.disk.now) (g.D.Disk.state c.overwrite.new.self) c.args.name.now
    c.args.file.now bodies c.args.end at ends some c.if-file-end-eq-OPEN.true c.in_err-overwrite.field-0.0
    (c.in_err-overwrite.ensures.done tells)

pub returns-then-file-end-eq-OPEN-clause-closing : goal.returns-then-file-end-eq-OPEN-clause-closing
returns-then-file-end-eq-OPEN-clause-closing g c tells bodies at ends =
    let some : c.args.end < length c.args.file.now = omega arith in
    overwrite_closes (g.D.Disk.state c.args.disk.now) (g.D.Disk.state c.overwrite.new.self) c.args.name.now
    c.args.file.now bodies c.args.end at ends some c.if-file-end-eq-OPEN.true (c.in_ok-overwrite.ensures.done tells)

pub returns-then-file-end-eq-OPEN-clause-leaves : goal.returns-then-file-end-eq-OPEN-clause-leaves
returns-then-file-end-eq-OPEN-clause-leaves g c tells bodies at ends =
    closing_leaves (g.D.Disk.state c.overwrite.new.self) c.args.name.now bodies
    (returns-then-file-end-eq-OPEN-clause-closing g c tells bodies at ends)

pub returns-clause-closing : goal.returns-clause-closing
returns-clause-closing g c tells bodies at ends =
    let some : c.args.end < length c.args.file.now = omega arith in
    closes (g.D.Disk.state c.args.disk.now) (g.D.Disk.state c.args.disk.now) c.args.name.now c.args.file.now bodies
    c.args.end at ends some c.if-file-end-eq-OPEN.false

pub returns-clause-leaves : goal.returns-clause-leaves
returns-clause-leaves g c tells bodies at ends = closing_leaves (g.D.Disk.state c.args.disk.now) c.args.name.now bodies
    (returns-clause-closing g c tells bodies at ends)
