use Rattle.std.proofs.Common.{rules, ◌≡◌, ◌+◌, IsTrue, false, length, arith}
use Rattle.archive_streams.proofs.SideSteps.{ready_end, ready_next, side_stops}
use Rattle.archive_streams.proofs.side.ArchiveReader.advance.Goals as goal

pub returns-in-Ok-true-clause-ready : goal.returns-in-Ok-true-clause-ready
returns-in-Ok-true-clause-ready g c = λ d es ws due ends up.
    let on : IsTrue c.in-Ok-true.field-0 = search rules in
    let position : c.next.new.self.position ≡ c.args.self.now.position + length c.next.new.self.entry.text.items =
    omega (arith, c.in-Ok-true.ensures.on.position) in
    ready_next c.args.self.now c.next.new.self d _ _ es ws c.args.last.now due ends up (c.in-Ok-true.ensures.entry on).holds
    (c.in-Ok-true.ensures.entry on).above c.next.ensures.reads position

pub returns-in-Ok-false-clause-ready : goal.returns-in-Ok-false-clause-ready
returns-in-Ok-false-clause-ready g c = λ d es ws due ends up.
    let off : c.in-Ok-false.field-0 ≡ false = search rules in
    let position : c.next.new.self.position ≡ c.args.self.now.position + length c.next.new.self.entry.text.items =
    omega (arith, c.in-Ok-false.ensures.on.position) in
    ready_end c.args.self.now c.next.new.self d _ _ es ws c.args.last.now due c.next.ensures.reads position
    (c.in-Ok-false.ensures.end off)

pub returns-in-Err-clause-stop : goal.returns-in-Err-clause-stop
returns-in-Err-clause-stop g c = λ d es due.
    side_stops c.in-Err.fault c.args.self.now c.next.new.self d _ _ es c.args.last.now due c.next.ensures.reads
    c.in-Err.ensures.fault
