use Rattle.durable_store.proofs.Daily.{err_weaker, ok_weaker}
use Rattle.durable_store.proofs.Readable.{at_err}
use Rattle.store_addition.specs.declared.fault.AddFault.TheVariants.{Segment}
use Rattle.store_addition.proofs.Disks.{ends, fails, goes_on, stops}
use Rattle.store_addition.proofs.adding.Adding.add_piece.Goals as goal

pub returns-in_err-write-clause-fault : goal.returns-in_err-write-clause-fault
returns-in_err-write-clause-fault g c =
    at_err c.from_residual.result (Segment c.in_err-write.field-0.0) _ c.from_residual.ensures.1
    (λ d start way.
    fails (g.D.Disk.tells c.write.new.disk) (g.D.Disk.tells c.args.disk.now) (g.D.Disk.has_failed c.write.new.disk)
    c.gather-gathered.new.self c.write.new.self d (g.R.Input.state c.gather-gathered.new.input) start
    (g.D.Disk.state c.args.disk.now) (g.D.Disk.state c.write.new.disk) way.done c.write.ensures.told way.disk
    c.write.ensures.gains c.write.ensures.segments
    c.in_err-write.field-0.0 c.in_err-write.ensures.err
    (c.gather-gathered.ensures.began d way.done way.gathering) c.in_err-write.ensures.cause)

pub returns-clause-more : goal.returns-clause-more
returns-clause-more g c =
    ok_weaker _ _
    (λ more piece is d start way.
    goes_on (g.D.Disk.tells c.write.new.disk) (g.D.Disk.tells c.args.disk.now) (g.D.Disk.has_failed c.write.new.disk)
    c.gather-gathered.new.self c.write.new.self d (g.R.Input.state c.gather-gathered.new.input) start
    (g.D.Disk.state c.args.disk.now) (g.D.Disk.state c.write.new.disk) way.done c.write.ensures.told way.disk
    c.write.ensures.gains c.write.ensures.segments c.in_ok-write.ensures.written c.in_ok-write.ensures.held
    c.in_ok-write.ensures.sound (piece is d way.done way.gathering))
    c.gather-gathered.result c.gather-gathered.ensures.piece

pub returns-clause-end : goal.returns-clause-end
returns-clause-end g c =
    ok_weaker _ _
    (λ more whole is d start way.
    ends (g.D.Disk.tells c.write.new.disk) (g.D.Disk.tells c.args.disk.now) (g.D.Disk.has_failed c.write.new.disk)
    c.gather-gathered.new.self c.write.new.self d (g.R.Input.state c.gather-gathered.new.input) start
    (g.D.Disk.state c.args.disk.now) (g.D.Disk.state c.write.new.disk) way.done c.write.ensures.told way.disk
    c.write.ensures.gains c.write.ensures.segments c.in_ok-write.ensures.written c.in_ok-write.ensures.held
    (whole is d way.done way.gathering))
    c.gather-gathered.result c.gather-gathered.ensures.end

pub returns-clause-fault : goal.returns-clause-fault
returns-clause-fault g c =
    err_weaker _ _
    (λ fault halted d start way.
    stops (g.D.Disk.tells c.write.new.disk) (g.D.Disk.tells c.args.disk.now) (g.D.Disk.has_failed c.write.new.disk)
    c.gather-gathered.new.self c.write.new.self d (g.R.Input.state c.gather-gathered.new.input) start
    (g.D.Disk.state c.args.disk.now) (g.D.Disk.state c.write.new.disk) way.done c.write.ensures.told way.disk
    c.write.ensures.gains c.write.ensures.segments c.in_ok-write.ensures.written c.in_ok-write.ensures.held
    fault (halted d way.done way.gathering))
    c.gather-gathered.result c.gather-gathered.ensures.fault
