use Rattle.archive_pages.specs.Paged.{entries_in}
use Rattle.durable_store.specs.Causes.{StandsAtAll, StandsWith}
use Rattle.durable_store.proofs.Failing.{checkpoint_less}
use Rattle.durable_store.proofs.store.DurableStore.checkpoint.Goals as goal

pub returns-in-Err-clause-err : goal.returns-in-Err-clause-err
returns-in-Err-clause-err g c tells sets stands = record {
  journal = c.break_off.ensures.stands (g.D.Disk.state c.write_out.new.disk) sets
      (c.in-Err.ensures.err tells sets stands.journal
      (λ e has. stands.journal.within e ((stands.held e).0 has)) (λ e has. (stands.held e).1 has));
  held = stands.held;
}

pub returns-in-Err-clause-cause : goal.returns-in-Err-clause-cause
returns-in-Err-clause-cause g c =
    let store = c.args.self.now in
    let zero = g.D.Disk.state c.args.disk.now in
    checkpoint_less (g.D.Disk.tells c.write_out.new.disk) (g.D.Disk.has_failed c.write_out.new.disk)
    (StandsWith store.store zero (entries_in store.set)) (StandsAtAll store zero) store.store
    (g.D.Disk.state c.write_out.new.disk) c.in-Err.fault
    (λ tell known. (known.0, known.1.journal, λ e has. known.1.journal.within e ((known.1.held e).0 has)))
    c.in-Err.ensures.cause

pub returns-in-Ok-clause-segments : goal.returns-in-Ok-clause-segments
returns-in-Ok-clause-segments g c tells known =
    (c.write_out.ensures.segments tells
    (known.0, known.1.journal, λ e has. known.1.journal.within e ((known.1.held e).0 has))).stay

pub returns-in-Ok-clause-few : goal.returns-in-Ok-clause-few
returns-in-Ok-clause-few g c tells known =
    (c.write_out.ensures.segments tells
    (known.0, known.1.journal, λ e has. known.1.journal.within e ((known.1.held e).0 has)))

pub returns-in-Err-clause-segments : goal.returns-in-Err-clause-segments
returns-in-Err-clause-segments g c tells known =
    (c.write_out.ensures.segments tells
    (known.0, known.1.journal, λ e has. known.1.journal.within e ((known.1.held e).0 has))).stay

pub returns-in-Err-clause-few : goal.returns-in-Err-clause-few
returns-in-Err-clause-few g c tells known =
    (c.write_out.ensures.segments tells
    (known.0, known.1.journal, λ e has. known.1.journal.within e ((known.1.held e).0 has)))

pub returns-in-Ok-clause-sheds : goal.returns-in-Ok-clause-sheds
returns-in-Ok-clause-sheds g c tells known =
    c.in-Ok.ensures.sheds tells (known.0, known.1.journal, λ e has. known.1.journal.within e ((known.1.held e).0 has))
