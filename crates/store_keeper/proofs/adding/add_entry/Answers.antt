use Rattle.archive_text.specs.EntryViews.{entry_of}
use Rattle.store_keeper.proofs.Taking.{entry_taken, refused_stays}
use Rattle.store_keeper.proofs.adding.add_entry.Goals as goal

pub returns-in-Ok-add_view-clause-ok : goal.returns-in-Ok-add_view-clause-ok
returns-in-Ok-add_view-clause-ok c =
    entry_taken (entry_of c.args.entry.now) c.in-Ok-add_view.added c.args.store.now c.add_view.new.self c.requires
    (c.in-Ok-add_view.ensures.ok c.args.entry.now.octets.now c.in-Ok.ensures.whole)
    (c.in-Ok-add_view.ensures.stands c.args.entry.now.octets.now c.in-Ok.ensures.whole)

pub returns-in-Err-clause-err : goal.returns-in-Err-clause-err
returns-in-Err-clause-err c = refused_stays c.args.store.now c.add_view.new.self c.in-Err.ensures.refused
