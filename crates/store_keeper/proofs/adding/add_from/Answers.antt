use Rattle.std.proofs.Common.{refl}
use Rattle.archive_pages.specs.Paged.{entries_from, entries_in}
use Rattle.archive_text.specs.EntryViews.{entry_of}
use Rattle.store_keeper.proofs.Taking.{front_entry, front_more, front_none, front_stays, place_entries}
use Rattle.store_keeper.proofs.adding.add_from.Goals as goal

pub entries-init : goal.entries-init
entries-init c =
    front_none c.args.store.now (entries_from c.args.fresh.now c.args.place.now)
    (entries_from c.args.fresh.now c.args.place.now) refl

pub add_entry-requires : goal.add_entry-requires
add_entry-requires c =
    front_entry c.args.store.now c.entries.store (entries_from c.args.fresh.now c.args.place.now)
    (entries_from c.args.fresh.now c.entries.place) (entries_from c.args.fresh.now c.in-Some.behind)
    (entry_of c.in-Some.entry) c.entries.invariant c.in-Some.ensures.some
    (place_entries (entries_in c.args.fresh.now) c.requires.0 (entries_from c.args.fresh.now c.args.place.now)
    c.requires.1 c.args.fresh.now.paged.archive.entries)

pub entries-preserved : goal.entries-preserved
entries-preserved c =
    front_more c.args.store.now c.entries.store c.add_entry.new.store
    (entries_from c.args.fresh.now c.args.place.now) (entries_from c.args.fresh.now c.entries.place)
    (entries_from c.args.fresh.now c.in-Some.behind) (entry_of c.in-Some.entry) c.entries.invariant
    c.in-Some.ensures.some c.in_ok-added.ensures.ok

pub returns-in_err-added-clause-front : goal.returns-in_err-added-clause-front
returns-in_err-added-clause-front c =
    front_stays c.args.store.now c.entries.store c.add_entry.new.store
    (entries_from c.args.fresh.now c.args.place.now) (entries_from c.args.fresh.now c.entries.place)
    c.entries.invariant c.in_err-added.ensures.err
