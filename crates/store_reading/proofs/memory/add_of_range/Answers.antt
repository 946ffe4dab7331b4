use Rattle.std.proofs.Common.{rules, sym, ◌∙◌}
use Rattle.std.proofs.lemmas.Bool.{false≢true}
use Rattle.archive_text.specs.EntryViews.{entry_of}
use Rattle.store_reading.specs.Sources.{set_entries}
use Rattle.store_reading.proofs.Mixed.{none_of_range, one_of_range}
use Rattle.store_reading.proofs.Whole.{on_ok_more}
use Rattle.store_reading.proofs.memory.add_of_range.Goals as goal

pub returns-then-not-holds-clause-adds : goal.returns-then-not-holds-clause-adds
returns-then-not-holds-clause-adds c =
    none_of_range c.args.range.now (set_entries c.args.set.now) (entry_of c.args.entry.now)
    (λ inside. false≢true (sym c.if-not-holds.true ∙ c.holds.ensures.1 inside))

pub returns-clause-adds : goal.returns-clause-adds
returns-clause-adds c =
    on_ok_more c.add_entry.result
    (λ adds. one_of_range c.args.range.now (set_entries c.args.set.now) (set_entries c.add_entry.new.set)
    (entry_of c.args.entry.now) (c.holds.ensures.0 (search rules)) adds) c.add_entry.ensures.adds
