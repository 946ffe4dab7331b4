use Rattle.std.proofs.Common.{sym, ◌∙◌}
use Rattle.std.proofs.lemmas.Bool.{false≢true}
use Rattle.archive_pages.specs.Paged.{entries_from}
use Rattle.archive_text.specs.EntryViews.{entry_of}
use Rattle.durable_store.proofs.Runs.{none_leaves, other_leaves}
use Rattle.durable_store.proofs.shares.next_of.Goals as goal

pub returns-else-is_of-clause-none : goal.returns-else-is_of-clause-none
returns-else-is_of-clause-none c =
    other_leaves c.args.day.now (entries_from c.args.set.now c.args.place) (entries_from c.args.set.now c.in-Some.behind)
    (entry_of c.in-Some.entry) c.in-Some.ensures.some (λ is. false≢true (sym c.if-is_of.false ∙ c.is_of.ensures.1 is))

pub returns-in-None-clause-none : goal.returns-in-None-clause-none
returns-in-None-clause-none c =
    none_leaves c.args.day.now (entries_from c.args.set.now c.args.place) c.in-None.ensures.none
