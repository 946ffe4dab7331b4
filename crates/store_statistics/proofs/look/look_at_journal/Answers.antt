use Rattle.store_statistics.proofs.Seeing.{journal_seen}
use Rattle.store_statistics.proofs.look.look_at_journal.Goals as goal

pub returns-clause-seen : goal.returns-clause-seen
returns-clause-seen g c tells journal =
    journal_seen (g.F.Folder.files c.args.folder.now) c.args.name.now c.in_ok-journal.journal journal
    (c.in_ok-journal.ensures.read tells) c.count_journal.result c.seen_by.result
    c.count_journal.ensures.counted c.count_journal.ensures.damaged c.seen_by.ensures.seen
