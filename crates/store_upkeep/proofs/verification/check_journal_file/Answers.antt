use Rattle.store_upkeep.proofs.Verdicts.{journal_verdict, journal_whole_at}
use Rattle.store_upkeep.proofs.verification.check_journal_file.Goals as goal

pub returns-in-Ok-clause-verdict : goal.returns-in-Ok-clause-verdict
returns-in-Ok-clause-verdict g c tells journal =
    journal_whole_at (g.F.Folder.files c.args.folder.now) c.args.name.now c.in-Some.journal journal
    (rw c.in-Some.is at (c.in_ok-journal.ensures.read tells)) c.in-Ok.ensures.whole

pub returns-clause-verdict : goal.returns-clause-verdict
returns-clause-verdict g c tells journal =
    journal_verdict (g.F.Folder.files c.args.folder.now) c.args.name.now c.in-Some.journal c.in-Err.fault
    c.found_by.result journal (rw c.in-Some.is at (c.in_ok-journal.ensures.read tells)) c.in-Err.ensures.damaged
    c.found_by.ensures.found
