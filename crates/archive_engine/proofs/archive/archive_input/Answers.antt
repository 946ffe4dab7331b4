use Rattle.driver.proofs.Ends.{unstarted}
use Rattle.archive_engine.specs.Archived.{archive_meaning}
use Rattle.archive_engine.proofs.ArchiveLemmas.{archive_begun}
use Rattle.archive_engine.proofs.archive.archive_input.Goals as goal

pub returns-in_default : goal.returns-in_default
returns-in_default g c =
    let b = archive_begun c.args.reading c.args.input_framing in
    unstarted _ (archive_meaning c.args.reading c.args.input_framing) _ _ _ b.0 b.1 c.report.ensures.reports
