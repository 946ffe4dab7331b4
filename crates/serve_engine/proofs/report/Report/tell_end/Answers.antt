use Rattle.serve_engine.proofs.Words.{source_note}
use Rattle.serve_engine.proofs.report.Report.tell_end.Goals as goal

pub tell_text-requires : goal.tell_text-requires
tell_text-requires g c = source_note
