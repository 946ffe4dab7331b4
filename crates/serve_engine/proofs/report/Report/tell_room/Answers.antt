use Rattle.serve_engine.proofs.Words.{room_note}
use Rattle.serve_engine.proofs.report.Report.tell_room.Goals as goal

pub tell_text-requires : goal.tell_text-requires
tell_text-requires g c = room_note
