use Rattle.serve_engine.proofs.Words.{fault_note, full_note, waits_note}
use Rattle.serve_engine.proofs.server.Server.fault.Goals as goal

pub wait-requires : goal.wait-requires
wait-requires g c = full_note

pub wait-requires-in-Memory : goal.wait-requires-in-Memory
wait-requires-in-Memory g c = waits_note

pub tell_text-requires : goal.tell_text-requires
tell_text-requires g c = fault_note
