use Rattle.archive_streams.proofs.Halts.{end_halts}
use Rattle.archive_streams.proofs.Merges.{joined_of}
use Rattle.archive_streams.proofs.Stops.{stopped_before, stopped_sent, stopped_whole}
use Rattle.archive_streams.proofs.merge.Merge.finish.Goals as goal

pub returns-in-Ok-clause-ok : goal.returns-in-Ok-clause-ok
returns-in-Ok-clause-ok g c = record {
  joined = λ dl el dr er start none s.
      joined_of c.args.self.now dl el dr er start _ _ none (c.in-Ok.ensures.finishes.whole start) s;
  halted = λ fault dl el dr er start other h.
      stopped_whole fault c.args.self.now.held dl el dr er start _ _ other (c.in-Ok.ensures.finishes.whole start) h;
}

pub returns-in-Err-clause-err : goal.returns-in-Err-clause-err
returns-in-Err-clause-err g c =
    let sent = c.in-Err.field-0.sent in
    record {
      stopped = λ dl el dr er start room s.
          stopped_sent sent c.args.self.now.held dl el dr er start _
          (end_halts c.args.self.now c.args.self.now.held dl el dr er start _ _ sent room
          (c.in-Err.ensures.finishes.stops start) s);
      halted = λ before dl el dr er start other h.
          stopped_before before c.args.self.now.held dl el dr er start _ _ sent other
          (c.in-Err.ensures.finishes.stops start) h;
    }
