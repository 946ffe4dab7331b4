use Rattle.std.proofs.Common.{rules, ℕ}
use Rattle.archive_join.specs.Joined.{IsWrittenAt}
use Rattle.archive_join.specs.Joining.{IsUnderWay}
use Rattle.archive_join.proofs.Ends.{joined_all, stopped_end, stopped_then}
use Rattle.archive_join.proofs.Failures.{failed_still, written_still}
use Rattle.archive_join.proofs.Turns.{written_at}
use Rattle.archive_join.proofs.joining.Join.run.Goals as goal

pub returns-in-Ok-clause-outcome : goal.returns-in-Ok-clause-outcome
returns-in-Ok-clause-outcome g c =
    joined_all (g.K.Kept.keeps c.args.kept.now) (g.K.Kept.text c.args.kept.now) c.join.new.self _ _ _ _ _
    c.in_default.ensures.closed (λ t h. c.in-Ok.ensures.finishes.whole _ t h) c.in_default.ensures.joined

pub returns-in-Err-finish-clause-outcome : goal.returns-in-Err-finish-clause-outcome
returns-in-Err-finish-clause-outcome g c =
    stopped_end (g.K.Kept.keeps c.args.kept.now) (g.K.Kept.text c.args.kept.now) c.join.new.self
    c.in-Err-finish.field-0.sent _ _ _ _ _ (λ t h. c.in-Err-finish.ensures.finishes.stops _ t h)
    c.in_default.ensures.joined

pub returns-in-Ok-finish : goal.returns-in-Ok-finish
returns-in-Ok-finish g c =
    let fault = c.in-Err.fault in
    let held = c.join.new.self.held in
    let start = (g.W.Output.state c.args.writer.now).taken in
    let now = (g.W.Output.state c.join.new.writer).taken in
    let after = (g.W.Output.state c.finish-in_default-fault.new.writer).taken in
    let other = c.in_default-fault.not-Write in
    record {
      outcome = stopped_then (g.K.Kept.keeps c.args.kept.now) (g.K.Kept.text c.args.kept.now) fault _ _
          (IsUnderWay fault held start now) (IsWrittenAt fault start after)
          (λ t u. written_at fault held start now after t other
          (λ l h. c.in-Ok-finish.ensures.finishes.whole start l h) u) c.in-Err.ensures.halted;
      told = record {
        readers = failed_still (Unit {0}) ℕ fault _ _ other c.in-Err.ensures.devices.read;
        writer = written_still (Unit {0}) ℕ fault _ _ _ other c.in-Err.ensures.devices.written
            c.in-Ok-finish.ensures.finishes.no_failure;
      };
      not_memory = search rules;
    }
