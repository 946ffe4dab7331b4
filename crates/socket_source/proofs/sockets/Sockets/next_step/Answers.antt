use Rattle.std.proofs.Common.{◌∙◌, length}
use Rattle.std.specs.Prelude.{None, Some}
use Rattle.socket_source.specs.Lines.{line}
use Rattle.socket_source.specs.Standings.{standing}
use Rattle.socket_source.specs.declared.step.SourceFault.TheVariants.{Endless}
use Rattle.socket_source.specs.declared.step.ServerStep.TheVariants.{Failed}
use Rattle.socket_source.proofs.Runs.{turns_at, turns_none, turns_then}
use Rattle.socket_source.proofs.Stays.{IsLawful-failed}
use Rattle.socket_source.proofs.sockets.Sockets.next_step.Goals as goal

pub returns-clause-lawful : goal.returns-clause-lawful
returns-clause-lawful g c =
    IsLawful-failed (standing c.args.self.now) (standing c.loop-turn.self) (length c.loop-turn.buf) Endless
    c.loop-turn.invariant.still

pub returns-clause-turns : goal.returns-clause-turns
returns-clause-turns g c =
    turns_then (standing c.args.self.now).listeners (Some (Failed Endless)) (line c.args.self.now)
    (line c.loop-turn.self) (line c.loop-turn.self) c.loop-turn.invariant.turns
    (turns_none (standing c.args.self.now).listeners (Some (Failed Endless)) (line c.loop-turn.self) tt)

pub returns-in-Some-clause-turns : goal.returns-in-Some-clause-turns
returns-in-Some-clause-turns g c =
    turns_then (standing c.args.self.now).listeners (Some c.in-Some.step) (line c.args.self.now)
    (line c.loop-turn.self) (line c.turn.new.self) c.loop-turn.invariant.turns
    (turns_at (standing c.args.self.now) (standing c.loop-turn.self) (Some c.in-Some.step) (line c.loop-turn.self)
    (line c.turn.new.self) c.loop-turn.invariant.still c.in-Some.ensures.turns)

pub loop-turn-preserved : goal.loop-turn-preserved
loop-turn-preserved g c = record {
  still = c.in_default.ensures.lawful ∙ c.loop-turn.invariant.still;
  turns = turns_then (standing c.args.self.now).listeners None (line c.args.self.now) (line c.loop-turn.self)
      (line c.turn.new.self) c.loop-turn.invariant.turns
      (turns_at (standing c.args.self.now) (standing c.loop-turn.self) None (line c.loop-turn.self)
      (line c.turn.new.self)
      c.loop-turn.invariant.still c.in_default.ensures.turns);
}
