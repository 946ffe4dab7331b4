use Rattle.std.proofs.Common.{◌≡◌, ◌+◌, length}
use Rattle.octet_devices.specs.Device.{AreSmall}
use Rattle.driver.specs.Devices.{devices}
use Rattle.driver.specs.Effects.{done_of}
use Rattle.driver.specs.Holding.{IsCalledWrittenOut, Reached}
use Rattle.driver.specs.Run.{limits_of}
use Rattle.driver.specs.Sessions.{HasBegun}
use Rattle.driver.proofs.Turns.{Stage}
use Rattle.driver.proofs.run.read_through.Given as goal

abbrev pub invariant-loop-turn : goal.invariant-loop-turn
invariant-loop-turn g l =
    let S = g.S.Session.stands l.fn.session in
    let M = g.S.Session.means l.fn.session in
    record {
      reached : HasBegun (S l.fn.session) M → Reached (Stage (limits_of l.fn.piece l.fn.calls) (S l.session) M l._turn)
          (devices (g.R.Input.state l.fn.input) (g.W.Output.state l.fn.output) (g.N.Output.state l.fn.diagnostics))
          (devices (g.R.Input.state l.input) (g.W.Output.state l.output) (g.N.Output.state l.diagnostics))
          (done_of l.effects);
      calls : AreSmall (g.R.Input.state l.fn.input)
          → (g.R.Input.state l.input).calls ≡ (g.R.Input.state l.fn.input).calls + l._turn;
      sound : (g.R.Input.state l.input).failures ≡ (g.R.Input.state l.fn.input).failures;
      ends : (g.R.Input.state l.input).ends ≡ (g.R.Input.state l.fn.input).ends;
      room : length l.piece ≡ length l.fn.piece;
      due : AreSmall (g.R.Input.state l.fn.input)
          → IsCalledWrittenOut (length l.fn.piece) g.R.Input.state l.fn.input l.input (done_of l.effects);
    }
