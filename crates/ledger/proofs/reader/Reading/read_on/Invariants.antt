use Rattle.std.proofs.Common.{◌≡◌, ◌+◌, ◌-◌, ◌^◌, min}
use Rattle.octet_devices.specs.Device.{AreSmall}
use Rattle.ledger.specs.Readings.{Gives}
use Rattle.ledger.proofs.reader.Reading.read_on.Given as goal

abbrev pub invariant-loop-turn : goal.invariant-loop-turn
invariant-loop-turn g l = record {
  gives : Gives (g.R.Input.state l.fn.input) (g.R.Input.state l.input) l.initial.self l.self;
  calls : AreSmall (g.R.Input.state l.fn.input)
      → (g.R.Input.state l.input).calls ≡ min ((g.R.Input.state l.fn.input).calls + l._turn) (2 ^ 64 - 1);
  no_failure : (g.R.Input.state l.input).failures ≡ (g.R.Input.state l.fn.input).failures;
}
