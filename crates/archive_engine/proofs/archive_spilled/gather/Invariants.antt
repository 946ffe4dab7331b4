use Rattle.std.proofs.Common.{◌≡◌, ◌+◌, ◌*◌, ◌≤◌, []}
use Rattle.std.specs.Prelude.{vec_len}
use Rattle.octet_devices.specs.Device.{AreSmall}
use Rattle.syslog_frame.specs.Scan.{IsReading}
use Rattle.syslog_frame.specs.declared.framing.Framing.{Framing}
use Rattle.archive_spill.specs.Sets.{Holds}
use Rattle.driver.specs.Effects.{done_of, nothing}
use Rattle.frame_engine.specs.Streams.{HasHandled}
use Rattle.archive_engine.specs.Archived.{archive_handling}
use Rattle.archive_engine.specs.Gathering.{GathersFrom}
use Rattle.archive_engine.specs.declared.archive_spilled.TheConstants.{SPILLED_READ_MAX}
use Rattle.archive_engine.specs.declared.gathering.Gathering.{Gathering}
use Rattle.archive_engine.proofs.SpilledLines.{Reading}
use Rattle.archive_engine.proofs.archive_spilled.gather.Given as goal

abbrev pub invariant-loop-turn : goal.invariant-loop-turn
invariant-loop-turn g l =
    let i = g.R.Input.state l.fn.input in
    let j = g.R.Input.state l.input in
    record {
      reached : (first : Gathering _ _) (kind : Framing)
          → HasHandled (archive_handling first.reading)
          (GathersFrom (Holds g.P.Spill.tells g.P.Run.Input.state) first l.fn.stream.gathering) l.fn.stream.scanner kind []
          l.fn.stream.number nothing
          → Reading first.reading (GathersFrom (Holds g.P.Spill.tells g.P.Run.Input.state) first l.stream.gathering)
          l.stream.scanner kind l.stream.number i j (g.N.Output.state l.fn.diagnostics)
          (g.N.Output.state l.diagnostics) (done_of l.effects);
      reading : IsReading l.stream.scanner;
      position : l.stream.scanner.position ≤ SPILLED_READ_MAX * l._turn;
      number : l.stream.number ≤ 1 + SPILLED_READ_MAX * l._turn;
      size : vec_len l.piece ≡ SPILLED_READ_MAX;
      calls : AreSmall i → j.calls ≡ i.calls + l._turn;
      sound : j.failures ≡ i.failures;
      ends : j.ends ≡ i.ends;
    }
