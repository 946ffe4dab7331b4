use Rattle.std.proofs.Common.{Some, subst}
use Rattle.std.specs.Prelude.{MatchResult}
use Rattle.std.proofs.Math.Logic.{∥∥₁_map}
use Rattle.octet_devices.specs.Device.{OutputState}
use Rattle.store_reading.specs.Sets.{WritesPart, WritesSet}
use Rattle.read_engine.proofs.Readings.{at_first}
use Rattle.read_engine.proofs.choosing.read_run.Goals as goal

pub returns-clause-runs : goal.returns-clause-runs
returns-clause-runs g c =
    let given = c.read-reading.new.writer.given.octets in
    ∥∥₁_map c.into_run.ensures.runs (λ runs. (
      given,
      record {
        archive = λ tells. subst (λ (s : OutputState). MatchResult c.read-reading.result
            (λ _. WritesSet (g.F.Folder.files c.args.folder.now) c.args.range s.taken (Some given))
            (λ _. WritesPart (g.F.Folder.files c.args.folder.now) c.args.range s.taken (Some given)))
            c.new-records.ensures (c.read-reading.ensures.outcome tells);
        whole = c.read-reading.ensures.whole;
        cause = c.read-reading.ensures.cause;
      },
      at_first _ g.K.Beginning.first c.args.session c.requires.first runs c.requires.begun,
    ))
