use Rattle.syslog_legacy.specs.Views.{legacy_view_parts}
use Rattle.frame_engine.proofs.ReadingLemmas.{legacy_record}
use Rattle.frame_engine.proofs.reading.read_octets.Goals as goal

pub returns-in-Ok-clause-some : goal.returns-in-Ok-clause-some
returns-in-Ok-clause-some c =
    let view = legacy_view_parts c.in-Ok.view in (
      view,
      legacy_record c.args.clock c.in-Some.clock view c.args.octets.now c.in-Some.ensures.0 c.in-Some.ensures.1
          c.in-Ok.ensures,
    )
