use Rattle.syslog_legacy.specs.Views.{legacy_view_parts}
use Rattle.frame_engine.proofs.ReadingLemmas.{legacy_record}
use Rattle.frame_engine.proofs.reading.octets_refusal.Goals as goal

pub returns-in-Ok : goal.returns-in-Ok
returns-in-Ok c =
    let view = legacy_view_parts c.in-Ok._view in (
      view,
      legacy_record c.args.clock c.in-Some.clock view c.args.octets.now c.in-Some.ensures.0 c.in-Some.ensures.1
          c.in-Ok.ensures,
    )
