use Rattle.std.proofs.Common.{refl}
use Rattle.syslog_legacy.specs.FrameReadings.{octets_read}
use Rattle.syslog_legacy.specs.Views.{legacy_view_parts}
use Rattle.driver.specs.Effects.{Done, done_of}
use Rattle.frame_engine.proofs.ShowJsonLemmas.{legacy_shown, record_shown}
use Rattle.frame_engine.proofs.show_json.put_reading_line.Goals as goal

pub returns-in-Record-clause-ok : goal.returns-in-Record-clause-ok
returns-in-Record-clause-ok c = λ way f is.
    let old = done_of c.args.effects.now in
    let new : Done = record {
      refused = old.refused;
      output = c.put_json_line.new.out.items;
      diagnostics = old.diagnostics;
    } in
    let (few, shown) = is in let ((reads, none), shows) = rw c.in-Record.is at shown in
    record_shown way f old new c.put_json_line.result few reads (c.put_json_line.ensures.ok (octets_read way f) shows)
    refl refl

pub returns-in-Legacy-clause-ok : goal.returns-in-Legacy-clause-ok
returns-in-Legacy-clause-ok c = λ way f is.
    let old = done_of c.args.effects.now in
    let new : Done = record {
      refused = old.refused;
      output = c.put_legacy_line.new.out.items;
      diagnostics = old.diagnostics;
    } in
    let (few, shown) = is in let (legacy, reads) = rw c.in-Legacy.is at shown in
    legacy_shown way f old new c.put_legacy_line.result (legacy_view_parts c.in-Legacy.view) (few, reads)
    c.put_legacy_line.ensures.ok refl refl
