use Rattle.std.proofs.Common.{inl, inr, refl}
use Rattle.std.proofs.lemmas.Result.{on_ok_weaker}
use Rattle.syslog_legacy.specs.Views.{legacy_view_parts}
use Rattle.frame_engine.specs.TallyLaws.{other_tallied}
use Rattle.frame_engine.proofs.TallyLemmas.{new_is_no_packet, packet_tallied, reading_packet, refused_is_no_packet}
use Rattle.frame_engine.proofs.check_summary.CheckSummaryFrameHandler.on_frame.Goals as goal

pub returns-in-Ok-Record-clause-ok : goal.returns-in-Ok-Record-clause-ok
returns-in-Ok-Record-clause-ok c =
    on_ok_weaker c.accept.result
    (λ e first frames stands.
    let f = c.args.frame.now in
    let new = rw c.in-Ok-Record.field-0-is at c.in-Ok-Record.ensures.reading in
    let none = new_is_no_packet c.args.self.now.reading f c.in-Ok-Record._view new in (
      (_, inl (rw stands.0 at c.in-Ok-Record.ensures.some, refl), e),
      (stands.0, other_tallied first.reading frames f first.tally c.args.self.now.tally (rw stands.0 at none) stands.1),
    ))
    c.accept.ensures.ok

pub returns-in-Ok-Legacy-clause-ok : goal.returns-in-Ok-Legacy-clause-ok
returns-in-Ok-Legacy-clause-ok c =
    on_ok_weaker c.accept-in-Ok-Legacy.result
    (λ e first frames stands.
    let f = c.args.frame.now in
    let read = rw c.in-Ok-Legacy.field-0-is at c.in-Ok-Legacy.ensures.reading in
    let packet = reading_packet c.args.self.now.reading f c.in-Ok-Legacy.view read in (
      (_, inl (rw stands.0 at c.in-Ok-Legacy.ensures.some, refl), e),
      (
        stands.0,
        packet_tallied first.reading frames f first.tally c.args.self.now.tally _ (legacy_view_parts c.in-Ok-Legacy.view)
            (rw stands.0 at packet) c.add.ensures.packets c.add.ensures.no_time c.add.ensures.no_host stands.1,
      ),
    ))
    c.accept-in-Ok-Legacy.ensures.ok

pub returns-in-Err-clause-ok : goal.returns-in-Err-clause-ok
returns-in-Err-clause-ok c =
    on_ok_weaker c.refuse.result
    (λ e first frames stands.
    let f = c.args.frame.now in
    let none = refused_is_no_packet c.args.self.now.reading c.args.number f c.in-Err.line c.in-Err.ensures.refused in (
      (_, inr (c.in-Err.line, rw stands.0 at c.in-Err.ensures.refused, refl), e),
      (stands.0, other_tallied first.reading frames f first.tally c.args.self.now.tally (rw stands.0 at none) stands.1),
    ))
    c.refuse.ensures.ok
