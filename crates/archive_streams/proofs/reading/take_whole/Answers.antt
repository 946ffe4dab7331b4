use Rattle.std.proofs.Common.{◌+◌, ◌-◌, ◌≤◌, ◌++◌, ℕ, List, length, take, drop, refl, ap, subst, ◌∙◌, arith}
use Rattle.std.proofs.lemmas.List.{length-take}
use Rattle.syslog_frame.specs.MsgLen.{IsMsgLen}
use Rattle.syslog_frame.specs.declared.count.MsgLen.TheVariants.{Whole}
use Rattle.archive_streams.specs.Pieces.{unused}
use Rattle.archive_streams.proofs.Counting.{counted_in}
use Rattle.archive_streams.proofs.reading.take_whole.Goals as goal

pub returns-clause-some : goal.returns-clause-some
returns-clause-some c =
    let p = c.args.pieces.now in
    let found = Whole c.in-Whole.count c.in-Whole.used in
    let size = c.in-Whole.used + c.in-Whole.count in
    let h : IsMsgLen (unused p) found =
    subst (λ (s : List ℕ). IsMsgLen s found) c.rest-rest.ensures c.in-Whole.ensures in
    let within : size ≤ length (unused p) = omega (arith, c.if-size-rest.false, ap length c.rest-rest.ensures) in
    counted_in c.in-Whole.count c.in-Whole.used size (unused p) c.move_behind.new.text.items h refl within
    (omega (arith, within, length-take (p.end - p.start) (drop p.start p.piece.items), p.within, p.most))
    (c.move_behind.ensures.text ∙ ap (λ (s : List ℕ). s ++ take size (unused p)) c.requires.empty)
