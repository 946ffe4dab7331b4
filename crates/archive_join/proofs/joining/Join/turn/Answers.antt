use Rattle.std.proofs.Common.{◌<◌}
use Rattle.std.proofs.lemmas.Result.{on_ok_weaker}
use Rattle.archive_streams.proofs.Turns.{at_err}
use Rattle.archive_join.specs.Heads.{total}
use Rattle.archive_join.proofs.Turns.{if_readers, joining_advanced, joining_halts, marked}
use Rattle.archive_join.proofs.joining.Join.turn.Goals as goal

pub returns-in_err-take-clause-halts : goal.returns-in_err-take-clause-halts
returns-in_err-take-clause-halts g c =
    let keeps = g.K.Kept.keeps c.args.kept.now in
    let text = g.K.Kept.text c.args.kept.now in
    let m = c.note.ensures in
    at_err c.from_residual.result c.in_err-take.field-0.0 _ c.from_residual.ensures.1 (λ ds start before.
    c.in_err-take.ensures.halts c.args.self.now.holders.items ds _ start c.requires.idle
    (marked keeps text c.args.self.now c.note.new.self ds _ start _ m.heads m.output.held m.output.count before))

pub returns-clause-nears : goal.returns-clause-nears
returns-clause-nears g c =
    on_ok_weaker c.advance_holders.result
    (λ (near : total c.advance_holders.new.self.heads.items < total c.take.new.self.heads.items).
    rw (c.in_ok-take.ensures.heads, c.note.ensures.heads) at near) c.advance_holders.ensures.nears

pub returns-clause-turns : goal.returns-clause-turns
returns-clause-turns g c =
    let keeps = g.K.Kept.keeps c.args.kept.now in
    let text = g.K.Kept.text c.args.kept.now in
    let m = c.note.ensures in
    on_ok_weaker c.advance_holders.result (λ advances. λ ds start before.
    joining_advanced keeps text c.take.new.self c.advance_holders.new.self ds _ _ start _ c.advance_holders.ensures.output.held
    c.advance_holders.ensures.output.count advances
    (c.in_ok-take.ensures.takes c.args.self.now.holders.items ds _ start c.requires.idle
    (marked keeps text c.args.self.now c.note.new.self ds _ start _ m.heads m.output.held m.output.count before)))
    c.advance_holders.ensures.advances.on

pub returns-clause-halts : goal.returns-clause-halts
returns-clause-halts g c =
    let keeps = g.K.Kept.keeps c.args.kept.now in
    let text = g.K.Kept.text c.args.kept.now in
    let m = c.note.ensures in
    if_readers _ c.advance_holders.result _ _ c.advance_holders.ensures.reads.not_writer (λ fault other halts. λ ds start before.
    joining_halts keeps text fault c.take.new.self c.advance_holders.new.self ds _ _ start _ c.advance_holders.ensures.output.held other halts
    (c.in_ok-take.ensures.takes c.args.self.now.holders.items ds _ start c.requires.idle
    (marked keeps text c.args.self.now c.note.new.self ds _ start _ m.heads m.output.held m.output.count before)))
    c.advance_holders.ensures.advances.halts
