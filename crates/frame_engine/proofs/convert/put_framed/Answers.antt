use Rattle.std.proofs.Common.{refl}
use Rattle.std.proofs.lemmas.Result.{on_ok_weaker}
use Rattle.frame_engine.specs.Converted.{Framed}
use Rattle.driver.specs.Effects.{done_of}
use Rattle.frame_engine.proofs.ConvertLemmas.{adds_after, out_framed, out_line, out_long}
use Rattle.frame_engine.proofs.convert.put_framed.Goals as goal

pub returns-in-Ok-clause-ok : goal.returns-in-Ok-clause-ok
returns-in-Ok-clause-ok c =
    out_framed c.args.framing c.args.number c.args.effects.now.scratch.items c.as_slice.result.now
    (done_of c.args.effects.now) _ c.as_slice.ensures.value c.in-Ok.ensures.ok.0 c.in-Ok.ensures.ok.1
    c.in-Ok.ensures.ok.2 refl refl

pub returns-in-Err-HasLf-clause-ok : goal.returns-in-Err-HasLf-clause-ok
returns-in-Err-HasLf-clause-ok c =
    on_ok_weaker c.add_refusal.result
    (λ e. adds_after (Framed c.args.framing c.args.number c.args.effects.now.scratch.items) (done_of c.args.effects.now) _
    (done_of c.add_refusal.new.effects) refl c.in-Err-HasLf.ensures.same refl
    (out_line c.args.framing c.args.number c.args.effects.now.scratch.items c.as_slice.result.now c.in-Err-HasLf.field-0 _
    (done_of c.add_refusal.new.effects) c.as_slice.ensures.value c.in-Err-HasLf.field-0-is c.in-Err-HasLf.ensures.err e))
    c.add_refusal.ensures.ok

pub returns-in-Err-TooLong-clause-ok : goal.returns-in-Err-TooLong-clause-ok
returns-in-Err-TooLong-clause-ok c =
    on_ok_weaker c.add_refusal-in-Err-TooLong.result
    (λ e. adds_after (Framed c.args.framing c.args.number c.args.effects.now.scratch.items) (done_of c.args.effects.now) _
    (done_of c.add_refusal-in-Err-TooLong.new.effects) refl c.in-Err-TooLong.ensures.same refl
    (out_long c.args.framing c.args.number c.args.effects.now.scratch.items c.as_slice.result.now c.in-Err-TooLong.field-0
    _ (done_of c.add_refusal-in-Err-TooLong.new.effects) c.as_slice.ensures.value c.in-Err-TooLong.field-0-is
    c.in-Err-TooLong.ensures.err e))
    c.add_refusal-in-Err-TooLong.ensures.ok
