use Rattle.std.proofs.Common.{refl, inl, inr}
use Rattle.std.proofs.lemmas.Result.{on_ok_weaker}
use Rattle.frame_engine.specs.Converted.{goes_out}
use Rattle.driver.specs.Effects.{done_of}
use Rattle.frame_engine.proofs.HandlingLemmas.{adds_output}
use Rattle.frame_engine.proofs.show.Show.show.Goals as goal

pub returns-in_ok-record-in-Ok-clause-ok : goal.returns-in_ok-record-in-Ok-clause-ok
returns-in_ok-record-in-Ok-clause-ok c =
    on_ok_weaker c.put_record_lines.result
    (λ h. let (text, lines, e) = h in
    let is = c.in_ok-record-in-Ok.ensures c.args.self.now.reading c.args.frame.now c.in-Ok.ensures.reading in (
      goes_out text,
      inl (c.in_ok-record-in-Ok.record, is, text, lines, refl),
      adds_output (done_of c.args.effects.now) _ text refl e refl,
    ))
    c.put_record_lines.ensures.ok

pub returns-in-Err-clause-ok : goal.returns-in-Err-clause-ok
returns-in-Err-clause-ok c =
    on_ok_weaker c.add_refusal.result (λ e. (_, inr (c.in-Err.line, c.in-Err.ensures.refused, refl), e))
    c.add_refusal.ensures.ok
