use Rattle.std.proofs.Common.{refl, inl, inr}
use Rattle.std.proofs.lemmas.Result.{on_ok_weaker}
use Rattle.frame_engine.proofs.show_json.ShowJson.show.Goals as goal

pub returns-in-Ok-clause-ok : goal.returns-in-Ok-clause-ok
returns-in-Ok-clause-ok c =
    on_ok_weaker c.put_reading_line.result (λ (d, h, e). (d, inl h, e))
    (c.put_reading_line.ensures.ok c.args.self.now.reading c.args.frame.now c.in-Ok.ensures.reading)

pub returns-in-Err-clause-ok : goal.returns-in-Err-clause-ok
returns-in-Err-clause-ok c =
    on_ok_weaker c.add_refusal.result (λ e. (_, inr (c.in-Err.line, c.in-Err.ensures.refused, refl), e))
    c.add_refusal.ensures.ok
