use Rattle.std.proofs.Common.{inr, refl, subst}
use Rattle.std.proofs.lemmas.Result.{on_ok_weaker}
use Rattle.driver.specs.Effects.{Adds, done_of}
use Rattle.frame_engine.specs.Converted.{noted_line}
use Rattle.colored_show.specs.Handling.{colored_handling}
use Rattle.colored_show.specs.declared.colored_show.ColoredShow.{ColoredShow}
use Rattle.colored_show.proofs.Colored.{handled}
use Rattle.colored_show.proofs.colored_show.ColoredShowFrameHandler.on_frame.Goals as goal

pub returns-in-Ok-clause-ok : goal.returns-in-Ok-clause-ok
returns-in-Ok-clause-ok c =
    let way = c.args.self.now.show.reading in
    let f = c.args.frame.now in
    let (r, is) = c.in-Ok.ensures.some in
    let severity = c.severity_of.result in
    let has = c.severity_of.ensures way f r c.in-Ok.ensures.reading is in
    on_ok_weaker c.show_colored.result
    (λ shown first frames same. let (plain, shows, adds) = shown in (
      subst (λ (d : ColoredShow). Adds (colored_handling d.show.reading c.args.number f) (done_of c.args.effects.now)
          (done_of c.show_colored.new.effects)) same
          (handled way c.args.number f severity plain (done_of c.args.effects.now) (done_of c.show_colored.new.effects)
          (r, is, has) shows adds),
      same,
    ))
    c.show_colored.ensures.ok

pub returns-in-Err-clause-ok : goal.returns-in-Err-clause-ok
returns-in-Err-clause-ok c =
    let line = c.in-Err.line in
    on_ok_weaker c.add_refusal.result
    (λ e first frames same. (
      subst (λ (d : ColoredShow). Adds (colored_handling d.show.reading c.args.number c.args.frame.now)
          (done_of c.args.effects.now) (done_of c.add_refusal.new.effects)) same
          (noted_line line, (noted_line line, inr (line, c.in-Err.ensures.refused, refl), inr (refl, refl)), e),
      same,
    ))
    c.add_refusal.ensures.ok
