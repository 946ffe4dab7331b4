use Rattle.std.proofs.Common.{◌≡◌, [], ap, refl, subst, ◌∙◌}
use Rattle.std.proofs.lemmas.Result.{on_ok_weaker}
use Rattle.driver.specs.Effects.{Adds, Done, done_of, then_done}
use Rattle.colored_show.specs.Coloring.{IsColored}
use Rattle.colored_show.proofs.colored_show.show_colored.Goals as goal

pub returns-clause-ok : goal.returns-clause-ok
returns-clause-ok c =
    let ((plain, shows, e), same) = c.in_ok-on_frame.ensures.ok c.args.show [] refl in
    let is : done_of c.on_frame.new.effects ≡ plain = e ∙ ap (λ (d : Done). then_done d plain) c.new-shown.ensures in
    on_ok_weaker c.add_colored.result
    (λ adds. (
      plain,
      shows,
      subst (λ (d : Done). Adds (IsColored c.args.severity d) (done_of c.args.effects.now) (done_of c.add_colored.new.effects)) is
          adds,
    ))
    c.add_colored.ensures.ok
