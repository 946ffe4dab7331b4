use Rattle.std.proofs.Common.{◌≡◌, refl}
use Rattle.std.specs.Prelude.{◌||◌}
use Rattle.driver.specs.Effects.{done_of}
use Rattle.colored_show.proofs.Added.{added}
use Rattle.colored_show.proofs.coloring.append_colored.Goals as goal
use Rattle.colored_show.proofs.coloring.append_colored.Goals.{else-effects, then-effects}

pub returns-clause-ok : goal.returns-clause-ok
returns-clause-ok c =
    let (painted, is, e) = c.in_ok-put_painted.ensures.ok in
    let refused : c.if-effects.effects ≡ (c.args.effects.now.refused || c.args.shown.now.refused) =
    elim c.if-effects.branch [
      | then-effects w ↦ rw (w.effects-is, w.if-effects.true) refl
      | else-effects w ↦ rw (w.effects-is, w.if-effects.false) refl
    ] in
    added c.args.severity (done_of c.args.shown.now) (done_of c.args.effects.now)
    (done_of (record c.args.effects.now {
      output = c.put_painted.new.out;
      diagnostics = c.extend_from_slice.new.self;
      refused = c.if-effects.effects;
    }))
    painted (rw c.as_slice.ensures.value at is) refused e
    (rw c.as_slice-2.ensures.value at c.in_ok-extend_from_slice.ensures.items)
