use Rattle.std.proofs.Common.{◌+◌, length, sym, subst, arith}
use Rattle.octet_patterns.specs.Globs.{StandsFirst}
use Rattle.octet_patterns.proofs.Places.{cut_place, cut_rest, found_first, found_none}
use Rattle.octet_patterns.proofs.glob.behind_first.Goals as goal

pub returns-then-text-run : goal.returns-then-text-run
returns-then-text-run c = λ h.
    found_none c.args.run.now c.args.text.now 0 h (omega (arith, c.if-text-run.true)) (λ k less. absurd (omega arith))

pub returns-then-is_like_run : goal.returns-then-is_like_run
returns-then-is_like_run c = λ h.
    let run = c.args.run.now in
    let text = c.args.text.now in
    let n = c.places.start in
    subst (StandsFirst run text) (sym (cut_rest text (n + length run)))
    (found_first run text n h (omega (arith, c.if-text-run.false))
    (cut_place run text n ((c.is_like_run.ensures h).0 c.if-is_like_run.true)) (c.places.invariant h))

pub returns : goal.returns
returns c = λ h.
    found_none c.args.run.now c.args.text.now c.places.start h (omega (arith, c.if-text-run.false)) (c.places.invariant h)
