use Rattle.std.proofs.Common.{◌∷◌, IsTrue, length, ap, arith, refl}
use Rattle.std.proofs.lemmas.List.{length-append}
use Rattle.octet_patterns.proofs.Stars.{star_last, star_short, star_step, star_stop}
use Rattle.octet_patterns.proofs.glob.ends_like.Goals as goal

pub returns-in_default-behind_first : goal.returns-in_default-behind_first
returns-in_default-behind_first c = (
  λ on. absurd cc,
  λ like. absurd (star_stop c.runs.pattern.now c.in-Some.head.now c.in-Some.rest.now c.runs.text.now c.in-Some.ensures
      c.in_default-behind_first.ensures (c.runs.invariant.1 like)),
)

pub runs-preserved : goal.runs-preserved
runs-preserved c =
    let step = star_step c.runs.pattern.now c.in-Some.head.now c.in-Some.rest.now c.runs.text.now
    c.in-Some-behind_first.behind.now c.in-Some.ensures c.in-Some-behind_first.ensures in
    (λ l. c.runs.invariant.0 (step.1 l), λ l. step.0 (c.runs.invariant.1 l))

pub runs-smaller : goal.runs-smaller
runs-smaller c =
    omega (
      arith,
      ap length c.in-Some.ensures.1,
      length-append c.in-Some.head.now (42 ∷ c.in-Some.rest.now),
    )

pub returns-then-text-pattern : goal.returns-then-text-pattern
returns-then-text-pattern c = (
  λ on. absurd cc,
  λ like.
      let fits = star_short c.runs.pattern.now c.runs.text.now c.in_default.ensures (c.runs.invariant.1 like) in
      absurd (omega (arith, fits, c.if-text-pattern.true)),
)

pub returns : goal.returns
returns c =
    let last = star_last c.runs.pattern.now c.runs.text.now _ (IsTrue c.is_like_run.result) c.in_default.ensures
    (omega (arith, c.if-text-pattern.false)) refl (c.is_like_run.ensures c.in_default.ensures) in
    (λ on. c.runs.invariant.0 (last.0 on), λ like. last.1 (c.runs.invariant.1 like))
