use Rattle.std.proofs.Common.{◌∷◌, arith, subst, sym}
use Rattle.octet_patterns.specs.Globs.{IsLike}
use Rattle.octet_patterns.proofs.Stars.{like_whole, whole_like}
use Rattle.octet_patterns.proofs.glob.is_like.Goals as goal

pub returns-in-None : goal.returns-in-None
returns-in-None c = (
  λ on. absurd cc,
  λ like.
      let front = like_whole c.args.pattern.now c.in-Some.head.now c.in-Some.rest.now c.args.text.now c.in-Some.ensures
      like in
      absurd (omega (arith, front.fits, c.in-None.ensures.cases)),
)

pub returns-then-is_like_run : goal.returns-then-is_like_run
returns-then-is_like_run c =
    let split = c.in-Some-split_at_checked.ensures.cases in (
      λ on. whole_like c.args.pattern.now c.in-Some.head.now c.in-Some.rest.now c.args.text.now _ _ c.in-Some.ensures
          split ((c.is_like_run-in-Some-split_at_checked.ensures c.in-Some.ensures.0).0 c.if-is_like_run.true)
          (c.ends_like.ensures.0 on),
      λ like.
          let front = like_whole c.args.pattern.now c.in-Some.head.now c.in-Some.rest.now c.args.text.now
          c.in-Some.ensures like in
          c.ends_like.ensures.1 (subst (IsLike (42 ∷ c.in-Some.rest.now)) (sym split.2) front.rest),
    )

pub returns-else-is_like_run : goal.returns-else-is_like_run
returns-else-is_like_run c =
    let split = c.in-Some-split_at_checked.ensures.cases in (
      λ on. absurd cc,
      λ like.
          let front = like_whole c.args.pattern.now c.in-Some.head.now c.in-Some.rest.now c.args.text.now
          c.in-Some.ensures like in
          (c.is_like_run-in-Some-split_at_checked.ensures c.in-Some.ensures.0).1
          (subst (IsLike c.in-Some.head.now) (sym split.1) front.like),
    )
