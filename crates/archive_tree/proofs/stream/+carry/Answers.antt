use Rattle.std.proofs.Common.{◌≡◌, ◌<◌, ◌≤◌, ◌^◌, ℕ, length, List, reverse, refl, sym, ap, subst, ◌∙◌, arith}
use Rattle.archive_tree.specs.Trees.{IsAny, IsCarried, IsPathIn, IsSmaller}
use Rattle.archive_tree.specs.declared.audit_path.AuditPath.{AuditPath}
use Rattle.archive_tree.specs.declared.head.TreeHead.{TreeHead}
use Rattle.archive_tree.proofs.Moves.{any_moves, between, carries, same_place}
use Rattle.archive_tree.proofs.Paths.{path_moves}
use Rattle.archive_tree.proofs.stream.+carry.Goals as goal

pub returns-in_default-clause-followed : goal.returns-in_default-clause-followed
returns-in_default-clause-followed t c =
    λ p q xs at room ends h most.
    let same : p ≡ q = same_place c.args.paths.now p q at in
    let heads = c.in_default.ensures.0 in (
      ap (λ (a : AuditPath). a.index) (sym same),
      λ _. ap (λ (a : AuditPath). a.hashes.items) (sym same),
      subst (λ (l : List TreeHead). IsCarried (IsPathIn q) (reverse l) c.args.tree xs) (sym heads)
          (subst (λ (a : AuditPath). IsCarried (IsPathIn a) (reverse c.args.heads.now.items) c.args.tree xs) same h),
      subst (λ (l : List TreeHead). IsSmaller c.args.tree.size (reverse l)) (sym heads) c.in_default.ensures.1,
    )

pub returns-clause-taken : goal.returns-clause-taken
returns-clause-taken t c =
    λ xs room ends h most.
    let step = carries IsAny IsAny xs c.in-Some.last c.args.tree c.above-above.result c.args.heads.now.items
    c.pop_not_larger.new.heads.items c.args.end c.in-Some.ensures.0 (omega arith) ends c.in-Some.ensures.1
    c.above-above.ensures (any_moves c.in-Some.last c.args.tree c.args.end) h most in
    c.carry.ensures.taken xs room ends step.0 step.1

pub returns-clause-followed : goal.returns-clause-followed
returns-clause-followed t c =
    λ p q xs at room ends h most.
    let found = between c.args.end c.in-Some.last c.args.tree c.args.paths.now c.pass_all.new.paths c.carry.new.paths
    p q
    c.pass_all.ensures at c.carry.auto.paths in
    let r : AuditPath = found.0 in
    let step = carries (IsPathIn p) (IsPathIn r) xs c.in-Some.last c.args.tree c.above-above.result
    c.args.heads.now.items c.pop_not_larger.new.heads.items c.args.end c.in-Some.ensures.0 (omega arith) ends
    c.in-Some.ensures.1 c.above-above.ensures
    (path_moves p r c.in-Some.last c.args.tree c.args.end found.1) h most in
    let rest = c.carry.ensures.followed r q xs found.2 room ends step.0 step.1 in
    let own : r.index ≡ p.index = found.1.index in (
      rest.0 ∙ own,
      λ behind. rest.1 (omega arith) ∙ found.1.behind (omega arith),
      rest.2,
      rest.3,
    )
