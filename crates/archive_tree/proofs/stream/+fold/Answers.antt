use Rattle.std.proofs.Common.{rules, [], ◌≡◌, ◌<◌, ◌≤◌, ◌^◌, ℕ, length, List, reverse, refl, sym, ap, subst, ◌∙◌, arith}
use Rattle.archive_tree.specs.Trees.{IsAny, IsFolded, IsPathIn}
use Rattle.archive_tree.specs.declared.audit_path.AuditPath.{AuditPath}
use Rattle.archive_tree.specs.declared.head.TreeHead.{TreeHead}
use Rattle.archive_tree.proofs.Stacks.{folded_all}
use Rattle.archive_tree.proofs.Moves.{any_moves, between, folds, same_place}
use Rattle.archive_tree.proofs.Paths.{path_moves}
use Rattle.archive_tree.proofs.stream.+fold.Goals as goal

pub returns-in_default-clause-followed : goal.returns-in_default-clause-followed
returns-in_default-clause-followed t c =
    λ p q xs at room ends h.
    let same : p ≡ q = same_place c.args.paths.now p q at in
    let empty : c.args.heads.now.items ≡ [] = search rules in
    let all = folded_all (IsPathIn p) xs c.args.tree
    (subst (λ (l : List TreeHead). IsFolded (IsPathIn p) (reverse l) c.args.tree xs) empty h) in
    (ap (λ (a : AuditPath). a.index) (sym same), subst (λ (a : AuditPath). IsPathIn a 0 xs) same all.1)

pub returns-clause-taken : goal.returns-clause-taken
returns-clause-taken t c =
    λ xs room ends h.
    c.fold.ensures.taken xs room ends (folds IsAny IsAny xs c.in-Some.last c.args.tree c.above-above.result
    c.args.heads.now.items c.pop.new.self.items c.args.end c.in-Some.ensures.items (omega arith) ends
    c.above-above.ensures (any_moves c.in-Some.last c.args.tree c.args.end) h)

pub returns-clause-followed : goal.returns-clause-followed
returns-clause-followed t c =
    λ p q xs at room ends h.
    let found = between c.args.end c.in-Some.last c.args.tree c.args.paths.now c.pass_all.new.paths c.fold.new.paths p q
    c.pass_all.ensures at c.fold.auto.paths in
    let r : AuditPath = found.0 in
    let rest = c.fold.ensures.followed r q xs found.2 room ends (folds (IsPathIn p) (IsPathIn r) xs c.in-Some.last
    c.args.tree c.above-above.result c.args.heads.now.items c.pop.new.self.items c.args.end c.in-Some.ensures.items
    (omega arith) ends c.above-above.ensures (path_moves p r c.in-Some.last c.args.tree c.args.end found.1) h) in
    (rest.0 ∙ found.1.index, rest.1)
