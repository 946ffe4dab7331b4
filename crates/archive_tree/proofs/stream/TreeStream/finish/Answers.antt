use Rattle.std.proofs.Common.{rules, ◌≡◌, ◌<◌, ◌^◌, ◌-◌, [], List, ℕ, length, reverse, sym, ap, subst, ◌∙◌, arith}
use Rattle.archive_tree.specs.Tree.{audit_path, tree_hash}
use Rattle.archive_tree.specs.Trees.{IsAny, IsPathIn, IsStack}
use Rattle.archive_tree.specs.declared.head.TreeHead.{TreeHead}
use Rattle.archive_tree.proofs.TreeLaws.{hash_none}
use Rattle.archive_tree.proofs.Stacks.{fold_first, reverse_last}
use Rattle.archive_tree.proofs.stream.TreeStream.finish.Goals as goal

pub returns-in-None-clause-taken : goal.returns-in-None-clause-taken
returns-in-None-clause-taken c =
    λ xs room h.
    let empty : c.args.self.heads.items ≡ [] = search rules in
    let none : xs ≡ [] = subst (λ (l : List TreeHead). IsStack IsAny (reverse l) xs) empty h.stack in
    record {
      size = sym (ap (λ (l : List (List ℕ)). length l) none);
      hash = c.hash_nothing.ensures ∙ sym hash_none ∙ ap (λ (l : List (List ℕ)). tree_hash l) (sym none);
    }

pub returns-in-Some-clause-taken : goal.returns-in-Some-clause-taken
returns-in-Some-clause-taken c =
    λ xs room h.
    c.fold.ensures.taken xs room h.count
    (fold_first IsAny xs (reverse c.pop.new.self.items) c.in-Some.last
    (subst (λ (l : List TreeHead). IsStack IsAny l xs)
    (reverse_last c.args.self.heads.items c.pop.new.self.items c.in-Some.last c.in-Some.ensures.items) h.stack))

pub returns-in-Some-clause-followed : goal.returns-in-Some-clause-followed
returns-in-Some-clause-followed c =
    λ index p q xs at room h within.
    let rest = c.fold.ensures.followed p q xs at room h.count
    (fold_first (IsPathIn p) xs (reverse c.pop.new.self.items) c.in-Some.last
    (subst (λ (l : List TreeHead). IsStack (IsPathIn p) l xs)
    (reverse_last c.args.self.heads.items c.pop.new.self.items c.in-Some.last c.in-Some.ensures.items) h.stack)) in
    let own : q.index ≡ index = rest.0 ∙ h.own in
    let path : q.hashes.items ≡ audit_path xs (q.index - 0) = rest.1 (omega arith) (omega arith) in
    let place : q.index - 0 ≡ index = omega arith in
    (own, path ∙ ap (λ (n : ℕ). audit_path xs n) place)
