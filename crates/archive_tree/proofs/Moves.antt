-- What is carried and folded on after a join.
use Rattle.std.proofs.Common.{◌≡◌, ℕ, ◌+◌, ◌^◌, ◌<◌, ◌≤◌, ◌⊎◌, inl, inr, List, [], ◌∷◌, ◌++◌, length, reverse, refl}
use Rattle.std.proofs.Common.{sym, ap, subst, ◌∙◌, get_or, set, zero, suc, arith}
use Rattle.archive_tree.specs.Trees.{AllPass, AtOnePlace, IsAny, IsCarried, IsFolded, IsHeadOf, IsNotLarger, IsPathIn}
use Rattle.archive_tree.specs.Trees.{IsSmaller, Passes}
use Rattle.archive_tree.specs.declared.audit_path.AuditPath.{AuditPath}
use Rattle.archive_tree.specs.declared.head.TreeHead.{TreeHead}
use Rattle.archive_tree.proofs.Stacks.{Joins, Moves, carry_step, fold_step, reverse_last}

pub any_moves : (left right : TreeHead) (end : ℕ) → Moves IsAny IsAny left right end
any_moves left right end = record {
  above = λ h at ys zs size some fits ends room lefts rights on_left on_right. tt;
  before = λ at ys fits on. tt;
}

module _ (P Q : ℕ → List (List ℕ) → Type 0) where
  pub carries : (xs : List (List ℕ)) (last tree above : TreeHead) (old mid : List TreeHead) (end : ℕ)
      → old ≡ mid ++ last ∷ [] → end < 2 ^ 64 → end ≡ length xs → last.size ≤ tree.size → Joins last tree above
      → Moves P Q last tree end → IsCarried P (reverse old) tree xs → IsNotLarger tree.size (reverse old)
      → IsCarried Q (reverse mid) above xs × IsNotLarger above.size (reverse mid)
  carries xs last tree above old mid end e room ends least joins moves h most =
      let r : reverse old ≡ last ∷ reverse mid = reverse_last old mid last e in
      carry_step P Q end xs (reverse mid) last tree above room ends least joins moves
      (subst (λ (l : List TreeHead). IsCarried P l tree xs) r h)
      (subst (λ (l : List TreeHead). IsNotLarger tree.size l) r most)

  pub folds : (xs : List (List ℕ)) (last tree above : TreeHead) (old mid : List TreeHead) (end : ℕ)
      → old ≡ mid ++ last ∷ [] → end < 2 ^ 64 → end ≡ length xs → Joins last tree above → Moves P Q last tree end
      → IsFolded P (reverse old) tree xs → IsFolded Q (reverse mid) above xs
  folds xs last tree above old mid end e room ends joins moves h =
      let r : reverse old ≡ last ∷ reverse mid = reverse_last old mid last e in
      fold_step P Q end xs (reverse mid) last tree above room ends joins moves
      (subst (λ (l : List TreeHead). IsFolded P l tree xs) r h)

-- between two paths at one place of the first and the last list stands one of the list between them
pub between : (end : ℕ) (left right : TreeHead) (old mid new : List AuditPath) (p q : AuditPath)
    → AllPass end left right old mid → AtOnePlace old new p q
    → length new ≡ length mid → (r : AuditPath) × Passes end left right p r × AtOnePlace mid new r q
between end left right [] mid new p q all at same = absurd at
between end left right (a ∷ old) [] new p q all at same = absurd all
between end left right (a ∷ old) (m ∷ mid) [] p q all at same = absurd at
between end left right (a ∷ old) (m ∷ mid) (b ∷ new) p q all at same = elim at [
  | inl here ↦ (m, subst (λ (x : AuditPath). Passes end left right x m) here.0 all.0, inl (refl, here.1))
  | inr there ↦
      let found = between end left right old mid new p q all.1 there (grind arith) in
      (found.0, found.1, inr found.2)
]

-- what stands at one place of a list and of itself is the same
pub same_place : (ps : List AuditPath) (p q : AuditPath) → AtOnePlace ps ps p q → p ≡ q
same_place [] p q at = absurd at
same_place (a ∷ ps) p q at = elim at [ inl here ↦ sym here.0 ∙ here.1 | inr there ↦ same_place ps p q there ]

-- ---- the first of some paths have passed

abbrev pub PassTo : ℕ → ℕ → TreeHead → TreeHead → List AuditPath → List AuditPath → Type 0
PassTo zero end left right old new = new ≡ old
PassTo (suc k) end left right [] new = new ≡ []
PassTo (suc k) end left right (p ∷ old) [] = ⊥
PassTo (suc k) end left right (p ∷ old) (q ∷ new) = Passes end left right p q × PassTo k end left right old new

pub pass_more : (k end : ℕ) (left right : TreeHead) (old new : List AuditPath) (q d : AuditPath) → k < length old
    → PassTo k end left right old new → Passes end left right (get_or new k d) q
    → PassTo (suc k) end left right old (set new k q)
pass_more k end left right [] new q d within are passes = absurd (omega (arith, within))
pass_more zero end left right (p ∷ old) new q d within are passes =
    let first : Passes end left right p q =
    subst (λ (l : List AuditPath). Passes end left right (get_or l zero d) q) are passes in
    subst (λ (l : List AuditPath). PassTo (suc zero) end left right (p ∷ old) (set l zero q)) (sym are) (first, refl)
pass_more (suc k) end left right (p ∷ old) [] q d within are passes = absurd are
pass_more (suc k) end left right (p ∷ old) (r ∷ new) q d within are passes =
    (are.0, pass_more k end left right old new q d (omega (arith, within)) are.1 passes)

pub pass_to_end : (k end : ℕ) (left right : TreeHead) (old new : List AuditPath) → k ≡ length old
    → PassTo k end left right old new → AllPass end left right old new
pass_to_end zero end left right [] new at are = are
pass_to_end zero end left right (p ∷ old) new at are = absurd (omega (arith, at))
pass_to_end (suc k) end left right [] new at are = are
pass_to_end (suc k) end left right (p ∷ old) [] at are = absurd are
pass_to_end (suc k) end left right (p ∷ old) (q ∷ new) at are =
    (are.0, pass_to_end k end left right old new (omega (arith, at)) are.1)
