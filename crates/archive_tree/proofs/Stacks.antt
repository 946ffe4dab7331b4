-- Stacks of perfect trees.
use Rattle.std.proofs.Common.{◌≡◌, ℕ, zero, suc, ◌+◌, ◌^◌, ◌<◌, ◌≤◌, ◌⊎◌, inl, inr, List, [], ◌∷◌, ◌++◌, length}
use Rattle.std.proofs.Common.{reverse, refl, sym, ap, subst, ◌∙◌, arith, length-append, append_assoc}
use Rattle.std.proofs.lemmas.List.{reverse-append}
use Rattle.std.proofs.Math.Pow.{pow_mono}
use Rattle.std.proofs.lemmas.Nat.{pow_pos}
use Rattle.archive_tree.specs.Trees.{IsCarried, IsFolded, IsHeadOf, IsNotLarger, IsSmaller, IsStack}
use Rattle.archive_tree.specs.declared.head.TreeHead.{TreeHead}
use Rattle.archive_tree.proofs.TreeLaws.{double, le_total}

-- what `above` ensures
abbrev pub Joins : TreeHead → TreeHead → TreeHead → Type 0
Joins left right above =
    (h : ℕ) (ys zs : List (List ℕ)) → length ys ≡ 2 ^ h → 0 < length zs → length zs ≤ 2 ^ h
    → length (ys ++ zs) < 2 ^ 64 → IsHeadOf left ys → IsHeadOf right zs → IsHeadOf above (ys ++ zs)

-- what is said of two trees that come one behind the other is said so of the tree above them, and of those before
pub record Moves (P Q : ℕ → List (List ℕ) → Type 0) (left right : TreeHead) (end : ℕ) : Type 0 where
  pub above : (h at : ℕ) (ys zs : List (List ℕ)) → length ys ≡ 2 ^ h → 0 < length zs → length zs ≤ 2 ^ h
      → at + length ys + length zs ≡ end → end < 2 ^ 64 → IsHeadOf left ys → IsHeadOf right zs → P at ys
      → P (at + length ys) zs → Q at (ys ++ zs)
  pub before : (at : ℕ) (ys : List (List ℕ)) → at + length ys + left.size + right.size ≤ end → P at ys → Q at ys

-- the last of a list comes first in its reverse
pub reverse_last : {A : Type 0} (old new : List A) (x : A) → old ≡ new ++ x ∷ [] → reverse old ≡ x ∷ reverse new
reverse_last {A} old new x e = ap (λ (l : List A). reverse l) e ∙ reverse-append new (x ∷ [])

same_or_less : (j k : ℕ) → j ≤ k → (j ≡ k) ⊎ (suc j ≤ k)
same_or_less j k more = grind arith

later : (j k : ℕ) → 2 ^ j < 2 ^ k → j ≤ k → 2 ^ suc j ≤ 2 ^ k
later j k below more = elim (same_or_less j k more) [
  | inl same ↦ let e : 2 ^ j ≡ 2 ^ k = ap (λ (n : ℕ). 2 ^ n) same in absurd (omega arith)
  | inr less ↦ pow_mono less
]

-- the next power of two
next_power : (j k : ℕ) → 2 ^ j < 2 ^ k → 2 ^ suc j ≤ 2 ^ k
next_power j k below = elim (le_total k j) [
  | inl less ↦ let wide : 2 ^ k ≤ 2 ^ j = pow_mono less in absurd (omega arith)
  | inr more ↦ later j k below more
]

module _ (P : ℕ → List (List ℕ) → Type 0) where
  -- above two of a size there is room below the next
  pub not_larger : (j size : ℕ) (ss : List TreeHead) (xs : List (List ℕ)) → IsStack P ss xs → IsSmaller (2 ^ j) ss
      → size ≤ 2 ^ suc j → IsNotLarger size ss
  not_larger j size [] xs stack smaller fits = tt
  not_larger j size (t ∷ ts) xs stack smaller fits =
      let level : ℕ = stack.1.1.4.0 in
      let is : t.size ≡ 2 ^ level = stack.1.1.4.1 in
      let below : 2 ^ j < 2 ^ level = subst (λ (n : ℕ). 2 ^ j < n) is smaller in
      let wide : 2 ^ suc j ≤ 2 ^ level = next_power j level below in
      omega arith

  less_than_next : (j size : ℕ) (ss : List TreeHead) (xs : List (List ℕ)) → IsStack P ss xs → IsSmaller (2 ^ j) ss
      → size < 2 ^ suc j → IsSmaller size ss
  less_than_next j size [] xs stack smaller fits = tt
  less_than_next j size (t ∷ ts) xs stack smaller fits =
      let level : ℕ = stack.1.1.4.0 in
      let is : t.size ≡ 2 ^ level = stack.1.1.4.1 in
      let below : 2 ^ j < 2 ^ level = subst (λ (n : ℕ). 2 ^ j < n) is smaller in
      let wide : 2 ^ suc j ≤ 2 ^ level = next_power j level below in
      omega arith

  -- a tree of one entry has no more than any
  pub one_not_larger : (ss : List TreeHead) (xs : List (List ℕ)) → IsStack P ss xs → IsNotLarger 1 ss
  one_not_larger [] xs stack = tt
  one_not_larger (t ∷ ts) xs stack =
      let level : ℕ = stack.1.1.4.0 in
      let is : t.size ≡ 2 ^ level = stack.1.1.4.1 in
      let some : 0 < 2 ^ level = pow_pos level in
      omega arith

  -- the last tree of a stack comes behind the others
  pub fold_first : (xs : List (List ℕ)) (ss : List TreeHead) (last : TreeHead) → IsStack P (last ∷ ss) xs
      → IsFolded P ss last xs
  fold_first xs ss last h =
      let head : IsHeadOf last h.1.0 = h.1.1.2 in
      let level : ℕ = h.1.1.4.0 in
      let power : last.size ≡ 2 ^ level = h.1.1.4.1 in
      let size : last.size ≡ length h.1.0 = head.size in
      let some : 0 < 2 ^ level = pow_pos level in
      record {
        before = h.0;
        inside = h.1.0;
        all = h.1.1.0;
        stack = h.1.1.1;
        head = head;
        also = h.1.1.3;
        some = omega arith;
        smaller = h.1.1.5;
      }

  -- a tree that is smaller than the last of a stack goes onto it
  pub put_last : (xs : List (List ℕ)) (ss : List TreeHead) (tree : TreeHead) → IsCarried P ss tree xs
      → IsSmaller tree.size ss → IsStack P (tree ∷ ss) xs
  put_last xs ss tree h smaller = (h.before, (h.inside, (h.all, h.stack, h.head, h.also, h.perfect, smaller)))

  -- a whole tree with none before it is that of all entries
  pub folded_all : (xs : List (List ℕ)) (tree : TreeHead) → IsFolded P [] tree xs → IsHeadOf tree xs × P 0 xs
  folded_all xs tree h =
      let same : h.inside ≡ xs = sym (h.all ∙ ap (λ (l : List (List ℕ)). l ++ h.inside) h.stack) in
      let none : length h.before ≡ 0 = ap (λ (l : List (List ℕ)). length l) h.stack in (
        subst (λ (l : List (List ℕ)). IsHeadOf tree l) same h.head,
        subst (λ (l : List (List ℕ)). P 0 l) same (subst (λ (n : ℕ). P n h.inside) none h.also),
      )

module _ (P Q : ℕ → List (List ℕ) → Type 0) where
  kept_before : (end : ℕ) (left right : TreeHead) (ss : List TreeHead) (xs : List (List ℕ)) → Moves P Q left right end
      → length xs + left.size + right.size ≤ end → IsStack P ss xs → IsStack Q ss xs
  kept_before end left right [] xs moves fits stack = stack
  kept_before end left right (s ∷ ss) xs moves fits stack =
      let ys : List (List ℕ) = stack.0 in
      let zs : List (List ℕ) = stack.1.0 in
      let count : length xs ≡ length ys + length zs =
      ap (λ (l : List (List ℕ)). length l) stack.1.1.0 ∙ length-append ys zs in (
        ys,
        (
          zs,
          (
            stack.1.1.0,
            kept_before end left right ss ys moves (omega arith) stack.1.1.1,
            stack.1.1.2,
            moves.before (length ys) zs (omega arith) stack.1.1.3,
            stack.1.1.4,
            stack.1.1.5,
          ),
        ),
      )

  -- two trees that come one behind the other are one
  joined : (end j : ℕ) (last tree above : TreeHead) (xs before ys zs inside : List (List ℕ))
      → end < 2 ^ 64 → end ≡ length xs → xs ≡ before ++ inside → before ≡ ys ++ zs → Joins last tree above
      → Moves P Q last tree end → length zs ≡ 2 ^ j → 0 < length inside → length inside ≤ 2 ^ j
      → IsHeadOf last zs → P (length ys) zs → IsHeadOf tree inside → P (length before) inside
      → (xs ≡ ys ++ (zs ++ inside)) × IsHeadOf above (zs ++ inside) × Q (length ys) (zs ++ inside)
      × (length ys + last.size + tree.size ≤ end)
  joined end j last tree above xs before ys zs inside room ends all parts joins moves size some fits left on_left right
      on_right =
      let count : length before ≡ length ys + length zs =
      ap (λ (l : List (List ℕ)). length l) parts ∙ length-append ys zs in
      let whole : length xs ≡ length before + length inside =
      ap (λ (l : List (List ℕ)). length l) all ∙ length-append before inside in
      let fewer : length (zs ++ inside) < 2 ^ 64 = omega (arith, length-append zs inside) in
      let left_size : last.size ≡ length zs = left.size in
      let right_size : tree.size ≡ length inside = right.size in (
        all ∙ ap (λ (l : List (List ℕ)). l ++ inside) parts ∙ append_assoc ys zs inside,
        joins j zs inside size some fits fewer left right,
        moves.above j (length ys) zs inside size some fits (omega arith) room left right on_left
            (subst (λ (n : ℕ). P n inside) count on_right),
        omega arith,
      )

  pub carry_step : (end : ℕ) (xs : List (List ℕ)) (ss : List TreeHead) (last tree above : TreeHead)
      → end < 2 ^ 64 → end ≡ length xs → last.size ≤ tree.size → Joins last tree above → Moves P Q last tree end
      → IsCarried P (last ∷ ss) tree xs → IsNotLarger tree.size (last ∷ ss)
      → IsCarried Q ss above xs × IsNotLarger above.size ss
  carry_step end xs ss last tree above room ends least joins moves h most =
      let ys : List (List ℕ) = h.stack.0 in
      let zs : List (List ℕ) = h.stack.1.0 in
      let rest : IsStack P ss ys = h.stack.1.1.1 in
      let left : IsHeadOf last zs = h.stack.1.1.2 in
      let level : ℕ = h.stack.1.1.4.0 in
      let power : last.size ≡ 2 ^ level = h.stack.1.1.4.1 in
      let smaller : IsSmaller last.size ss = h.stack.1.1.5 in
      let left_size : last.size ≡ length zs = left.size in
      let right_size : tree.size ≡ length h.inside = h.head.size in
      let some : 0 < 2 ^ level = pow_pos level in
      let all = joined end level last tree above xs h.before ys zs h.inside room ends h.all h.stack.1.1.0 joins moves
      (omega arith) (omega arith) (omega arith) left h.stack.1.1.3 h.head h.also in
      let above_size : above.size ≡ length (zs ++ h.inside) = all.1.size in
      let twice : above.size ≡ 2 ^ suc level = omega (arith, length-append zs h.inside, double level) in (
        record {
          before = ys;
          inside = zs ++ h.inside;
          all = all.0;
          stack = kept_before end last tree ss ys moves all.3 rest;
          head = all.1;
          also = all.2;
          perfect = (suc level, twice);
        },
        not_larger P level above.size ss ys rest (subst (λ (n : ℕ). IsSmaller n ss) power smaller) (omega arith),
      )

  pub fold_step : (end : ℕ) (xs : List (List ℕ)) (ss : List TreeHead) (last tree above : TreeHead)
      → end < 2 ^ 64 → end ≡ length xs → Joins last tree above → Moves P Q last tree end
      → IsFolded P (last ∷ ss) tree xs → IsFolded Q ss above xs
  fold_step end xs ss last tree above room ends joins moves h =
      let ys : List (List ℕ) = h.stack.0 in
      let zs : List (List ℕ) = h.stack.1.0 in
      let rest : IsStack P ss ys = h.stack.1.1.1 in
      let left : IsHeadOf last zs = h.stack.1.1.2 in
      let level : ℕ = h.stack.1.1.4.0 in
      let power : last.size ≡ 2 ^ level = h.stack.1.1.4.1 in
      let smaller : IsSmaller last.size ss = h.stack.1.1.5 in
      let left_size : last.size ≡ length zs = left.size in
      let right_size : tree.size ≡ length h.inside = h.head.size in
      let less : tree.size < last.size = h.smaller in
      let all = joined end level last tree above xs h.before ys zs h.inside room ends h.all h.stack.1.1.0 joins moves
      (omega arith) h.some (omega arith) left h.stack.1.1.3 h.head h.also in
      let above_size : above.size ≡ length (zs ++ h.inside) = all.1.size in
      let below : above.size < 2 ^ suc level = omega (arith, length-append zs h.inside, double level) in
      record {
        before = ys;
        inside = zs ++ h.inside;
        all = all.0;
        stack = kept_before end last tree ss ys moves all.3 rest;
        head = all.1;
        also = all.2;
        some = omega (arith, length-append zs h.inside, h.some);
        smaller = less_than_next P level above.size ss ys rest (subst (λ (n : ℕ). IsSmaller n ss) power smaller) below;
      }
