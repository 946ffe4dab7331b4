-- How many trees there are, and how many hashes a path has.
use Rattle.std.proofs.Common.{◌≡◌, ℕ, zero, suc, ◌+◌, ◌*◌, ◌^◌, ◌<◌, ◌≤◌, ◌⊎◌, inl, inr, List, [], ◌∷◌, ◌++◌, length}
use Rattle.std.proofs.Common.{reverse, refl, sym, ap, subst, ◌∙◌, arith, length-append}
use Rattle.std.proofs.Math.Pow.{pow_mono}
use Rattle.std.proofs.lemmas.Nat.{pow_pos}
use Rattle.std.proofs.Math.Nat.{mul-le-mul_right, mul-suc}
use Rattle.std.proofs.lemmas.List.{length-reverse}
use Rattle.archive_tree.specs.declared.stream.TreeStream.{TreeStream}
use Rattle.archive_tree.specs.Trees.{HasTaken, IsAny, IsNotLarger, IsSmaller, IsStack}
use Rattle.archive_tree.specs.declared.head.TreeHead.{TreeHead}
use Rattle.archive_tree.proofs.TreeLaws.{double}
use Rattle.archive_tree.proofs.Stacks.{not_larger, one_not_larger}

less_copies : (a b c n : ℕ) → c ≤ a → 0 < b → a * b ≤ n + a → c * b ≤ n + c
less_copies a zero c n less some fits = absurd (omega arith)
less_copies a (suc b) c n less some fits =
    let wide : c * b ≤ a * b = mul-le-mul_right b less in
    omega (arith, mul-suc a b, mul-suc c b)

twice_as_many : (a b : ℕ) → a * (b + b) ≡ (a + a) * b
twice_as_many a b = grind arith

regroup : (a m level : ℕ) → a ≡ 2 ^ level → a * 2 ^ suc m ≡ 2 ^ suc level * 2 ^ m
regroup a m level is =
    ap (λ (n : ℕ). a * n) (double m) ∙ twice_as_many a (2 ^ m)
    ∙ ap (λ (n : ℕ). (n + n) * 2 ^ m) is ∙ ap (λ (n : ℕ). n * 2 ^ m) (sym (double level))

less_or_not : (m n : ℕ) → (m < n) ⊎ (n ≤ m)
less_or_not m n = grind arith

pub few_digits : (m n : ℕ) → 2 ^ m ≤ 2 ^ n → m ≤ n
few_digits m n most = elim (less_or_not n m) [
  | inl over ↦
      let wide : 2 ^ suc n ≤ 2 ^ m = pow_mono over in
      let some : 0 < 2 ^ n = pow_pos n in
      absurd (omega (arith, wide, some, most, double n))
  | inr within ↦ within
]

pub fewer_digits : (m n : ℕ) → 2 ^ m < 2 ^ n → m < n
fewer_digits m n most = elim (less_or_not m n) [
  | inl less ↦ less
  | inr over ↦ let wide : 2 ^ n ≤ 2 ^ m = pow_mono over in absurd (omega arith)
]

module _ (P : ℕ → List (List ℕ) → Type 0) where
  room_of : (j : ℕ) (ss : List TreeHead) (xs : List (List ℕ)) → IsStack P ss xs → IsNotLarger (2 ^ j) ss
      → 2 ^ j * 2 ^ length ss ≤ length xs + 2 ^ j
  room_of j [] xs stack least = omega arith
  room_of j (s ∷ ss) xs stack least =
      let ys : List (List ℕ) = stack.0 in
      let zs : List (List ℕ) = stack.1.0 in
      let level : ℕ = stack.1.1.4.0 in
      let power : s.size ≡ 2 ^ level = stack.1.1.4.1 in
      let size : s.size ≡ length zs = stack.1.1.2.size in
      let smaller : IsSmaller (2 ^ level) ss = subst (λ (n : ℕ). IsSmaller n ss) power stack.1.1.5 in
      let above : IsNotLarger (2 ^ suc level) ss =
      not_larger P level (2 ^ suc level) ss ys stack.1.1.1 smaller (omega arith) in
      let rest : 2 ^ suc level * 2 ^ length ss ≤ length ys + 2 ^ suc level =
      room_of (suc level) ss ys stack.1.1.1 above in
      let whole : length xs ≡ length ys + length zs =
      ap (λ (l : List (List ℕ)). length l) stack.1.1.0 ∙ length-append ys zs in
      let twice : 2 ^ level * 2 ^ suc (length ss) ≡ 2 ^ suc level * 2 ^ length ss =
      regroup (2 ^ level) (length ss) level refl in
      less_copies (2 ^ level) (2 ^ suc (length ss)) (2 ^ j) (length xs) (omega arith) (pow_pos (suc (length ss)))
      (omega (arith, twice, rest, double level))

  -- there are no more trees than binary digits in how many entries came
  stack_is_small : (ss : List TreeHead) (xs : List (List ℕ)) → IsStack P ss xs → 2 ^ length ss ≤ length xs + 1
  stack_is_small ss xs h =
      let all : 1 * 2 ^ length ss ≤ length xs + 1 = room_of 0 ss xs h (one_not_larger P ss xs h) in
      omega arith

  -- where a tree more goes onto a stack, there is room for it
  pub has_room : (items : List TreeHead) (s : TreeHead) (xs : List (List ℕ)) → length xs < 2 ^ 64
      → IsStack P (s ∷ reverse items) xs → length items < 64
  has_room items s xs fits h =
      let small : 2 ^ suc (length (reverse items)) ≤ length xs + 1 = stack_is_small (s ∷ reverse items) xs h in
      let few : suc (length (reverse items)) ≤ 64 = few_digits (suc (length (reverse items))) 64 (omega arith) in
      let same : length (reverse items) ≡ length items = length-reverse items in
      omega arith

pub heads_are_few : (t : TreeStream) (xs : List (List ℕ)) → HasTaken t xs → 2 ^ length t.heads.items ≤ length xs + 1
heads_are_few t xs h =
    subst (λ (n : ℕ). 2 ^ n ≤ length xs + 1) (length-reverse t.heads.items)
    (stack_is_small IsAny (reverse t.heads.items) xs h.stack)
