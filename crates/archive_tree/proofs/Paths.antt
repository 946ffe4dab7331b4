-- Paths in two trees that come one behind the other.
use Rattle.std.proofs.Common.{◌≡◌, ℕ, ◌+◌, ◌-◌, ◌^◌, ◌<◌, ◌≤◌, ◌⊎◌, inl, inr, List, [], ◌∷◌, ◌++◌, length, refl, sym}
use Rattle.std.proofs.Common.{ap, subst, ◌∙◌, arith, length-append}
use Rattle.archive_tree.specs.Tree.{audit_path, tree_hash}
use Rattle.archive_tree.specs.Trees.{IsAny, IsHeadOf, IsPathIn, IsStack, Passes}
use Rattle.archive_tree.specs.declared.audit_path.AuditPath.{AuditPath}
use Rattle.archive_tree.specs.declared.head.TreeHead.{TreeHead}
use Rattle.archive_tree.proofs.TreeLaws.{path_in_left, path_in_right, path_is_short, path_one}
use Rattle.archive_tree.proofs.Rooms.{fewer_digits}
use Rattle.archive_tree.proofs.Stacks.{Moves}

less_or_not : (m n : ℕ) → (m < n) ⊎ (n ≤ m)
less_or_not m n = grind arith

-- there is room in the path of an entry of at most 2 ^ h
path_has_room : (h i : ℕ) (xs hashes : List (List ℕ)) → length xs ≤ 2 ^ h → 2 ^ h < 2 ^ 64
    → hashes ≡ audit_path xs i → length hashes < 64
path_has_room h i xs hashes fits room is =
    let low : h < 64 = fewer_digits h 64 room in
    let short : length (audit_path xs i) ≤ h = path_is_short h i xs fits in
    let same : length hashes ≡ length (audit_path xs i) = ap (λ (l : List (List ℕ)). length l) is in
    omega arith

goes_left : (p q : AuditPath) (left right : TreeHead) (end h at : ℕ) (ys zs : List (List ℕ))
    → Passes end left right p q → length ys ≡ 2 ^ h → 0 < length zs → length zs ≤ 2 ^ h
    → at + length ys + length zs ≡ end → end < 2 ^ 64 → IsHeadOf left ys → IsHeadOf right zs → IsPathIn p at ys
    → at ≤ p.index → p.index < at + length ys
    → q.hashes.items ≡ audit_path (ys ++ zs) (p.index - at)
goes_left p q left right end h at ys zs passes size some fits ends room lefts rights path low high =
    let is : p.hashes.items ≡ audit_path ys (p.index - at) = path low high in
    let short : length p.hashes.items < 64 =
    path_has_room h (p.index - at) ys p.hashes.items (omega arith) (omega arith) is in
    let right_size : right.size ≡ length zs = rights.size in
    let left_size : left.size ≡ length ys = lefts.size in
    passes.in_left (omega arith) (omega arith) short ∙ rw (is, rights.hash)
    (sym (path_in_left h ys zs (p.index - at) size some fits (omega arith)))

goes_right : (p q : AuditPath) (left right : TreeHead) (end h at : ℕ) (ys zs : List (List ℕ))
    → Passes end left right p q → length ys ≡ 2 ^ h → 0 < length zs → length zs ≤ 2 ^ h
    → at + length ys + length zs ≡ end → end < 2 ^ 64 → IsHeadOf left ys → IsHeadOf right zs
    → IsPathIn p (at + length ys) zs
    → at + length ys ≤ p.index → p.index < at + length ys + length zs
    → q.hashes.items ≡ audit_path (ys ++ zs) (p.index - at)
goes_right p q left right end h at ys zs passes size some fits ends room lefts rights path low high =
    let place : p.index - (at + length ys) ≡ p.index - at - length ys = omega arith in
    let is : p.hashes.items ≡ audit_path zs (p.index - at - length ys) =
    path low high ∙ ap (λ (i : ℕ). audit_path zs i) place in
    let short : length p.hashes.items < 64 =
    path_has_room h (p.index - at - length ys) zs p.hashes.items fits (omega arith) is in
    let right_size : right.size ≡ length zs = rights.size in
    passes.in_right (omega arith) (omega arith) short ∙ rw (is, lefts.hash)
    (sym (path_in_right h ys zs (p.index - at) size some fits (omega arith)))

moves_above : (p q : AuditPath) (left right : TreeHead) (end h at : ℕ) (ys zs : List (List ℕ))
    → Passes end left right p q → length ys ≡ 2 ^ h → 0 < length zs → length zs ≤ 2 ^ h
    → at + length ys + length zs ≡ end → end < 2 ^ 64 → IsHeadOf left ys → IsHeadOf right zs → IsPathIn p at ys
    → IsPathIn p (at + length ys) zs → at ≤ p.index → p.index < at + length (ys ++ zs)
    → q.hashes.items ≡ audit_path (ys ++ zs) (p.index - at)
moves_above p q left right end h at ys zs passes size some fits ends room lefts rights on_left on_right low high =
    let all : length (ys ++ zs) ≡ length ys + length zs = length-append ys zs in
    elim (less_or_not p.index (at + length ys)) [
      | inl here ↦ goes_left p q left right end h at ys zs passes size some fits ends room lefts rights on_left low here
      | inr there ↦ goes_right p q left right end h at ys zs passes size some fits ends room lefts rights on_right there
          (omega arith)
    ]

-- a path that goes on above two trees is one of the tree above them
pub path_moves : (p q : AuditPath) (left right : TreeHead) (end : ℕ) → Passes end left right p q
    → Moves (IsPathIn p) (IsPathIn q) left right end
path_moves p q left right end passes = record {
  above = λ h at ys zs size some fits ends room lefts rights on_left on_right low high.
      let from : at ≤ p.index = subst (λ (n : ℕ). at ≤ n) passes.index low in
      let to : p.index < at + length (ys ++ zs) = subst (λ (n : ℕ). n < at + length (ys ++ zs)) passes.index high in
      moves_above p q left right end h at ys zs passes size some fits ends room lefts rights on_left on_right from to
      ∙ ap (λ (n : ℕ). audit_path (ys ++ zs) (n - at)) (sym passes.index);
  before = λ at ys fits on low high.
      let from : at ≤ p.index = subst (λ (n : ℕ). at ≤ n) passes.index low in
      let to : p.index < at + length ys = subst (λ (n : ℕ). n < at + length ys) passes.index high in
      passes.before (omega arith) ∙ on from to ∙ ap (λ (n : ℕ). audit_path ys (n - at)) (sym passes.index);
}

-- nothing is known of the path of an entry that has not come
pub path_to_come : (p : AuditPath) (ss : List TreeHead) (xs : List (List ℕ)) → length xs ≤ p.index → IsStack IsAny ss xs
    → IsStack (IsPathIn p) ss xs
path_to_come p [] xs behind stack = stack
path_to_come p (s ∷ ss) xs behind stack =
    let ys : List (List ℕ) = stack.0 in
    let zs : List (List ℕ) = stack.1.0 in
    let count : length xs ≡ length ys + length zs =
    ap (λ (l : List (List ℕ)). length l) stack.1.1.0 ∙ length-append ys zs in (
      ys,
      (
        zs,
        (
          stack.1.1.0,
          path_to_come p ss ys (omega arith) stack.1.1.1,
          stack.1.1.2,
          λ low high. absurd (omega (arith, count, behind, high)),
          stack.1.1.4,
          stack.1.1.5,
        ),
      ),
    )

-- the path of an entry that comes begins
pub path_of_one : (p : AuditPath) (at : ℕ) (e : List ℕ) → (at ≤ p.index → p.hashes.items ≡ []) → IsPathIn p at (e ∷ [])
path_of_one p at e begins low high = begins low ∙ sym (path_one e (p.index - at))
