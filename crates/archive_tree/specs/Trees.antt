-- Trees under way.
use Rattle.std.specs.Prelude.{◌≡◌, ℕ, ◌+◌, ◌-◌, ◌^◌, ◌<◌, ◌≤◌, ◌⊎◌, List, [], ◌∷◌, ◌++◌, length, reverse}
use Rattle.archive_tree.specs.Tree.{tree_hash, audit_path}
use Rattle.archive_tree.specs.declared.audit_path.AuditPath.{AuditPath}
use Rattle.archive_tree.specs.declared.head.TreeHead.{TreeHead}
use Rattle.archive_tree.specs.declared.stream.TreeStream.{TreeStream}

-- how many these entries are, and their tree hash
pub record IsHeadOf (s : TreeHead) (ys : List (List ℕ)) : Type 0 where
  pub size : s.size ≡ length ys
  pub hash : s.hash ≡ tree_hash ys

-- ---- what is said of the entries of a tree, which begin behind so many others

-- nothing
abbrev pub IsAny : ℕ → List (List ℕ) → Type 0
IsAny at ys = Unit {0}

-- the entry of the path has this path in their tree, if it is one of them
abbrev pub IsPathIn : AuditPath → ℕ → List (List ℕ) → Type 0
IsPathIn p at ys = at ≤ p.index → p.index < at + length ys → p.hashes.items ≡ audit_path ys (p.index - at)

-- ---- heads of perfect trees

-- how many entries it has is a power of two
abbrev pub IsPerfect : TreeHead → Type 0
IsPerfect s = (level : ℕ) × (s.size ≡ 2 ^ level)

-- the first of the trees, if there is one, has more entries than these
abbrev pub IsSmaller : ℕ → List TreeHead → Type 0
IsSmaller size [] = Unit {0}
IsSmaller size (t ∷ ts) = size < t.size

-- it has no fewer
abbrev pub IsNotLarger : ℕ → List TreeHead → Type 0
IsNotLarger size [] = Unit {0}
IsNotLarger size (t ∷ ts) = size ≤ t.size

-- perfect trees, the smallest and last first, are those of these entries
abbrev pub IsStack : (ℕ → List (List ℕ) → Type 0) → List TreeHead → List (List ℕ) → Type 0
IsStack Also [] xs = xs ≡ []
IsStack Also (s ∷ ss) xs =
    (ys : List (List ℕ)) × ((zs : List (List ℕ)) × ((xs ≡ ys ++ zs) × IsStack Also ss ys
    × IsHeadOf s zs × Also (length ys) zs × IsPerfect s × IsSmaller s.size ss))

-- a perfect tree comes behind those of a stack, and all are those of these entries
pub record IsCarried (Also : ℕ → List (List ℕ) → Type 0) (ss : List TreeHead) (s : TreeHead)
    (xs : List (List ℕ)) : Type 0 where
  pub before : List (List ℕ)
  pub inside : List (List ℕ)
  pub all : xs ≡ before ++ inside
  pub stack : IsStack Also ss before
  pub head : IsHeadOf s inside
  pub also : Also (length before) inside
  pub perfect : IsPerfect s

-- a tree, perfect or not, comes behind those of a stack, and is smaller than the last of them
pub record IsFolded (Also : ℕ → List (List ℕ) → Type 0) (ss : List TreeHead) (s : TreeHead)
    (xs : List (List ℕ)) : Type 0 where
  pub before : List (List ℕ)
  pub inside : List (List ℕ)
  pub all : xs ≡ before ++ inside
  pub stack : IsStack Also ss before
  pub head : IsHeadOf s inside
  pub also : Also (length before) inside
  pub some : 0 < length inside
  pub smaller : IsSmaller s.size ss

-- these entries came
pub record HasTaken (t : TreeStream) (xs : List (List ℕ)) : Type 0 where
  pub count : t.count ≡ length xs
  pub stack : IsStack IsAny (reverse t.heads.items) xs

-- these entries came, and the path of the entry at the index was followed
pub record IsFollowed (t : TreeStream) (index : ℕ) (p : AuditPath) (xs : List (List ℕ)) : Type 0 where
  pub own : p.index ≡ index
  pub count : t.count ≡ length xs
  pub stack : IsStack (IsPathIn p) (reverse t.heads.items) xs
  pub begins : length xs ≤ index → p.hashes.items ≡ []

-- ---- paths that go on

-- above two trees, of which the right one ends with the entry before `end`, the path of an entry in one of them goes on
-- with the hash of the other
pub record Passes (end : ℕ) (left right : TreeHead) (p q : AuditPath) : Type 0 where
  pub index : q.index ≡ p.index
  pub in_right : p.index < end → end ≤ p.index + right.size → length p.hashes.items < 64
      → q.hashes.items ≡ p.hashes.items ++ left.hash ∷ []
  pub in_left : p.index + right.size < end → end ≤ p.index + right.size + left.size → length p.hashes.items < 64
      → q.hashes.items ≡ p.hashes.items ++ right.hash ∷ []
  pub before : p.index + right.size + left.size < end → q.hashes.items ≡ p.hashes.items
  pub behind : end ≤ p.index → q.hashes.items ≡ p.hashes.items

-- each of the paths does
abbrev pub AllPass : ℕ → TreeHead → TreeHead → List AuditPath → List AuditPath → Type 0
AllPass end left right [] new = new ≡ []
AllPass end left right (p ∷ old) [] = ⊥
AllPass end left right (p ∷ old) (q ∷ new) = Passes end left right p q × AllPass end left right old new

-- one is among the old paths where the other is among the new ones
abbrev pub AtOnePlace : List AuditPath → List AuditPath → AuditPath → AuditPath → Type 0
AtOnePlace [] new p q = ⊥
AtOnePlace (a ∷ old) [] p q = ⊥
AtOnePlace (a ∷ old) (b ∷ new) p q = ((a ≡ p) × (b ≡ q)) ⊎ AtOnePlace old new p q
