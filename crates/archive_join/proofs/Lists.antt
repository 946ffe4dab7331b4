-- Places in lists.
use Rattle.std.proofs.Common.{◌≡◌, ℕ, zero, suc, ◌<◌, List, [], ◌∷◌, ◌++◌, length, map, get_or, set, refl, sym, ap, ◌∙◌, arith}
use Rattle.std.specs.List.{AllByRecursion}
use Rattle.std.proofs.lemmas.List.{get_or_at, length-map, map-append, set_at}
use Rattle.archive_text.proofs.Members.{all_append, all_left, all_right}

-- a list, parted at an element
pub record Parted {X : Type 0} (xs : List X) (at : ℕ) : Type 0 where
  pub front : List X
  pub here : X
  pub back : List X
  pub parts : xs ≡ front ++ here ∷ back
  pub size : length front ≡ at

pub parted : {X : Type 0} (xs : List X) (at : ℕ) → at < length xs → Parted xs at
parted [] at within = absurd (omega arith)
parted (x ∷ xs) zero within = record { front = []; here = x; back = xs; parts = refl; size = refl }
parted (x ∷ xs) (suc at) within =
    let rest = parted xs at (omega arith) in
    record {
      front = x ∷ rest.front;
      here = rest.here;
      back = rest.back;
      parts = ap (λ l. x ∷ l) rest.parts;
      size = ap suc rest.size;
    }

-- what a function gives at it
pub mapped_at : {X Y : Type 0} (f : X → Y) (ys : List Y) (a b : List X) (x : X) (y : Y) (at : ℕ)
    → ys ≡ map f (a ++ x ∷ b) → length a ≡ at → y ≡ get_or ys at y → y ≡ f x
mapped_at f ys a b x y at is size here =
    here ∙ ap (λ l. get_or l at y) (is ∙ map-append f a (x ∷ b))
    ∙ get_or_at (map f a) (f x) (map f b) y at (length-map a f ∙ size)

-- and with another in its place
pub mapped_set : {X Y : Type 0} (f : X → Y) (ys : List Y) (a b : List X) (x z : X) (y : Y) (at : ℕ)
    → ys ≡ map f (a ++ x ∷ b) → length a ≡ at → y ≡ f z → set ys at y ≡ map f (a ++ z ∷ b)
mapped_set f ys a b x z y at is size new =
    ap (λ l. set l at y) (is ∙ map-append f a (x ∷ b))
    ∙ set_at (map f a) (f x) (map f b) y at (length-map a f ∙ size)
    ∙ ap (λ v. map f a ++ v ∷ map f b) new ∙ sym (map-append f a (z ∷ b))

-- the same, where the function gives the same
pub mapped_same : {X Y : Type 0} (f : X → Y) (ys : List Y) (a b : List X) (x z : X)
    → ys ≡ map f (a ++ x ∷ b) → f x ≡ f z → ys ≡ map f (a ++ z ∷ b)
mapped_same f ys a b x z is same =
    is ∙ map-append f a (x ∷ b) ∙ ap (λ v. map f a ++ v ∷ map f b) same ∙ sym (map-append f a (z ∷ b))

-- what holds of all, with another in its place
pub all_replaced : {X : Type 0} (P : X → Type 0) (a b : List X) (x z : X) → AllByRecursion P (a ++ x ∷ b) → P z
    → AllByRecursion P (a ++ z ∷ b)
all_replaced P a b x z all new =
    all_append P a (z ∷ b) (all_left P a (x ∷ b) all) (new, (all_right P a (x ∷ b) all).1)

pub all_here : {X : Type 0} (P : X → Type 0) (a b : List X) (x : X) → AllByRecursion P (a ++ x ∷ b) → P x
all_here P a b x all = (all_right P a (x ∷ b) all).0
