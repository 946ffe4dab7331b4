-- Words, numbers and hashes.
use Rattle.std.specs.Prelude.{◌≡◌, ◌≢◌, ℕ, ◌^◌, ◌<◌, ◌≤◌, ◌⊎◌, List, ◌∷◌, ◌++◌, EachIndex, length, slice_index}
use Rattle.std.specs.List.{AllByRecursion}

-- printable, and no space
abbrev pub IsPrinted : ℕ → Type 0
IsPrinted x = (33 ≤ x) × (x ≤ 126)

-- one to so many octets, each of them printable
pub record IsWord (most : ℕ) (w : List ℕ) : Type 0 where
  pub some : 0 < length w
  pub short : length w ≤ most
  pub printed : EachIndex w (λ k. IsPrinted (slice_index w k))

-- a number of 64 bits
abbrev pub IsNumber : ℕ → Type 0
IsNumber n = n < 2 ^ 64

-- a digit in lower-case hexadecimal
abbrev pub IsHexDigit : ℕ → Type 0
IsHexDigit x = ((48 ≤ x) × (x ≤ 57)) ⊎ ((97 ≤ x) × (x ≤ 102))

-- 64 digits
pub record IsHash (h : List ℕ) : Type 0 where
  pub size : length h ≡ 64
  pub digits : EachIndex h (λ k. IsHexDigit (slice_index h k))

-- a word, a space, and what follows
abbrev pub word_and : List ℕ → List ℕ → List ℕ
word_and w rest = w ++ 32 ∷ rest

-- no space
abbrev pub IsFree : List ℕ → Type 0
IsFree w = AllByRecursion (λ x. x ≢ 32) w
