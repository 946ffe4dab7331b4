-- Sixteen octets at a time.
use Rattle.std.specs.Prelude.{◌≡◌, ◌==◌, ◌+◌, ◌≤◌, ◌<◌, ℕ, List, length, slice_index, true, if◌then◌else◌}
use Rattle.std.specs.Int.{w64, trailing_zeros}
use Rattle.memchr.specs.Find.{is_byte2}

-- the number of the lowest bit that is set, or sixteen
abbrev pub first_set : ℕ → ℕ
first_set mask = if mask == 0 then 16 else trailing_zeros w64 mask

-- an octet that is neither of two
abbrev pub IsNeither : ℕ → ℕ → ℕ → Type 0
IsNeither a b x = ¬ (is_byte2 a b x ≡ true)

-- of the sixteen octets at an offset the first so many are of a class, and the next one is not
pub record IsRunOf (C : ℕ → Type 0) (octets : List ℕ) (at run : ℕ) : Type 0 where
  pub most : run ≤ 16
  pub each : (k : ℕ) → at ≤ k → k < at + run → C (slice_index octets k)
  pub ends : run < 16 → C (slice_index octets (at + run)) → ⊥

-- each of so many octets lies between those at its place in two texts
abbrev pub LiesBetween : List ℕ → List ℕ → List ℕ → Type 0
LiesBetween least most octets = (k : ℕ) → k < length least
    → (slice_index least k ≤ slice_index octets k) × (slice_index octets k ≤ slice_index most k)
