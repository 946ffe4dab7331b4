-- Conditions on the instant of a record.
use Rattle.std.specs.Prelude.{◌≡◌, ℤ, ◌<ℤ◌, ◌≤ℤ◌, ◌⊎◌, Bool, true, Option, None, Some, IfSome}

-- an instant is from the first bound on and before the second; no instant is in a range without bounds, or in one
-- that takes the undated
abbrev pub IsInRange : Option ℤ → Option ℤ → Bool → Option ℤ → Type 0
IsInRange from to undated None = ((from ≡ None) × (to ≡ None)) ⊎ (undated ≡ true)
IsInRange from to undated (Some i) = IfSome from (λ (f : ℤ). f ≤ℤ i) × IfSome to (λ (t : ℤ). i <ℤ t)
