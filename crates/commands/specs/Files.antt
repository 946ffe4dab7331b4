-- Files by their names, where what they hold is known.
use Rattle.std.specs.Prelude.{◌≡◌, ℕ, List, Option, None, MatchOption, IsSome}
use Rattle.octet_devices.specs.Device.{InputState}

-- a name has a reader exactly where octets are stored under it, and exactly these are left to read
abbrev pub Finds : {R : Type 0} → (R → Option (List ℕ)) → Option (List ℕ) → Option R → Type 0
Finds left octets reader = MatchOption reader (octets ≡ None) (λ r. IsSome (left r) × (octets ≡ left r))

-- a reader that was not called
pub record IsUnused (s : InputState) : Type 0 where
  pub calls : s.calls ≡ 0
  pub failures : s.failures ≡ 0
