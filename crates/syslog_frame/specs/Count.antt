-- A count before a record, as far as it was read.
use Rattle.std.specs.Prelude.{◌≡◌, ◌≢◌, ℕ, ◌+◌, ◌*◌, ◌-◌, ◌<◌, ◌≤◌, ◌⊎◌, List, [], ◌∷◌, ◌++◌}
use Rattle.std.specs.Prelude.{length, take, slice_index, decimal}
use Rattle.octet_language.specs.Digits.{IsDigit}
use Rattle.syslog_frame.specs.declared.count.CountStep.{CountStep}
use Rattle.syslog_frame.specs.declared.count.CountStep.TheVariants.{Read, Unfinished, Broken}
use Rattle.syslog_frame.specs.declared.limits.TheConstants.{COUNT_MAX}

-- the digits of a count so far; none for 0
abbrev pub IsCount : ℕ → List ℕ → Type 0
IsCount count p = ((count ≡ 0) × (p ≡ [])) ⊎ ((0 < count) × (p ≡ decimal count))

-- the digit x continues a count's digits: not as a first zero, nor past the largest count
abbrev pub IsNextDigit : ℕ → ℕ → Type 0
IsNextDigit count x = IsDigit x × (0 < 10 * count + (x - 48)) × (10 * count + (x - 48) ≤ COUNT_MAX)

-- neither a digit that continues the count nor the space after it
abbrev pub IsRefused : ℕ → ℕ → Type 0
IsRefused count x = ¬ (IsNextDigit count x) × (0 < count → x ≢ 32)

-- the state of a count after octets, and what is known of it there
abbrev pub IsStep : List ℕ → CountStep → Type 0
IsStep octets (Read count used) =
    (0 < count) × (count ≤ COUNT_MAX) × (used ≤ length octets) × (0 < used)
IsStep octets (Unfinished count) = count ≤ COUNT_MAX
IsStep octets (Broken count at) =
    (count ≤ COUNT_MAX) × (at < length octets) × IsRefused count (slice_index octets at)

-- what the octets make of a count whose digits so far are p
abbrev pub CountsOn : List ℕ → List ℕ → CountStep → Type 0
CountsOn p octets (Read count used) = p ++ take used octets ≡ decimal count ++ 32 ∷ []
CountsOn p octets (Unfinished count) = IsCount count (p ++ octets)
CountsOn p octets (Broken count at) = IsCount count (p ++ take at octets)
