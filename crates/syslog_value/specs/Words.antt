-- Why octets are no word, or no name: the first cause that holds.
use Rattle.std.specs.Prelude.{◌≡◌, ◌≢◌, ℕ, ◌<◌, ◌≤◌, List, [], ◌∷◌, length, slice_index}
use Rattle.syslog_value.specs.Parts.{IsPrintable, IsWord, IsNameOctet, IsName}
use Rattle.syslog_value.specs.declared.word.WordFault.{WordFault}
use Rattle.syslog_value.specs.declared.word.WordFault.TheVariants.{Empty, Nil, TooLong, BadOctet, Memory}

-- the octet at this offset is the first that is not allowed
pub record IsFirstBad (IsAllowed : ℕ → Type 0) (octets : List ℕ) (offset : ℕ) : Type 0 where
  pub within : offset < length octets
  pub bad : ¬ IsAllowed (slice_index octets offset)
  pub before : (k : ℕ) → k < offset → IsAllowed (slice_index octets k)

abbrev pub IsWordFault : ℕ → List ℕ → WordFault → Type 0
IsWordFault most octets Empty = octets ≡ []
IsWordFault most octets Nil = octets ≡ 45 ∷ []
IsWordFault most octets TooLong = (octets ≢ []) × (octets ≢ 45 ∷ []) × (most < length octets)
IsWordFault most octets (BadOctet offset) =
    (octets ≢ []) × (octets ≢ 45 ∷ []) × (length octets ≤ most) × IsFirstBad IsPrintable octets offset
IsWordFault most octets Memory = IsWord most octets

abbrev pub IsNameFault : List ℕ → WordFault → Type 0
IsNameFault octets Empty = octets ≡ []
IsNameFault octets Nil = ⊥
IsNameFault octets TooLong = 32 < length octets
IsNameFault octets (BadOctet offset) = (octets ≢ []) × (length octets ≤ 32) × IsFirstBad IsNameOctet octets offset
IsNameFault octets Memory = IsName octets
