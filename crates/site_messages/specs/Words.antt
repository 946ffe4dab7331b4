-- Words, and what they stand for.
use Rattle.std.specs.Prelude.{◌≡◌, ◌≢◌, ℕ, ℤ, ◌^◌, ◌<◌, ◌≤◌, List, [], ◌∷◌, ◌++◌, Option, None, Some, ⊤, decimal, length}
use Rattle.std.specs.List.{AllByRecursion}
use Rattle.std.specs.Fmt.{signed_decimal}
use Rattle.hex.specs.Hex.{IsBytes, encode_lower}
use Rattle.syslog_value.specs.Parts.{IsInstant}
use Rattle.site_messages.specs.declared.limits.TheConstants.{PLACE_MAX}

-- at most so many octets, none of them this one
pub record IsWord (end most : ℕ) (w : List ℕ) : Type 0 where
  pub free : AllByRecursion (λ x. x ≢ end) w
  pub short : length w ≤ most

-- a number of 64 bits
abbrev pub IsNumber : ℕ → Type 0
IsNumber n = n < 2 ^ 64

-- a hyphen where there is no time, else microseconds from 1970-01-01T00:00:00Z
abbrev pub time_word : Option ℤ → List ℕ
time_word None = 45 ∷ []
time_word (Some i) = signed_decimal i

abbrev pub IsTime : Option ℤ → Type 0
IsTime None = ⊤
IsTime (Some i) = IsInstant i

-- 32 octets
pub record IsDigest (d : List ℕ) : Type 0 where
  pub size : length d ≡ 32
  pub octets : IsBytes d

-- so many octets at most
abbrev pub IsShort : List ℕ → Type 0
IsShort octets = length octets ≤ PLACE_MAX

-- the one text
abbrev pub only_text : List ℕ → Unit {0} → List ℕ
only_text text u = text

-- words and the space or other octet behind them
abbrev pub word_text : ℕ → List ℕ → List ℕ
word_text end w = w ++ end ∷ []

abbrev pub number_text : ℕ → List ℕ
number_text n = word_text 32 (decimal n)

abbrev pub time_text : Option ℤ → List ℕ
time_text t = word_text 32 (time_word t)

abbrev pub digest_text : List ℕ → List ℕ
digest_text d = word_text 32 (encode_lower d)

-- how many octets there are, and the octets
abbrev pub counted_text : List ℕ → List ℕ
counted_text octets = number_text (length octets) ++ octets

-- and octets behind them
abbrev pub counted_and : List ℕ → List ℕ → List ℕ
counted_and end octets = counted_text octets ++ end
