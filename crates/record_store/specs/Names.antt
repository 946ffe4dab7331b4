-- The names of a store's files. A name that is none of these counts for nothing.
use Rattle.std.specs.Prelude.{◌≡◌, ◌⊎◌, ◌↔◌, ℕ, ◌^◌, ◌<◌, ◌≤◌, List, ◌∷◌, ◌++◌, All, Contains, codes, decimal, length}
use Rattle.std.specs.Prelude.{Option, None, Some, IsNone, MatchOption}
use Rattle.disk.specs.Names.{IsNameOctet}

-- journal.N
abbrev pub journal_name : ℕ → List ℕ
journal_name n = codes "journal." ++ decimal n

-- the name of some journal
pub record IsJournal (name : List ℕ) : Type 0 where
  pub number : ℕ
  pub small : number < 2 ^ 64
  pub name_is : name ≡ journal_name number

-- 0 to 9 or a to f
abbrev pub IsHexadecimal : ℕ → Type 0
IsHexadecimal octet = ((48 ≤ octet) × (octet ≤ 57)) ⊎ ((97 ≤ octet) × (octet ≤ 102))

-- DAY.HEX.archive, HEX of 64 digits
pub record IsSegment (day name : List ℕ) : Type 0 where
  pub digest : List ℕ
  pub long : length digest ≡ 64
  pub digits : All IsHexadecimal digest
  pub name_is : name ≡ day ++ 46 ∷ digest ++ codes ".archive"

-- a file's name can be that of a segment of this day: it has at most 182 octets, none of them NUL or the slash
pub record IsDayName (day : List ℕ) : Type 0 where
  pub short : length day ≤ 182
  pub each : All IsNameOctet day

-- a file under the name counts
abbrev pub Counts : List ℕ → Type 0
Counts name = IsJournal name ⊎ ((day : List ℕ) × IsSegment day name)

-- what a segment is called until all of it is on the disk
abbrev pub draft_name : List ℕ
draft_name = codes "new.archive"

-- nothing, or a number that is not above this
abbrev pub IsUpTo : Option ℕ → ℕ → Type 0
IsUpTo None n = Unit {0}
IsUpTo (Some m) n = m ≤ n

-- the greater of two numbers, of which there may be none
pub record IsGreater (a b found : Option ℕ) : Type 0 where
  pub one : (found ≡ a) ⊎ (found ≡ b)
  pub left : MatchOption found (IsNone a) (IsUpTo a)
  pub right : MatchOption found (IsNone b) (IsUpTo b)

-- none of the names is that of a journal above this number
abbrev pub NoneAbove : List (List ℕ) → Option ℕ → Type 0
NoneAbove names None = (n : ℕ) → n < 2 ^ 64 → ¬ (Contains names (journal_name n))
NoneAbove names (Some m) = (n : ℕ) → m < n → n < 2 ^ 64 → ¬ (Contains names (journal_name n))

-- the greatest number of a journal that has one of these names
pub record IsNewest (names : List (List ℕ)) (found : Option ℕ) : Type 0 where
  pub some : (n : ℕ) → found ≡ Some n → Contains names (journal_name n)
  pub none_above : NoneAbove names found

-- the numbers up to one of the journals that have these names
abbrev pub AreNumbersOf : List (List ℕ) → ℕ → List ℕ → Type 0
AreNumbersOf names last numbers = (n : ℕ) → Contains numbers n ↔ ((n ≤ last) × Contains names (journal_name n))
