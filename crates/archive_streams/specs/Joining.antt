-- What becomes of two archives that are joined. The front of octets is their longest prefix that is an archive.
use Rattle.std.specs.Prelude.{◌≡◌, ℕ, ◌<◌, ◌↔◌, ◌⊎◌, List, [], ◌++◌, length, Option}
use Rattle.std.specs.Io.KnownBytes.{IsAtEnd}
use Rattle.archive_text.specs.Entries.{Entry, Has, IsAscending, IsBelow}
use Rattle.archive_text.specs.Faults.{IsLongestArchive}
use Rattle.archive_text.specs.Sets.{IsUnionOfEntries}
use Rattle.archive_text.specs.Text.{text_of}
use Rattle.archive_text.specs.declared.limits.TheConstants.{ENTRY_MAX}

-- an entry is not above the greatest of a list; in no list, none is
abbrev pub IsWithin : List Entry → Entry → Type 0
IsWithin es e = (m : Entry) × Has es m × ((e ≡ m) ⊎ IsBelow e m)

-- the ascending list of the members of both
pub record IsUnion (xs ys zs : List Entry) : Type 0 where
  pub ascending : IsAscending zs
  pub members : IsUnionOfEntries xs ys zs

-- a prefix of the text of the union of the two fronts
abbrev pub IsPrefixOfUnion : List ℕ → List ℕ → List ℕ → Type 0
IsPrefixOfUnion x y written =
    (xs ys zs : List Entry) (r s : List ℕ) → IsLongestArchive ENTRY_MAX x xs r → IsLongestArchive ENTRY_MAX y ys s
    → IsUnion xs ys zs → (more : List ℕ) × (text_of zs ≡ written ++ more)

-- what may follow octets that were read of an input that has this left: nothing behind its end
abbrev pub MayFollow : Option (List ℕ) → List ℕ → Type 0
MayFollow left more = IsAtEnd left → more ≡ []

-- a prefix of the text of the union of the two fronts, whatever follows what was read of two inputs that have these left
abbrev pub IsPrefixOfAnyUnion : Option (List ℕ) → Option (List ℕ) → List ℕ → List ℕ → List ℕ → Type 0
IsPrefixOfAnyUnion left right x y written =
    (more others : List ℕ) → MayFollow left more → MayFollow right others
    → IsPrefixOfUnion (x ++ more) (y ++ others) written

-- and not all of it
abbrev pub IsShortOfAnyUnion : Option (List ℕ) → Option (List ℕ) → List ℕ → List ℕ → List ℕ → Type 0
IsShortOfAnyUnion left right x y written =
    (more others : List ℕ) → MayFollow left more → MayFollow right others → (xs ys zs : List Entry) (r s : List ℕ)
    → IsLongestArchive ENTRY_MAX (x ++ more) xs r → IsLongestArchive ENTRY_MAX (y ++ others) ys s → IsUnion xs ys zs
    → (rest : List ℕ) × (0 < length rest) × (text_of zs ≡ written ++ rest)

-- the text of the members of the two fronts that are not above the greatest of the first; no octets
-- where the first is empty
abbrev pub IsUpToFirst : List ℕ → List ℕ → List ℕ → Type 0
IsUpToFirst x y written =
    (xs ys : List Entry) (r s : List ℕ) → IsLongestArchive ENTRY_MAX x xs r → IsLongestArchive ENTRY_MAX y ys s
    → (ws : List Entry) × IsAscending ws × (written ≡ text_of ws)
    × ((e : Entry) → Has ws e ↔ ((Has xs e ⊎ Has ys e) × IsWithin xs e))

-- no member of the first front is above the greatest of the second
abbrev pub IsFirstWithin : List ℕ → List ℕ → Type 0
IsFirstWithin x y =
    (xs ys : List Entry) (r s : List ℕ) → IsLongestArchive ENTRY_MAX x xs r → IsLongestArchive ENTRY_MAX y ys s
    → (m : Entry) → Has xs m → IsWithin ys m

-- a member of the first front is above all of the second: the contrary of IsFirstWithin
abbrev pub IsFirstAbove : List ℕ → List ℕ → Type 0
IsFirstAbove x y =
    (xs ys : List Entry) (r s : List ℕ) → IsLongestArchive ENTRY_MAX x xs r → IsLongestArchive ENTRY_MAX y ys s
    → (m : Entry) × Has xs m × ((e : Entry) → Has ys e → IsBelow e m)
