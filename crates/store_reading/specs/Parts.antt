-- The entries of a day at the beginning of an archive.
use Rattle.std.specs.Prelude.{◌≡◌, ◌≢◌, ℕ, List, [], ◌∷◌, ◌++◌, drop, take}
use Rattle.std.specs.List.{AllByRecursion}
use Rattle.archive_text.specs.Entries.{Entry}
use Rattle.archive_text.specs.Text.{BeginsWithEntry, IsArchive, text_of}
use Rattle.archive_text.specs.declared.limits.TheConstants.{ENTRY_MAX}
use Rattle.store_reading.specs.Days.{IsOf}

-- a text begins with an entry of the day, and so it goes on
abbrev pub BeginsWithDay : List ℕ → List ℕ → List ℕ → Type 0
BeginsWithDay day text behind = (e : Entry) × BeginsWithEntry ENTRY_MAX text e behind × IsOf day e

-- an entry that it begins with is of another day
abbrev pub BeginsApart : List ℕ → List ℕ → Type 0
BeginsApart day text =
    (e : Entry) (behind : List ℕ) → BeginsWithEntry ENTRY_MAX text e behind
    → (other : List ℕ) × IsOf other e × (other ≢ day)

-- the first of these entries, if there is one, is of another day
abbrev pub BeginsElsewhere : List ℕ → List Entry → Type 0
BeginsElsewhere day [] = Unit {0}
BeginsElsewhere day (e ∷ es) = (other : List ℕ) × IsOf other e × (other ≢ day)

-- an archive's text is parted behind its first entries of the day
pub record IsParted (day text : List ℕ) (es : List Entry) (at : ℕ) : Type 0 where
  pub front : List Entry
  pub back : List Entry
  pub parts : es ≡ front ++ back
  pub first : take at text ≡ text_of front
  pub rest : drop at text ≡ text_of back
  pub days : AllByRecursion (IsOf day) front
  pub elsewhere : BeginsElsewhere day back

abbrev pub PartsAt : List ℕ → List ℕ → ℕ → Type 0
PartsAt day text at = (es : List Entry) → IsArchive ENTRY_MAX es → text ≡ text_of es → IsParted day text es at
