-- What the entries of an archive have under some keys, as lines.
use Rattle.std.specs.Prelude.{◌≡◌, ◌≢◌, ℕ, ℤ, ◌<◌, ◌⊎◌, List, [], ◌∷◌, Option, None, Some, length, take}
use Rattle.std.specs.List.{AllByRecursion}
use Rattle.syslog_value.specs.Order.{OctetsBelow}
use Rattle.archive_text.specs.Entries.{Entry, Has}
use Rattle.archive_text.specs.Text.{text_of}
use Rattle.archive_sets.specs.Selections.{IsSelection}
use Rattle.archive_counts.specs.Tallies.{IsEarliest, IsLatest}
use Rattle.archive_counts.specs.Words.{HasWords}
use Rattle.archive_counts.specs.declared.key.CountKey.{CountKey}
use Rattle.archive_counts.specs.declared.order.LineOrder.{LineOrder}
use Rattle.archive_counts.specs.declared.order.LineOrder.TheVariants.{MostFirst, ByWords}

-- what a line tells: words, the entries that have them, and their earliest and latest instants
pub record Line : Type 0 where
  pub words : List (List ℕ)
  pub entries : List Entry
  pub first : Option ℤ
  pub last : Option ℤ

-- how many records there are, and how many octets their archive has
abbrev pub count_of : Line → ℕ
count_of l = length l.entries

abbrev pub octets_of : Line → ℕ
octets_of l = length (text_of l.entries)

-- a line has a word for each key, and tells of all entries that have these words
pub record IsLineOf (keys : List CountKey) (xs : List Entry) (l : Line) : Type 0 where
  pub size : length l.words ≡ length keys
  pub selection : IsSelection (HasWords keys l.words) xs l.entries
  pub first : IsEarliest l.entries l.first
  pub last : IsLatest l.entries l.last

-- some line tells of the entry
abbrev pub IsToldOf : List Line → Entry → Type 0
IsToldOf [] e = ⊥
IsToldOf (l ∷ ls) e = Has l.entries e ⊎ IsToldOf ls e

-- the octets of the first words that differ decide
abbrev pub AreWordsBelow : List (List ℕ) → List (List ℕ) → Type 0
AreWordsBelow ws [] = ⊥
AreWordsBelow [] (v ∷ vs) = Unit {0}
AreWordsBelow (w ∷ ws) (v ∷ vs) = OctetsBelow w v ⊎ ((w ≡ v) × AreWordsBelow ws vs)

-- more records first, and of as many by the words; or by these alone
abbrev pub IsAhead : LineOrder → Line → Line → Type 0
IsAhead MostFirst l m = (count_of m < count_of l) ⊎ ((count_of l ≡ count_of m) × AreWordsBelow l.words m.words)
IsAhead ByWords l m = AreWordsBelow l.words m.words

-- each line comes before all that follow it
abbrev pub AreRanked : LineOrder → List Line → Type 0
AreRanked order [] = Unit {0}
AreRanked order (l ∷ ls) = AllByRecursion (IsAhead order l) ls × AreRanked order ls

-- a line for each of the words that entries have; without keys one line, even of no entries
pub record AreLinesOf (keys : List CountKey) (order : LineOrder) (xs : List Entry) (ls : List Line) : Type 0 where
  pub each : AllByRecursion (IsLineOf keys xs) ls
  pub all : (e : Entry) → Has xs e → IsToldOf ls e
  pub some : keys ≢ [] → AllByRecursion (λ l. l.entries ≢ []) ls
  pub alone : keys ≡ [] → ls ≢ []
  pub ranked : AreRanked order ls

-- the first items, at most so many
abbrev pub first_of : {X : Type 0} → Option ℕ → List X → List X
first_of None xs = xs
first_of (Some n) xs = take n xs
