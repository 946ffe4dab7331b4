-- The entries of an archive in a table, by the words under which they are counted.
use Rattle.std.specs.Prelude.{◌≡◌, ◌≢◌, ℕ, ◌^◌, ◌<◌, ◌≤◌, ◌⊎◌, List, [], ◌∷◌, ◌++◌, Option, None, Some, IsSome, length}
use Rattle.std.specs.BTreeMap.{get_by}
use Rattle.std.specs.Cmp.Lexicographic.{slice_cmp}
use Rattle.std.specs.Ordering.{nat_cmp}
use Rattle.archive_text.specs.Entries.{Entry, Has, IsAscending}
use Rattle.archive_text.specs.Text.{text_of}
use Rattle.archive_sets.specs.Selections.{IsSelection}
use Rattle.archive_counts.specs.Tallies.{IsTallyOf}
use Rattle.archive_counts.specs.Words.{HasText}
use Rattle.archive_counts.specs.declared.key.CountKey.{CountKey}
use Rattle.archive_counts.specs.declared.table.Table.{Table}
use Rattle.archive_counts.specs.declared.tally.Tally.{Tally}

-- the tally under words that are written so
abbrev pub tally_at : Table → List ℕ → Option Tally
tally_at t text = get_by (λ k. slice_cmp nat_cmp text k.items) t.rows

-- the tally of these entries; where there is none, there are no entries
abbrev pub IsTallyAt : Option Tally → List Entry → Type 0
IsTallyAt None es = es ≡ []
IsTallyAt (Some t) es = IsTallyOf t es

-- an entry is added under these words, behind all others
pub record AddsTo (s t : Table) (text : List ℕ) (e : Entry) : Type 0 where
  pub some : IsSome (tally_at t text)
  pub here : (es : List Entry) → IsAscending (es ++ e ∷ []) → length (text_of (es ++ e ∷ [])) < 2 ^ 64
      → IsTallyAt (tally_at s text) es → IsTallyAt (tally_at t text) (es ++ e ∷ [])
  pub others : (other : List ℕ) → other ≢ text → tally_at t other ≡ tally_at s other

-- there is a tally only of some entries, or without keys of all
abbrev pub IsNeeded : List CountKey → List ℕ → List Entry → Type 0
IsNeeded keys text es = (es ≢ []) ⊎ ((keys ≡ []) × (text ≡ []))

-- of the entries those with these words are in this tally
pub record IsRowOf (keys : List CountKey) (xs : List Entry) (text : List ℕ) (t : Option Tally) : Type 0 where
  pub es : List Entry
  pub selection : IsSelection (HasText keys text) xs es
  pub short : length (text_of es) ≤ length (text_of xs)
  pub tally : IsTallyAt t es
  pub needed : IsSome t → IsNeeded keys text es

-- the entry is of a record that has words under these keys
abbrev pub IsWorded : List CountKey → Entry → Type 0
IsWorded keys e = (text : List ℕ) × HasText keys text e

-- the entries by their words; without keys there is a tally even of none
pub record IsTableOf (keys : List CountKey) (t : Table) (xs : List Entry) : Type 0 where
  pub rows : (text : List ℕ) → IsRowOf keys xs text (tally_at t text)
  pub all : (e : Entry) → Has xs e → IsWorded keys e
  pub alone : keys ≡ [] → IsSome (tally_at t [])
