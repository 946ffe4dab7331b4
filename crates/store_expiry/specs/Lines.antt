-- The lines of segments that go.
use Rattle.std.specs.Prelude.{◌≡◌, ◌⊎◌, ℕ, List, [], ◌∷◌, ◌++◌, Option, Contains, MatchResult, Result}
use Rattle.std.specs.Prelude.{map, take}
use Rattle.std.specs.List.{AllByRecursion, flat_map}
use Rattle.std.specs.Io.KnownBytes.{Appends}
use Rattle.disk.specs.States.{Files, State}
use Rattle.archive_text.specs.Entries.{Entry}
use Rattle.archive_digest.specs.Digests.{line_of}
use Rattle.record_store.specs.Names.{IsSegment}
use Rattle.store_upkeep.specs.Compaction.{shown}
use Rattle.store_expiry.specs.Expiry.{IsClear, StaysAt}
use Rattle.store_expiry.specs.Surveys.{IsSegmentFile, SomeExpired}
use Rattle.store_expiry.specs.declared.expired.Expired.{Expired}

-- a line was written, or a part of it
abbrev pub Tells : {A E : Type 0} → Option (List ℕ) → Option (List ℕ) → List ℕ → Result A E → Type 0
Tells before after line r =
    MatchResult r (λ _. Appends before after line) (λ _. (n : ℕ) × Appends before after (take n line))

-- a segment that is told
pub record Told : Type 0 where
  pub name : List ℕ
  pub period : List ℕ
  pub entries : List Entry

-- PERIOD COUNT OCTETS SHA256
abbrev pub told_line : Told → List ℕ
told_line t = line_of t.period t.entries

abbrev pub told_lines : List Told → List ℕ
told_lines ts = flat_map told_line ts

abbrev pub told_names : List Told → List (List ℕ)
told_names ts = map (λ (t : Told). t.name) ts

-- it is whole, and has an expired record
pub record IsToldOf (x : Expired) (files : Files) (t : Told) : Type 0 where
  pub is_file : IsSegmentFile files t.name t.period t.entries
  pub some : SomeExpired x t.entries

-- nothing, or a part of the line of one that is whole and has an expired record
abbrev pub IsPart : Expired → Files → List ℕ → Type 0
IsPart x files part =
    (part ≡ []) ⊎ ((t : Told) × IsToldOf x files t × ((n : ℕ) × (part ≡ take n (told_line t))))

-- each name of a list is there once
abbrev pub AreApart : List (List ℕ) → Type 0
AreApart [] = Unit {0}
AreApart (name ∷ names) = ¬ (Contains names name) × AreApart names

-- Lines were written of whole segments that have an expired record, one of each, and something behind them; each
-- segment is among them, or it is the same, or there is one still and it had nothing that is expired.
pub record Writes (x : Expired) (old new : State) (before after : Option (List ℕ)) (behind : List ℕ) : Type 0 where
  pub told : List Told
  pub once : AreApart (told_names told)
  pub each : AllByRecursion (IsToldOf x (shown old)) told
  pub lines : Appends before after (told_lines told ++ behind)
  pub stay : (period name : List ℕ) → IsSegment period name
      → Contains (told_names told) name ⊎ StaysAt x old new name

-- they are of some names, and each of these has its line, or nothing that is expired
pub record WritesAll (x : Expired) (old new : State) (before after : Option (List ℕ)) (P : List ℕ → Type 0)
    : Type 0 where
  pub writes : Writes x old new before after []
  pub only : (name : List ℕ) → Contains (told_names writes.told) name → P name
  pub all : (period name : List ℕ) → IsSegment period name → P name
      → Contains (told_names writes.told) name ⊎ IsClear x (shown old) name

-- at a fault a part of one more line may be behind those of some of the names
pub record WritesPart (x : Expired) (old new : State) (before after : Option (List ℕ)) (P : List ℕ → Type 0)
    : Type 0 where
  pub behind : List ℕ
  pub part : IsPart x (shown old) behind
  pub writes : Writes x old new before after behind
  pub only : (name : List ℕ) → Contains (told_names writes.told) name → P name

-- of some names each has its line; at a fault a part of one more line may be behind some of these
abbrev pub WritesLines : {A E : Type 0} → Expired → State → State → Option (List ℕ) → Option (List ℕ)
    → (List ℕ → Type 0) → Result A E → Type 0
WritesLines x old new before after P r =
    MatchResult r (λ _. WritesAll x old new before after P) (λ _. WritesPart x old new before after P)
