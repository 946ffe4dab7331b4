-- The days of a set, and which of them get a segment of their own.
use Rattle.std.specs.Prelude.{◌≡◌, ℕ, ◌+◌, ◌*◌, ◌<◌, ◌≤◌, List, [], ◌∷◌, ◌++◌, length}
use Rattle.std.specs.List.{AllByRecursion}
use Rattle.disk.specs.Calls.{AtMostSyncs}
use Rattle.disk.specs.States.{State}
use Rattle.archive_text.specs.Periods.{IsIn}
use Rattle.archive_text.specs.declared.period.Period.TheVariants.{Day}
use Rattle.archive_pages.specs.Paged.{at_most_all}
use Rattle.archive_text.specs.Entries.{Entry}
use Rattle.archive_text.specs.Text.{text_of}
use Rattle.record_store.specs.Segments.{GrowsBeside}
use Rattle.record_store.specs.declared.segment.TheConstants.{SEGMENT_SYNCS}

-- so many octets are at least a 64th of all
abbrev pub IsShare : ℕ → ℕ → Type 0
IsShare total octets = total ≤ 64 * octets

-- the archive of these entries has so many
abbrev pub HasShare : ℕ → List Entry → Type 0
HasShare total run = IsShare total (length (text_of run))

-- the first of these entries, if there is one, is not of the day
abbrev pub Leaves : List ℕ → List Entry → Type 0
Leaves day [] = Unit {0}
Leaves day (e ∷ es) = ¬ (IsIn Day day e)

-- the first of these entries, up to the rest, are of a day, and all that are
pub record IsDay (these run rest : List Entry) : Type 0 where
  pub day : List ℕ
  pub parts : these ≡ run ++ rest
  pub some : 0 < length run
  pub days : AllByRecursion (IsIn Day day) run
  pub ends : Leaves day rest

-- these entries are those of some days, one behind the other, up to the rest
abbrev pub AreDays : List Entry → List (List Entry) → List Entry → Type 0
AreDays these [] rest = these ≡ rest
AreDays these (run ∷ runs) rest = (behind : List Entry) × IsDay these run behind × AreDays behind runs rest

-- a first entry and those of its day behind it, up to the rest, have so many octets
pub record CountsDay (len : ℕ) (day : List ℕ) (first : Entry) (behind rest : List Entry) : Type 0 where
  pub front : List Entry
  pub parts : behind ≡ front ++ rest
  pub days : AllByRecursion (IsIn Day day) front
  pub ends : Leaves day rest
  pub len_is : len ≡ at_most_all (length (text_of (first ∷ front)))

-- no more segments come than so many octets allow, each of which has at least a 64th of all
pub record GrowsBy (total octets : ℕ) (old new : State) : Type 0 where
  pub count : ℕ
  pub grow : GrowsBeside count old new
  pub shares : count * total ≤ 64 * octets
  pub some : count ≤ octets

-- no more syncs are made than those of as many segments as the octets of these entries, up to the rest, allow, each of
-- which has at least a 64th of all
pub record SyncsAlong (total : ℕ) (these rest : List Entry) (before now : ℕ) : Type 0 where
  pub count : ℕ
  pub most : AtMostSyncs (count * SEGMENT_SYNCS) before now
  pub shares : count * total + 64 * length (text_of rest) ≤ 64 * length (text_of these)
  pub some : count + length (text_of rest) ≤ length (text_of these)
