-- The segments that lines list.
use Rattle.std.specs.Prelude.{◌≡◌, ◌≢◌, ℕ, ◌+◌, true, false, if◌then◌else◌, List, [], ◌∷◌, Option, None, Some, unwrap_or}
use Rattle.std.specs.BTreeMap.{get_by}
use Rattle.std.specs.Cmp.Lexicographic.{slice_cmp}
use Rattle.std.specs.Ordering.{nat_cmp}
use Rattle.std.specs.Str.{bytes_eq}
use Rattle.ledger.specs.Lines.{Said}
use Rattle.ledger.specs.declared.entry.Event.{Event}
use Rattle.ledger.specs.declared.entry.Event.TheVariants.{Gone, Sealed}
use Rattle.ledger.specs.declared.entry.Removal.TheVariants.{Joined as JoinedInto, Expired}
use Rattle.ledger.specs.declared.standing.Listed.{Listed}
use Rattle.ledger.specs.declared.standing.Standing.{Standing}

-- what is listed of the segment with a name
abbrev pub listed_at : Standing → List ℕ → Option Listed
listed_at t name = get_by (λ k. slice_cmp nat_cmp name k.items) t.segments

-- what a line lists of a segment of which nothing is listed
abbrev pub listed_by : ℕ → Said → Listed
listed_by number s = record { count = s.count; octets = s.octets; line = number; sealed = false }

-- what is listed of a segment behind a line on it. It expired; or it was joined into another, and is gone if it was not
-- sealed; or this line lists it, and it is sealed if it was; or it is sealed, and stays what it was, or is what this line
-- lists if it was not listed
abbrev pub behind_event : Event → Option Listed → Listed → Option Listed
behind_event (Gone Expired) before fresh = None
behind_event (Gone (JoinedInto line)) before fresh = if (unwrap_or before fresh).sealed then before else None
behind_event (Sealed root) before fresh = Some (record (unwrap_or before fresh) { sealed = true })
behind_event event before fresh = Some (record fresh { sealed = (unwrap_or before fresh).sealed })

abbrev pub behind_line : Option Listed → ℕ → Said → Option Listed
behind_line before number s = behind_event s.event before (listed_by number s)

-- what is listed of a segment behind lines that say this, the first of which has this number
abbrev pub standing_from : List ℕ → Option Listed → ℕ → List Said → Option Listed
standing_from name before number [] = before
standing_from name before number (s ∷ ss) =
    standing_from name (if bytes_eq name s.name then behind_line before number s else before) (number + 1) ss

-- what a ledger lists of a segment
abbrev pub standing : List ℕ → List Said → Option Listed
standing name ss = standing_from name None 1 ss

-- the segments that a ledger lists
abbrev pub IsStandingOf : Standing → List Said → Type 0
IsStandingOf t ss = (name : List ℕ) → listed_at t name ≡ standing name ss

-- what a line says of one segment, and the others stay
pub record TakesLine (old new : Standing) (number : ℕ) (s : Said) : Type 0 where
  pub here : listed_at new s.name ≡ behind_line (listed_at old s.name) number s
  pub others : (other : List ℕ) → other ≢ s.name → listed_at new other ≡ listed_at old other

-- the same segments
abbrev pub ListsSame : Standing → Standing → Type 0
ListsSame old new = (name : List ℕ) → listed_at new name ≡ listed_at old name
