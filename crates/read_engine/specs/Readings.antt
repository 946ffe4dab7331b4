-- What `read` of a store does.
use Rattle.std.specs.Prelude.{◌≡◌, ◌↔◌, ℕ, ℤ, List, [], Option, Some, Bool, ◌||◌, Result, Ok, Err, MatchResult, IfErr, OnOk}
use Rattle.disk.specs.States.{Files}
use Rattle.driver.specs.Sessions.{Meaning}
use Rattle.driver.specs.declared.stopped.Stopped.{Stopped as Reason}
use Rattle.archive_text.specs.Entries.{Entry, IsEntry}
use Rattle.archive_sets.specs.Conditions.{IsInRange}
use Rattle.archive_sets.specs.Together.{IsOneOf, MeetsAll}
use Rattle.archive_sets.specs.declared.conditions.Conditions.{Conditions}
use Rattle.archive_sets.specs.declared.conditions.Times.{Times}
use Rattle.archive_sets.specs.declared.range.InRange.{InRange}
use Rattle.session_output.specs.Runs.{Ends, Leaves, Outputs}
use Rattle.store_reading.specs.Causes.{IsCause, reading_causes}
use Rattle.store_reading.specs.Sets.{WritesPart, WritesSet}
use Rattle.store_reading.specs.Whole.{IsWholeIn}
use Rattle.store_reading.specs.declared.fault.ReadFault.{ReadFault}

-- the instants of a range are these times
abbrev pub IsRangeOf : Times → InRange → Type 0
IsRangeOf times range = (i : Option ℤ) → IsInRange range.from range.to range.undated i ↔ IsOneOf times i

-- a frame is a record, in its canonical form, that meets conditions
abbrev pub IsWanted : Conditions → List ℕ → Type 0
IsWanted c frame = (e : Entry) × IsEntry e × (e.octets ≡ frame) × MeetsAll c e

-- a store was read, and gave the archive of the range, or a prefix of it where the reading failed. Nothing damaged is
-- passed over, and a fault has a cause
pub record HasRead (tells failed : Type 0) (files : Files) (range : InRange) (reading : Result (Unit {0}) ReadFault)
    (given : List ℕ) : Type 0
  where
    pub archive : tells → MatchResult reading (λ _. WritesSet files range (Some []) (Some given))
        (λ _. WritesPart files range (Some []) (Some given))
    pub whole : OnOk reading (tells → IsWholeIn files range)
    pub cause : IfErr reading (IsCause (reading_causes tells failed files range))

-- a session was given that, and it was ended; or left where the reading failed
pub record ReadsInto (M : Meaning) (tells failed : Type 0) (files : Files) (range : InRange) (old new : Outputs)
    (reading : Result (Unit {0}) ReadFault) (writing : Result Bool Reason) : Type 0
  where
    pub given : List ℕ
    pub read : HasRead tells failed files range reading given
    pub writes : MatchResult reading (λ _. Ends M old new given writing) (λ _. Leaves M old new given writing)

-- so a store was read into a session, whose output is this text
pub record GivesText (M : Meaning) (tells failed : Type 0) (files : Files) (range : InRange)
    (reading : Result (Unit {0}) ReadFault) (writing : Result Bool Reason) (text : List ℕ) : Type 0
  where
    pub from : Outputs
    pub to : Outputs
    pub from_is : from.output.taken ≡ Some []
    pub to_is : to.output.taken ≡ Some text
    pub reads : ReadsInto M tells failed files range from to reading writing

-- what became of two sessions of which the first wrote to the second: what stopped the second one stopped the first
abbrev pub both_of : Result Bool Reason → Result Bool Reason → Result Bool Reason
both_of first (Err stop) = Err stop
both_of (Err stop) (Ok b) = Err stop
both_of (Ok a) (Ok b) = Ok (a || b)

-- the second one was ended, or left where its text is no whole one
abbrev pub WritesOn : Meaning → Outputs → Outputs → List ℕ → Result (Unit {0}) ReadFault → Result Bool Reason
    → Result Bool Reason → Type 0
WritesOn M old new text (Ok done) (Ok refused) formed = Ends M old new text formed
WritesOn M old new text (Ok done) (Err stop) formed = Leaves M old new text formed
WritesOn M old new text (Err fault) chosen formed = Leaves M old new text formed

-- a store was read into a session, its output was given to a second one, and what comes of that was written
pub record ReadsThrough (M Then : Meaning) (tells failed : Type 0) (files : Files) (range : InRange) (old new : Outputs)
    (reading : Result (Unit {0}) ReadFault) (writing : Result Bool Reason) : Type 0
  where
    pub text : List ℕ
    pub chosen : Result Bool Reason
    pub formed : Result Bool Reason
    pub gives : GivesText M tells failed files range reading chosen text
    pub writes : WritesOn Then old new text reading chosen formed
    pub both : writing ≡ both_of chosen formed
