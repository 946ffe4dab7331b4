-- What a server tells in its notes: lines, each written once, and how many of them.
use Rattle.std.specs.Prelude.{◌≡◌, ◌⊎◌, ◌+◌, ◌*◌, ◌≤◌, ℕ, List, [], ◌∷◌, ◌++◌, codes, length, take, Result, Ok, Err}
use Rattle.std.specs.Io.KnownBytes.{Appends}
use Rattle.octet_devices.specs.Device.{OutputState}
use Rattle.syslog_collect.specs.declared.outcome.Outcome.{Outcome}
use Rattle.syslog_collect.specs.declared.outcome.Outcome.TheVariants.{New, Held, Refused, RefusedLegacy, TooLong}
use Rattle.syslog_collect.specs.declared.outcome.Outcome.TheVariants.{BadCount}
use Rattle.syslog_frame.specs.Frames.{IsLine}
use Rattle.serve_engine.specs.Paces.{PaysFor, clock_of, owed_by, owed_by_all}
use Rattle.serve_engine.specs.declared.pace.Pace.{Pace}
use Rattle.serve_engine.specs.declared.pace.TheConstants.{ALL_COST, ALL_MOST, PEER_COST, PEER_MOST}
use Rattle.serve_engine.specs.declared.report.Report.{Report}
use Rattle.serve_engine.specs.declared.limits.TheConstants.{STATUS_LINES}

-- ---- lines

-- octets without a line feed, and one behind them
pub record IsNote (text : List ℕ) : Type 0 where
  pub words : List ℕ
  pub none : IsLine words
  pub ends : text ≡ words ++ codes "\n"

-- an output took a text once, or, where it failed, its first octets, and nothing else
abbrev pub TakesText : List ℕ → OutputState → OutputState → Type 0
TakesText text old new = (sent : ℕ) × Appends old.taken new.taken (take sent text)

-- it took a text that was made, and nothing where none was
abbrev pub TakesMade : {U F : Type 0} → Result U F → List ℕ → OutputState → OutputState → Type 0
TakesMade (Ok u) text old new = TakesText text old new
TakesMade (Err fault) text old new = new ≡ old

-- it took a text, or nothing
abbrev pub TakesSome : List ℕ → OutputState → OutputState → Type 0
TakesSome text old new = (new ≡ old) ⊎ TakesText text old new

-- so it took lines, one behind the other
abbrev pub TakesLines : List (List ℕ) → OutputState → OutputState → Type 0
TakesLines [] old new = new ≡ old
TakesLines (line ∷ lines) old new =
    (mid : OutputState) × IsNote line × TakesText line old mid × TakesLines lines mid new

-- at most so many
abbrev pub TellsFew : ℕ → OutputState → OutputState → Type 0
TellsFew most old new = (lines : List (List ℕ)) × (length lines ≤ most) × TakesLines lines old new

-- ---- the pace of lines on peers

-- So many lines on a peer cost it, and all together, what they do, at one time, and neither owes more than it may.
-- Each other
-- peer owes as before, or nothing.
pub record PaysLines (peer lines : ℕ) (old new : Pace) : Type 0 where
  pub clock : clock_of new ≡ clock_of old
  pub own : owed_by new peer ≡ owed_by old peer + lines * PEER_COST
  pub own_within : (lines ≡ 0) ⊎ (owed_by new peer ≤ PEER_MOST)
  pub all : owed_by_all new ≡ owed_by_all old + lines * ALL_COST
  pub all_within : (lines ≡ 0) ⊎ (owed_by_all new ≤ ALL_MOST)
  pub others : (q : ℕ) → ¬ (q ≡ peer) → (owed_by new q ≡ owed_by old q) ⊎ (owed_by new q ≡ 0)

-- nobody owes more than they may
pub record OwesLittle (pace : Pace) : Type 0 where
  pub peers : (peer : ℕ) → owed_by pace peer ≤ PEER_MOST
  pub all : owed_by_all pace ≤ ALL_MOST

-- ---- both

-- where lines go, and their pace
pub record Told : Type 0 where
  pub output : OutputState
  pub pace : Pace

abbrev pub told_in : {N R : Type 0} → (N → OutputState) → Report N R → Told
told_in state report = record { output = state report.notes; pace = report.pace }

-- at most so many lines on a peer were told, as many as it paid for
pub record TellsOf (peer most : ℕ) (old new : Told) : Type 0 where
  pub lines : ℕ
  pub within : lines ≤ most
  pub few : TellsFew lines old.output new.output
  pub pays : PaysLines peer lines old.pace new.pace

-- how many lines are told of an outcome
abbrev pub line_count : Outcome → ℕ
line_count New = 0
line_count Held = 0
line_count (Refused fault) = 1
line_count (RefusedLegacy offset) = 1
line_count TooLong = 1
line_count (BadCount at) = 1

abbrev pub line_counts : List Outcome → ℕ
line_counts [] = 0
line_counts (o ∷ os) = line_count o + line_counts os

-- ---- turns

-- no time passes, or so much, which pays for lines
abbrev pub Passes : ℕ → Pace → Pace → Type 0
Passes millis old new = (new ≡ old) ⊎ PaysFor old new millis

-- In a turn, while so much time passed, few lines were told on what the server does, and none on a peer; or, at one
-- time, so many
-- on one peer, which were paid for.
abbrev pub TellsLines : ℕ → ℕ → Told → Told → Type 0
TellsLines lines millis old new =
    ((lines ≡ 0) × TellsFew STATUS_LINES old.output new.output × Passes millis old.pace new.pace)
    ⊎ ((millis ≡ 0) × ((peer : ℕ) × TellsFew lines old.output new.output × PaysLines peer lines old.pace new.pace))

abbrev pub TellsTurn : Told → Told → Type 0
TellsTurn old new = (lines : ℕ) × (millis : ℕ) × TellsLines lines millis old new

-- what was told in a turn, and how much time passed
pub record Telling : Type 0 where
  pub lines : ℕ
  pub millis : ℕ

-- turns, one behind the other
abbrev pub TellTurns : List Telling → Told → Told → Type 0
TellTurns [] old new = new ≡ old
TellTurns (t ∷ ts) old new = (mid : Told) × TellsLines t.lines t.millis old mid × TellTurns ts mid new
