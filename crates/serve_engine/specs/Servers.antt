-- What a server does in a turn, and in a run.
use Rattle.std.specs.Prelude.{◌≡◌, ◌⊎◌, ℕ, ◌-◌, ◌<◌, ◌^◌, Bool, true, false, List, [], ◌∷◌, ◌++◌, length}
use Rattle.std.specs.Prelude.{Option, IfNone, is_none, if◌then◌else◌}
use Rattle.archive_text.specs.Entries.{Entry}
use Rattle.octet_devices.specs.Device.{OutputState}
use Rattle.syslog_collect.specs.Collectors.{NoneWaits, reading_of, store_of}
use Rattle.syslog_collect.specs.History.{AcceptedEvent}
use Rattle.socket_source.specs.Steps.{Given, SourceState}
use Rattle.serve_engine.specs.Events.{Manner, manner_of}
use Rattle.serve_engine.specs.Intakes.{StandsBy, waiting_in}
use Rattle.serve_engine.specs.Keepings.{Kept, StaysCommitted}
use Rattle.serve_engine.specs.Notes.{Told, told_in}
use Rattle.serve_engine.specs.Refusals.{outputs_in, KeepsSilent, kept_in}
use Rattle.serve_engine.specs.Serving.{Gave, HoldsReceived, IfCommitted, IfSettled, IsCause, Served, UnlessMemory}
use Rattle.serve_engine.specs.Serving.{UnlessStopped, event_in, is_due, is_over, with_peer_in}
use Rattle.serve_engine.specs.Syncs.{MakesAtMost, turn_syncs}
use Rattle.serve_engine.specs.declared.counts.ServeCounts.{ServeCounts}
use Rattle.serve_engine.specs.declared.intake.Intake.{Intake}
use Rattle.serve_engine.specs.declared.serve_end.ServeEnd.{ServeEnd}
use Rattle.serve_engine.specs.declared.serve_end.ServeEnd.TheVariants.{Finished, Source, Disk, Memory, Endless}
use Rattle.serve_engine.specs.declared.server.Server.{Server}
use Rattle.serve_engine.specs.declared.turn.Turn.{Turn}
use Rattle.serve_engine.specs.declared.turn.Turn.TheVariants.{On, End}

-- its collector and what keeps its records
abbrev pub intake_of : {S K N R : Type 0} → Server S K N R → Intake S K
intake_of server = server.intake

-- what it has counted
abbrev pub counts_of : {S K N R : Type 0} → Server S K N R → ServeCounts
counts_of server = server.report.counts

-- where it writes its lines, and the frames that it refuses
abbrev pub outputs_of : {S K N R : Type 0} → Server S K N R → N × R
outputs_of server = outputs_in server.report

-- what it has told in its notes, and their pace
abbrev pub told_of : {S K N R : Type 0} → (N → OutputState) → Server S K N R → Told
told_of state server = told_in state server.report

-- its disk was full at the last try
abbrev pub is_full : {S K N R : Type 0} → Server S K N R → Bool
is_full server = server.full

-- ---- places

-- what is round an intake: its source, whether the disk was full at the last try, whether memory is short, and the output
-- for refused frames with the counts
pub record Around : Type 0 where
  pub source : SourceState
  pub full : Bool
  pub short : Bool
  pub refusals : OutputState × ServeCounts

-- nothing is read in the next turn
abbrev pub rests : Around → Bool
rests a = if a.full then true else a.short

-- where a server is
pub record Place (S K : Type 0) : Type 0 where
  pub intake : Intake S K
  pub around : Around

abbrev pub place_of : {S K N R : Type 0} → (R → OutputState) → (S → Bool) → Server S K N R → SourceState → Place S K
place_of state short server source = record {
  intake = server.intake;
  around = record {
    source = source;
    full = server.full;
    short = short (store_of server.intake.collector);
    refusals = kept_in state server.report;
  };
}

-- ---- turns

-- what is known of a turn: its step, whether the connection of that is lost, the events that were accepted of it, what
-- was kept then, what was round the intake then, and how it went on
pub record Made : Type 0 where
  pub step : Option Given
  pub lost : Bool
  pub events : List AcceptedEvent
  pub kept : Kept
  pub around : Around
  pub turn : Turn

-- The step of a turn, and whether the connection of that is lost. There is one, unless the disk was full or memory was
-- short, and the source gave it. Where it has no event, no refused frame is kept, and nothing that came is counted but a peer
-- that may not send.
pub record IsGiven (a b : Around) (step : Option Given) (lost : Bool) : Type 0 where
  pub asked : is_none step ≡ rests a
  pub gave : Gave a.source b.source step lost
  pub silent : IfNone (event_in step) (KeepsSilent (is_due step) (with_peer_in step a.refusals) b.refusals)

-- A turn over first entries, behind what was kept and events before it. Its step was served, and what was refused of that
-- is kept. What was committed still is; where a commit is due, what is committed is all that was received, unless the disk
-- is full or it ends; where none is, what is held and committed is as before, and so is whether the disk is full. Where it
-- ends, the step says why; and where the source has finished or failed, it ends, unless the disk is full.
pub record IsTurn (way : Manner) (first : List Entry) (k : Kept) (before : List AcceptedEvent) (a : Around)
    (made : Made) : Type 0 where
  pub given : IsGiven a made.around made.step made.lost
  pub served : Served way before made.step made.events made.lost made.turn a.refusals made.around.refusals
  pub stays : StaysCommitted k made.kept
  pub commits : is_due made.step ≡ true → UnlessStopped made.turn made.around.full
      (HoldsReceived way.reading made.kept.committed first (before ++ made.events))
  pub rests : is_due made.step ≡ false → made.kept ≡ k
  pub fills : is_due made.step ≡ false → made.around.full ≡ a.full
  pub cause : IsCause made.step made.turn
  pub ends : is_over made.step ≡ true → made.turn ≡ On → made.around.full ≡ true

-- an intake stood at first entries and events, where no frame waited; after a turn of this step it stands behind what
-- was accepted in it
pub record DoneTurn {S K : Type 0} (entries : S → List Entry) (stands : K → Kept → Type 0) (turn : Turn)
    (a b : Place S K) (step : Option Given) (lost : Bool) (k : Kept) (first : List Entry)
    (before : List AcceptedEvent) : Type 0 where
  pub events : List AcceptedEvent
  pub kept : Kept
  pub stands_by : StandsBy entries stands b.intake kept first (before ++ events)
  pub is : IsTurn (manner_of a.intake.collector) first k before a.around
      (record { step = step; lost = lost; events = events; kept = kept; around = b.around; turn = turn })
  pub settled : IfSettled turn (NoneWaits b.intake.collector)

-- a turn that goes on so leads from one place to another: wherever the intake stood, the step that was given was served
pub record ServesTurn {S K : Type 0} (entries : S → List Entry) (stands : K → Kept → Type 0) (turn : Turn)
    (a b : Place S K) : Type 0 where
  pub step : Option Given
  pub lost : Bool
  pub given : IsGiven a.around b.around step lost
  pub done : (k : Kept) (first : List Entry) (before : List AcceptedEvent)
      → StandsBy entries stands a.intake k first before → NoneWaits a.intake.collector
      → DoneTurn entries stands turn a b step lost k first before

-- ---- runs, as their turns, the last one first

-- what was kept behind turns, and what was round the intake
abbrev pub kept_after : Kept → List Made → Kept
kept_after k [] = k
kept_after k (m ∷ ms) = m.kept

abbrev pub around_after : Around → List Made → Around
around_after a [] = a
around_after a (m ∷ ms) = m.around

-- their events, the first one first
abbrev pub events_of : List Made → List AcceptedEvent
events_of [] = []
events_of (m ∷ ms) = events_of ms ++ m.events

-- turns, each behind those before it
abbrev pub AreTurns : Manner → List Entry → Kept → List AcceptedEvent → Around → List Made → Type 0
AreTurns way first k before a [] = Unit {0}
AreTurns way first k before a (m ∷ ms) = AreTurns way first k before a ms
    × IsTurn way first (kept_after k ms) (before ++ events_of ms) (around_after a ms) m

-- each goes on
abbrev pub GoOn : List Made → Type 0
GoOn [] = Unit {0}
GoOn (m ∷ ms) = (m.turn ≡ On) × GoOn ms

-- each but the last goes on, and that one ends so
abbrev pub EndsIn : List Made → ServeEnd → Type 0
EndsIn [] end = ⊥
EndsIn (m ∷ ms) end = (m.turn ≡ End end) × GoOn ms

-- how a run ends: in its last turn; or it has as many as there may be; or there is no memory for the first
abbrev pub RunsTo : List Made → ServeEnd → Type 0
RunsTo ms Finished = EndsIn ms Finished
RunsTo ms (Source fault) = EndsIn ms (Source fault)
RunsTo ms Disk = EndsIn ms Disk
RunsTo ms Memory = EndsIn ms Memory ⊎ (ms ≡ [])
RunsTo ms Endless = GoOn ms × (length ms ≡ 2 ^ 64 - 1)

-- An intake stood at first entries and events, where no frame waited. After these turns it stands behind what was
-- accepted in them; what is round it is what the last one left; what was committed still is; where the source finished
-- or failed, what is committed is all that was received.
pub record DoneRun {S K : Type 0} (entries : S → List Entry) (stands : K → Kept → Type 0) (end : ServeEnd)
    (a b : Place S K) (k : Kept) (first : List Entry) (before : List AcceptedEvent) : Type 0 where
  pub made : List Made
  pub stands_by : StandsBy entries stands b.intake (kept_after k made) first (before ++ events_of made)
  pub turns : AreTurns (manner_of a.intake.collector) first k before a.around made
  pub left : b.around ≡ around_after a.around made
  pub stays : StaysCommitted k (kept_after k made)
  pub settled : UnlessMemory end (NoneWaits b.intake.collector)
  pub committed : IfCommitted end (HoldsReceived (reading_of a.intake.collector) (kept_after k made).committed first
      (before ++ events_of made))
  pub ends : RunsTo made end
  pub few : length made < 2 ^ 64

-- ---- runs, as places

-- turns that go on lead there through these places, the last one first
abbrev pub LeadsOn : {S K : Type 0} → (S → List Entry) → (K → Kept → Type 0) → Place S K → List (Place S K) → Place S K
    → Type 0
LeadsOn entries stands a [] b = b ≡ a
LeadsOn entries stands a (p ∷ ps) b = LeadsOn entries stands a ps p × ServesTurn entries stands On p b

-- they lead there through some
abbrev pub LeadsFrom : {S K : Type 0} → (S → List Entry) → (K → Kept → Type 0) → Place S K → Place S K → Type 0
LeadsFrom {S = S} {K = K} entries stands a b = (ps : List (Place S K)) × LeadsOn entries stands a ps b

-- a run that ends so leads there: turns that go on, and one that ends it, or none
abbrev pub LeadsTo : {S K : Type 0} → (S → List Entry) → (K → Kept → Type 0) → ServeEnd → Place S K → Place S K → Type 0
LeadsTo {S = S} {K = K} entries stands end a b = (p : Place S K) × LeadsFrom entries stands a p
    × ((b ≡ p) ⊎ ServesTurn entries stands (End end) p b)

-- ---- runs, with their syncs

-- a turn made at most the syncs of one at whose start so many records waited
abbrev pub SyncsFew : {S K : Type 0} → (S → List Entry) → (K → ℕ) → ℕ → Place S K → Place S K → Type 0
SyncsFew entries syncs most a b =
    MakesAtMost (turn_syncs most (waiting_in entries a.intake)) (syncs a.intake.keeper) (syncs b.intake.keeper)

-- turns that go on lead there through these places, the last one first, and each makes few syncs
abbrev pub SyncsOn : {S K : Type 0} → (S → List Entry) → (K → Kept → Type 0) → (K → ℕ) → ℕ → Place S K
    → List (Place S K) → Place S K → Type 0
SyncsOn entries stands syncs most a [] b = b ≡ a
SyncsOn entries stands syncs most a (p ∷ ps) b = SyncsOn entries stands syncs most a ps p
    × ServesTurn entries stands On p b × SyncsFew entries syncs most p b

-- they lead there through some
abbrev pub SyncsFrom : {S K : Type 0} → (S → List Entry) → (K → Kept → Type 0) → (K → ℕ) → ℕ → Place S K → Place S K
    → Type 0
SyncsFrom {S = S} {K = K} entries stands syncs most a b =
    (ps : List (Place S K)) × SyncsOn entries stands syncs most a ps b

-- a run that ends so leads there: turns that go on, and one that ends it, or none; and each makes few syncs
abbrev pub SyncsTo : {S K : Type 0} → (S → List Entry) → (K → Kept → Type 0) → (K → ℕ) → ℕ → ServeEnd → Place S K
    → Place S K → Type 0
SyncsTo {S = S} {K = K} entries stands syncs most end a b = (p : Place S K)
    × SyncsFrom entries stands syncs most a p
    × ((b ≡ p) ⊎ (ServesTurn entries stands (End end) p b × SyncsFew entries syncs most p b))

-- a run leads there; and wherever its intake stood, it is done
pub record ServesRun {S K : Type 0} (entries : S → List Entry) (stands : K → Kept → Type 0) (end : ServeEnd)
    (a b : Place S K) : Type 0 where
  pub leads : LeadsTo entries stands end a b
  pub done : (k : Kept) (first : List Entry) (before : List AcceptedEvent)
      → StandsBy entries stands a.intake k first before → NoneWaits a.intake.collector
      → DoneRun entries stands end a b k first before
