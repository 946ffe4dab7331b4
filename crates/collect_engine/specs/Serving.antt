-- Which events the steps of a source are served as, and which lines are noted.
use Rattle.std.specs.Prelude.{◌≡◌, ◌⊎◌, ℕ, ◌+◌, ◌-◌, ◌^◌, ◌<◌, ◌≤◌, List, [], ◌∷◌, ◌++◌, length, take, Bool, true, false}
use Rattle.std.specs.Prelude.{Option, Some, None, Result, Ok, Err, ⊤}
use Rattle.syslog_legacy.specs.declared.frame_reading.FrameReading.{FrameReading}
use Rattle.syslog_collect.specs.History.{AcceptedEvent, Opened as event_Opened, Piece as event_Piece}
use Rattle.syslog_collect.specs.History.{Ended as event_Ended, Datagram as event_Datagram, History, history_after}
use Rattle.syslog_collect.specs.declared.outcome.Outcome.{Outcome}
use Rattle.collect_engine.specs.Lines.{Rises, counted, has_some, lines_on}
use Rattle.collect_engine.specs.Receiving.{MayNotCome, ReceivesAs, TakesPartOf}
use Rattle.syslog_frame.specs.declared.limits.TheConstants.{FRAME_MAX}
use Rattle.collect_engine.specs.Steps.{Comes, Given, Opened, Piece, Ended, Datagram, Finished, Failed, SourceState}
use Rattle.collect_engine.specs.Steps.{how_often, says_failed, says_finished}
use Rattle.collect_engine.specs.declared.serving.TheConstants.{SERVE_TURNS}
use Rattle.collect_engine.specs.declared.receiving.Received.{Received}
use Rattle.collect_engine.specs.declared.receiving.Received.TheVariants as received
use Rattle.collect_engine.specs.declared.serve_end.ServeEnd.{ServeEnd}
use Rattle.collect_engine.specs.declared.serve_end.ServeEnd.TheVariants as end
use Rattle.collect_engine.specs.declared.serve_end.Stopped.{Stopped}
use Rattle.collect_engine.specs.declared.serve_end.Stopped.TheVariants as stopped

-- the event of a step, on connection 0
abbrev pub event_of : Given → Option AcceptedEvent
event_of (Opened framing) = Some (event_Opened 0 framing)
event_of (Piece octets) = Some (event_Piece 0 octets)
event_of Ended = Some (event_Ended 0)
event_of (Datagram octets) = Some (event_Datagram octets)
event_of Finished = None
event_of Failed = None

-- ---- one event

-- serving goes on behind the event
abbrev pub GoesOn : Received → Type 0
GoesOn received.Accepted = Unit {0}
GoesOn (received.Unterminated start) = Unit {0}
GoesOn received.Refused = ⊥
GoesOn received.Memory = ⊥

-- an event after a history is accepted as these events, and these are its lines; the number of the next outcome was n,
-- and is m then
abbrev pub ServesEvent : FrameReading → History → (ℕ → ℕ) → (ℕ → ℕ) → ℕ → ℕ → AcceptedEvent → List AcceptedEvent → List ℕ
    → Type 0
ServesEvent way h w v n m e es lines = (r : Received) × (os : List Outcome) × GoesOn r
    × ReceivesAs way h w v e r os es × (lines ≡ lines_on n os r) × (m ≡ counted n os)

-- serving stops at an event: the collector refuses it; or only the first of its lines are noted; or memory runs out in
-- the collector, behind the lines on what was taken, or for lines, and then none are noted
abbrev pub StopsAtEvent : FrameReading → History → (ℕ → ℕ) → (ℕ → ℕ) → ℕ → Stopped → AcceptedEvent → List AcceptedEvent
    → List ℕ → Type 0
StopsAtEvent way h w v n stopped.Step e es lines = (es ≡ []) × (lines ≡ []) × MayNotCome h v e
StopsAtEvent way h w v n stopped.Notes e es lines = (m : ℕ) × (whole : List ℕ) × (k : ℕ)
    × ServesEvent way h w v n m e es whole × (k < length whole) × (lines ≡ take k whole)
StopsAtEvent way h w v n stopped.Memory e es lines = ((os : List Outcome) × TakesPartOf way h w v e os es
    × ((lines ≡ lines_on n os received.Memory) ⊎ (lines ≡ [])))
    ⊎ ((m : ℕ) × (whole : List ℕ) × ServesEvent way h w v n m e es whole × (lines ≡ []))
StopsAtEvent way h w v n stopped.MemoryAndNotes e es lines = (os : List Outcome) × (k : ℕ)
    × TakesPartOf way h w v e os es × (k < length (lines_on n os received.Memory))
    × (lines ≡ take k (lines_on n os received.Memory))
StopsAtEvent way h w v n stopped.Endless e es lines = ⊥

-- by the answer
abbrev pub EventServed : {U : Type 0} → FrameReading → History → (ℕ → ℕ) → (ℕ → ℕ) → ℕ → ℕ → Result U Stopped → AcceptedEvent
    → List AcceptedEvent → List ℕ → Type 0
EventServed way h w v n m (Ok u) e es lines = ServesEvent way h w v n m e es lines
EventServed way h w v n m (Err why) e es lines = StopsAtEvent way h w v n why e es lines

-- where memory did not run out
abbrev pub UnlessMemory : {A : Type 0} → Result A Stopped → Type 0 → Type 0
UnlessMemory (Ok a) P = P
UnlessMemory (Err stopped.Step) P = P
UnlessMemory (Err stopped.Notes) P = P
UnlessMemory (Err stopped.Endless) P = P
UnlessMemory (Err stopped.Memory) P = Unit {0}
UnlessMemory (Err stopped.MemoryAndNotes) P = Unit {0}

-- ---- one step

-- serving stops at a step: the source has failed; or it stops at the step's event
abbrev pub StopsAtStep : FrameReading → History → (ℕ → ℕ) → (ℕ → ℕ) → ℕ → Stopped → Given → List AcceptedEvent → List ℕ
    → Type 0
StopsAtStep way h w v n why g es lines = ((why ≡ stopped.Step) × (g ≡ Failed) × (es ≡ []) × (lines ≡ []))
    ⊎ ((e : AcceptedEvent) × (event_of g ≡ Some e) × StopsAtEvent way h w v n why e es lines)

-- a step is served as its event
abbrev pub ServesStep : FrameReading → History → (ℕ → ℕ) → (ℕ → ℕ) → ℕ → ℕ → Given → List AcceptedEvent → List ℕ → Type 0
ServesStep way h w v n m g es lines =
    (e : AcceptedEvent) × (event_of g ≡ Some e) × ServesEvent way h w v n m e es lines

-- by the answer: whether the step was the end of the source
abbrev pub StepServed : FrameReading → History → (ℕ → ℕ) → (ℕ → ℕ) → ℕ → ℕ → Result Bool Stopped → Given → List AcceptedEvent
    → List ℕ → Type 0
StepServed way h w v n m (Ok true) g es lines =
    (g ≡ Finished) × ((d : ℕ) → v d ≡ w d) × (m ≡ n) × (es ≡ []) × (lines ≡ [])
StepServed way h w v n m (Ok false) g es lines = ServesStep way h w v n m g es lines
StepServed way h w v n m (Err why) g es lines = StopsAtStep way h w v n why g es lines

-- ---- the steps of a source

-- steps are served, one after the other
abbrev pub ServesAll : FrameReading → History → (ℕ → ℕ) → (ℕ → ℕ) → ℕ → ℕ → List Given → List AcceptedEvent → List ℕ → Type 0
ServesAll way h w v n m [] es lines = ((d : ℕ) → v d ≡ w d) × (m ≡ n) × (es ≡ []) × (lines ≡ [])
ServesAll way h w v n m (g ∷ gs) es lines = (u : ℕ → ℕ) × (k : ℕ) × (here : List AcceptedEvent)
    × (later : List AcceptedEvent) × (first : List ℕ) × (rest : List ℕ) × (es ≡ here ++ later) × (lines ≡ first ++ rest)
    × ServesStep way h w u n k g here first × ServesAll way (history_after h here) u v k m gs later rest

-- the first steps of those to come
abbrev pub AreFirst : (ℕ → Given) → List Given → Type 0
AreFirst coming [] = Unit {0}
AreFirst coming (g ∷ gs) = (coming 0 ≡ g) × AreFirst (λ k. coming (k + 1)) gs

-- of known steps to come these are the first, and the others are still to come
abbrev pub Come : Option (ℕ → Given) → Option (ℕ → Given) → List Given → Type 0
Come None new gs = ⊤
Come (Some old) None gs = ⊥
Come (Some old) (Some new) gs = AreFirst old gs × ((k : ℕ) → new k ≡ old (k + length gs))

-- a source gave one step, by its counts and by what it reports, into a slice of this length
pub record GaveNext (old new : SourceState) (room : ℕ) (g : Given) : Type 0 where
  pub counted : old.steps < 2 ^ 64 - 1 → new.steps ≡ old.steps + 1
  pub failures : old.failures < 2 ^ 64 - 1 → new.failures ≡ old.failures + says_failed g
  pub finishes : old.finishes < 2 ^ 64 - 1 → new.finishes ≡ old.finishes + says_finished g
  pub comes : old.steps < 2 ^ 64 - 1 → FRAME_MAX < room → Comes old.coming new.coming g

-- a source gave these steps, and no others: so its counts say, and what it reports. They are no more than are asked for
pub record GaveSteps (old new : SourceState) (gs : List Given) : Type 0 where
  pub few : length gs ≤ SERVE_TURNS
  pub counted : old.steps < 2 ^ 63 → new.steps ≡ old.steps + length gs
  pub failures : old.failures < 2 ^ 63 → new.failures ≡ old.failures + how_often says_failed gs
  pub finishes : old.finishes < 2 ^ 63 → new.finishes ≡ old.finishes + how_often says_finished gs
  pub come : old.steps < 2 ^ 63 → Come old.coming new.coming gs

-- ---- how serving ends, after these steps

-- all were served up to the end of the source; refused tells whether a line was noted
abbrev pub ServesToEnd : FrameReading → History → (ℕ → ℕ) → (ℕ → ℕ) → Bool → List Given → List AcceptedEvent → List ℕ → Type 0
ServesToEnd way h w v refused gs es lines = (steps : List Given) × (m : ℕ) × (gs ≡ steps ++ Finished ∷ [])
    × ServesAll way h w v 1 m steps es lines × (refused ≡ has_some lines)

-- all were served, and they are as many as are asked for
abbrev pub ServesTurns : FrameReading → History → (ℕ → ℕ) → (ℕ → ℕ) → List Given → List AcceptedEvent → List ℕ → Type 0
ServesTurns way h w v gs es lines =
    (m : ℕ) × (length gs ≡ SERVE_TURNS) × ServesAll way h w v 1 m gs es lines

-- serving stops at the last of them
abbrev pub StopsAfter : FrameReading → History → (ℕ → ℕ) → (ℕ → ℕ) → Stopped → List Given → List AcceptedEvent → List ℕ
    → Type 0
StopsAfter way h w v why gs es lines = (steps : List Given) × (g : Given) × (u : ℕ → ℕ) × (k : ℕ)
    × (here : List AcceptedEvent) × (later : List AcceptedEvent) × (first : List ℕ) × (rest : List ℕ)
    × (gs ≡ steps ++ g ∷ []) × (es ≡ here ++ later) × (lines ≡ first ++ rest)
    × ServesAll way h w u 1 k steps here first × StopsAtStep way (history_after h here) u v k why g later rest

-- memory runs out before the first step, or at the last
abbrev pub EndsInMemory : FrameReading → History → (ℕ → ℕ) → (ℕ → ℕ) → List Given → List AcceptedEvent → List ℕ → Type 0
EndsInMemory way h w v gs es lines = ((gs ≡ []) × (es ≡ []) × (lines ≡ []))
    ⊎ StopsAfter way h w v stopped.Memory gs es lines

abbrev pub StepsServed : FrameReading → History → (ℕ → ℕ) → (ℕ → ℕ) → Result Bool Stopped → List Given → List AcceptedEvent
    → List ℕ → Type 0
StepsServed way h w v (Ok refused) gs es lines = ServesToEnd way h w v refused gs es lines
StepsServed way h w v (Err stopped.Step) gs es lines = StopsAfter way h w v stopped.Step gs es lines
StepsServed way h w v (Err stopped.Notes) gs es lines = StopsAfter way h w v stopped.Notes gs es lines
StepsServed way h w v (Err stopped.Endless) gs es lines = ServesTurns way h w v gs es lines
StepsServed way h w v (Err stopped.Memory) gs es lines = EndsInMemory way h w v gs es lines
StepsServed way h w v (Err stopped.MemoryAndNotes) gs es lines =
    StopsAfter way h w v stopped.MemoryAndNotes gs es lines

-- the same, as serving answers, with the failures of the notes before and after
abbrev pub ServesTo : FrameReading → History → (ℕ → ℕ) → (ℕ → ℕ) → ServeEnd → ℕ → ℕ → List Given → List AcceptedEvent → List ℕ
    → Type 0
ServesTo way h w v (end.Done refused) was now gs es lines =
    ServesToEnd way h w v refused gs es lines × (now ≡ was)
ServesTo way h w v end.Failed was now gs es lines = (StopsAfter way h w v stopped.Step gs es lines × (now ≡ was))
    ⊎ (StopsAfter way h w v stopped.Notes gs es lines × Rises was now)
ServesTo way h w v end.Endless was now gs es lines = ServesTurns way h w v gs es lines × (now ≡ was)
ServesTo way h w v end.Memory was now gs es lines = (EndsInMemory way h w v gs es lines × (now ≡ was))
    ⊎ (StopsAfter way h w v stopped.MemoryAndNotes gs es lines × Rises was now)

-- where memory did not run out
abbrev pub IfEnough : ServeEnd → Type 0 → Type 0
IfEnough (end.Done refused) P = P
IfEnough end.Failed P = P
IfEnough end.Endless P = P
IfEnough end.Memory P = Unit {0}
