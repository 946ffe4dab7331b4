-- What is accepted of a step, and when all is committed.
use Rattle.std.proofs.Common.{◌≡◌, ℕ, true, false, List, [], ◌++◌, inl, inr, refl, sym, ◌∙◌, ap, subst}
use Rattle.std.specs.Prelude.{◌⊎◌, ◌↔◌, ◌==◌, Bool, Option, Some, None, take}
use Rattle.std.proofs.lemmas.Bool.Decides.{eqb_tells}
use Rattle.std.proofs.lemmas.List.{append-nil}
use Rattle.archive_text.specs.Entries.{Entry, Has}
use Rattle.octet_devices.specs.Device.{OutputState}
use Rattle.collect_engine.specs.Receiving.{IfNotMemory, ReceivesAs}
use Rattle.collect_engine.specs.declared.receiving.Received.{Received}
use Rattle.collect_engine.specs.declared.receiving.Received.TheVariants as received
use Rattle.syslog_frame.specs.declared.framing.Framing.{Framing}
use Rattle.syslog_legacy.specs.declared.frame_reading.FrameReading.{FrameReading}
use Rattle.syslog_collect.specs.Collectors.{NoneWaits, reading_of, store_of}
use Rattle.syslog_collect.specs.Frames.{IsReceived}
use Rattle.syslog_collect.specs.History.{AcceptedEvent, Datagram, Ended, History, Opened, Piece}
use Rattle.syslog_collect.specs.Logs.{LogsPart}
use Rattle.syslog_collect.specs.declared.outcome.Outcome.{Outcome}
use Rattle.syslog_collect.proofs.Headline.{holds_received}
use Rattle.socket_source.specs.declared.step.ServerStep.{ServerStep}
use Rattle.serve_engine.specs.Events.{IsAccepted, IsReceivedAs, Manner, Receives, ends_in_bad_count, event_of, loses}
use Rattle.serve_engine.specs.Events.{NoneOf, loses_opening, loses_piece, manner_of, turn_after, turn_of, waits_in}
use Rattle.serve_engine.specs.Intakes.{IsCommitted, StandsBy}
use Rattle.serve_engine.specs.Keepings.{Kept}
use Rattle.serve_engine.specs.Serving.{Accepts, CommitsAll, EndsUnlessFull, FaultsAs, HoldsReceived, IfSettled}
use Rattle.serve_engine.specs.Serving.{IsCommitTurn, IsEventTurn, IsStepTurn, IsTryTurn, ServesEvent, ServesStep}
use Rattle.serve_engine.specs.Serving.{IsToldFull, UnlessMemory, UnlessStopped, asks_commit, is_piece}
use Rattle.serve_engine.specs.declared.counts.ServeCounts.{ServeCounts}
use Rattle.serve_engine.specs.declared.intake.Intake.{Intake}
use Rattle.serve_engine.specs.declared.keeping.KeepFault.{KeepFault}
use Rattle.serve_engine.specs.declared.keeping.KeepFault.TheVariants as keep
use Rattle.serve_engine.specs.declared.serve_end.ServeEnd.{ServeEnd}
use Rattle.serve_engine.specs.declared.serve_end.ServeEnd.TheVariants.{Finished, Source, Disk, Memory, Endless}
use Rattle.serve_engine.specs.declared.turn.Turn.{Turn}
use Rattle.serve_engine.specs.declared.turn.Turn.TheVariants.{On, End}

-- ---- one event

-- what a collector makes of an event is accepted, where its connection is not lost
abbrev pub accepted_own : (way : Manner) (before : List AcceptedEvent) (e : AcceptedEvent) (r : Received)
    (os : List Outcome) (own : List AcceptedEvent) (turn : Turn) (is : IsReceivedAs way before e r os own)
    → loses e r os (waits_in e is.1) ≡ false → turn ≡ turn_of e r (waits_in e is.1)
    → IsAccepted way before e own false turn
accepted_own way before e r os own turn is kept on = record {
  received = r;
  outcomes = os;
  own = own;
  closing = [];
  is = is;
  all = sym (append-nil own);
  lost_as = sym kept;
  ends = (refl, on);
}

-- of a connection that was not opened
abbrev pub accepted_none : (way : Manner) (before : List AcceptedEvent) (c : ℕ) (k : Framing) (r : Received)
    (os : List Outcome) (own : List AcceptedEvent) (turn : Turn) → IsReceivedAs way before (Opened c k) r os own
    → loses_opening r ≡ true → turn ≡ On → IsAccepted way before (Opened c k) own true turn
accepted_none way before c k r os own turn is lost on = record {
  received = r;
  outcomes = os;
  own = own;
  closing = [];
  is = is;
  all = sym (append-nil own);
  lost_as = sym lost;
  ends = (refl, on);
}

-- with the end of a connection that is lost
abbrev pub accepted_closing : (way : Manner) (before : List AcceptedEvent) (c : ℕ) (o : List ℕ) (r : Received)
    (os : List Outcome) (own closing : List AcceptedEvent) (turn : Turn)
    (is : IsReceivedAs way before (Piece c o) r os own)
    → loses_piece r os (is.1 c) ≡ true → Receives way (before ++ own) (Ended c) closing turn → turn ≡ On
    → IsAccepted way before (Piece c o) (own ++ closing) true turn
accepted_closing way before c o r os own closing turn is lost ends on = record {
  received = r;
  outcomes = os;
  own = own;
  closing = closing;
  is = is;
  all = refl;
  lost_as = sym lost;
  ends = (ends, on);
}

-- an opening that is not accepted loses its connection
pub lost_opening : (r : Received) → ¬ (r ≡ received.Accepted) → loses_opening r ≡ true
lost_opening received.Accepted other = absurd (other refl)
lost_opening (received.Unterminated start) other = refl
lost_opening received.Refused other = refl
lost_opening received.Memory other = refl

-- of a piece that was taken, its outcomes tell whether the connection is lost
pub lost_taken : (r : Received) (os : List Outcome) (waits : ℕ) (b : Bool)
    → (r ≡ received.Accepted) ⊎ ((start : ℕ) × (r ≡ received.Unterminated start)) → ends_in_bad_count os ≡ b
    → loses_piece r os waits ≡ b
lost_taken r os waits b (inl is) bad = subst (λ (q : Received). loses_piece q os waits ≡ b) (sym is) bad
lost_taken r os waits b (inr (start, is)) bad = subst (λ (q : Received). loses_piece q os waits ≡ b) (sym is) bad

pub taken_on : (r : Received) (waits : ℕ)
    → (r ≡ received.Accepted) ⊎ ((start : ℕ) × (r ≡ received.Unterminated start)) → On ≡ turn_after r waits
taken_on r waits (inl is) = sym (ap (λ (q : Received). turn_after q waits) is)
taken_on r waits (inr (start, is)) = sym (ap (λ (q : Received). turn_after q waits) is)

-- one that was refused loses it
pub lost_refused : (r : Received) (os : List Outcome) (waits : ℕ) → r ≡ received.Refused → loses_piece r os waits ≡ true
lost_refused r os waits is = ap (λ (q : Received). loses_piece q os waits) is

-- where memory was wanted, the frame that waits tells
pub lost_memory : (r : Received) (os : List Outcome) (waits : ℕ) → r ≡ received.Memory → waits ≡ 0
    → loses_piece r os waits ≡ true
lost_memory r os waits is none =
    subst (λ (q : Received). loses_piece q os waits ≡ true) (sym is) (ap (λ (n : ℕ). n == 0) none)

pub kept_memory : (r : Received) (os : List Outcome) (waits : ℕ) → r ≡ received.Memory → waits ≡ 1
    → loses_piece r os waits ≡ false
kept_memory r os waits is one =
    subst (λ (q : Received). loses_piece q os waits ≡ false) (sym is) (ap (λ (n : ℕ). n == 0) one)

pub ended_memory : (r : Received) (waits : ℕ) → r ≡ received.Memory → waits ≡ 1 → End Memory ≡ turn_after r waits
ended_memory r waits is one = sym (ap (λ (q : Received). turn_after q waits) is ∙ ap (turn_after received.Memory) one)

-- of a datagram no frame waits
pub quiet_datagram : (way : FrameReading) (h : History) (w v : ℕ → ℕ) (o : List ℕ) (r : Received) (os : List Outcome)
    (es : List AcceptedEvent) → NoneOf w → IfNotMemory r (NoneOf v) → ReceivesAs way h w v (Datagram o) r os es → NoneOf v
quiet_datagram way h w v o received.Accepted os es none quiet is = quiet
quiet_datagram way h w v o (received.Unterminated start) os es none quiet is = quiet
quiet_datagram way h w v o received.Refused os es none quiet is = quiet
quiet_datagram way h w v o received.Memory os es none quiet (nothing, empty, same) = λ d. same d ∙ none d

-- nor of a piece, but of its own connection
quiet_part : (way : FrameReading) (h : History) (w v : ℕ → ℕ) (c : ℕ) (o : List ℕ) (a b : List Entry)
    (os : List Outcome) → NoneOf w → v c ≡ 0 → LogsPart way h w v c o a b os → NoneOf v
quiet_part way h w v c o a b os none own (inl (empty, (nothing, kept, same))) d = same d ∙ none d
quiet_part way h w v c o a b os none own (inr (logs, others)) d = elim (eqb_tells c d) [
  | inl (same, eq) ↦ subst (λ (m : ℕ). v m ≡ 0) eq own
  | inr (other, ne) ↦ others d ne ∙ none d
]

pub quiet_memory : (way : FrameReading) (h : History) (w v : ℕ → ℕ) (c : ℕ) (o : List ℕ) (r : Received)
    (os : List Outcome) (es : List AcceptedEvent) → r ≡ received.Memory → NoneOf w → v c ≡ 0
    → ReceivesAs way h w v (Piece c o) r os es → NoneOf v
quiet_memory way h w v c o r os es memory none own is =
    at (subst (λ (q : Received). ReceivesAs way h w v (Piece c o) q os es) memory is)
  where
    at : ReceivesAs way h w v (Piece c o) received.Memory os es → NoneOf v
    at (n, a, b, taken, logs) = quiet_part way h w v c (take n o) a b os none own logs

pub never_memory : (r : Received) (P : Type 0) → P → IfNotMemory r P
never_memory received.Accepted P h = h
never_memory (received.Unterminated start) P h = h
never_memory received.Refused P h = h
never_memory received.Memory P h = tt

pub still_settled : (r : Received) (P : Type 0)
    → (r ≡ received.Accepted) ⊎ ((start : ℕ) × (r ≡ received.Unterminated start)) → IfNotMemory r P → P
still_settled r P (inl is) h = subst (λ (q : Received). IfNotMemory q P) is h
still_settled r P (inr (start, is)) h = subst (λ (q : Received). IfNotMemory q P) is h

-- ---- commits

-- after a tick that goes on, it is told that the disk is full exactly where it is
pub told_full : (full told now : Bool) → IsToldFull full told → (full ≡ false → now ≡ false) → (full ≡ true → now ≡ told) → now ≡ full
told_full true told now is none same = same refl ∙ is refl
told_full false told now is none same = none refl

-- after a fault nothing is said of the commit
pub stopped_fault : (f : KeepFault) (full : Bool) (t : Turn) (P : Type 0) → FaultsAs f full t → UnlessStopped t full P
stopped_fault keep.Full full t P (is, was_full) =
    subst (λ (u : Turn). UnlessStopped u full P) (sym is) (λ room. absurd (cc))
stopped_fault keep.Failed full t P is = subst (λ (u : Turn). UnlessStopped u full P) (sym is) tt
stopped_fault keep.Memory full t P (is, was_full) =
    subst (λ (u : Turn). UnlessStopped u full P) (sym is) (λ room. absurd (cc))

pub fault_turn : (f : KeepFault) (full : Bool) (t : Turn) → FaultsAs f full t → IsCommitTurn t
fault_turn keep.Full full t (is, was_full) = inl is
fault_turn keep.Failed full t is = inr is
fault_turn keep.Memory full t (is, was_full) = inl is

pub unless_map : (t : Turn) (full : Bool) (P Q : Type 0) → UnlessStopped t full P → (P → Q) → UnlessStopped t full Q
unless_map On full P Q h f = λ room. f (h room)
unless_map (End Finished) full P Q h f = f h
unless_map (End (Source fault)) full P Q h f = f h
unless_map (End Disk) full P Q h f = tt
unless_map (End Memory) full P Q h f = tt
unless_map (End Endless) full P Q h f = tt

committed_end : (end : ServeEnd) (full : Bool) (P : Type 0) → P → UnlessStopped (End end) full P
committed_end Finished full P h = h
committed_end (Source fault) full P h = h
committed_end Disk full P h = tt
committed_end Memory full P h = tt
committed_end Endless full P h = tt

pub ended_committed : (full : Bool) (end : ServeEnd) (t : Turn) (P : Type 0) → EndsUnlessFull full end t
    → (full ≡ false → P) → UnlessStopped t full P
ended_committed full end t P (inl (is, was_full)) h = subst (λ (u : Turn). UnlessStopped u full P) (sym is) h
ended_committed full end t P (inr (is, room)) h =
    subst (λ (u : Turn). UnlessStopped u full P) (sym is) (committed_end end full P (h room))

settled_end : (end : ServeEnd) (P : Type 0) → P → UnlessMemory end P
settled_end Finished P h = h
settled_end (Source fault) P h = h
settled_end Disk P h = h
settled_end Memory P h = tt
settled_end Endless P h = h

pub any_settled : (t : Turn) (P : Type 0) → P → IfSettled t P
any_settled On P h = h
any_settled (End end) P h = settled_end end P h

-- ---- a step

pub serves_event : {S K : Type 0} (entries : S → List Entry) (stands : K → Kept → Type 0) (old new : Intake S K)
    (s : ServerStep) (octets : List ℕ) (lost full : Bool) (t : Turn) (was now : OutputState × ServeCounts) (e : AcceptedEvent)
    → event_of s octets ≡ Some e → asks_commit s ≡ false → Accepts entries stands old new e lost t was now
    → ServesStep entries stands old new s octets lost full t was now
serves_event entries stands old new s octets lost full t was now e is none_asked accepts k first before at none =
    let d = accepts k first before at none in (
      k,
      d.0,
      d.1,
      λ x had. had,
      subst (λ (o : Option AcceptedEvent). ServesEvent (manner_of old.collector) before s o d.0 lost t was now) (sym is)
          (d.2, d.3),
      d.4,
      λ asks. absurd (cc),
      λ rests. refl,
    )

pub serves_commit : {S K : Type 0} (entries : S → List Entry) (stands : K → Kept → Type 0) (old new : Intake S K)
    (s : ServerStep) (octets : List ℕ) (full : Bool) (t : Turn) (was now : OutputState × ServeCounts)
    → event_of s octets ≡ None → asks_commit s ≡ true → CommitsAll entries stands old new full t
    → (NoneWaits old.collector → NoneWaits new.collector)
    → ServesStep entries stands old new s octets false full t was now
serves_commit entries stands old new s octets full t was now is asked commits settled k first before at none =
    let d = commits k first before at in (
      d.0,
      [],
      subst (λ (es : List AcceptedEvent). StandsBy entries stands new d.0 first es) (sym (append-nil before)) d.1,
      d.2,
      subst (λ (o : Option AcceptedEvent). ServesEvent (manner_of old.collector) before s o [] false t was now) (sym is)
          (refl, refl, λ asks. absurd (cc)),
      any_settled t (NoneWaits new.collector) (settled none),
      λ asks. d.3,
      λ rests. absurd (cc),
    )

pub serves_nothing : {S K : Type 0} (entries : S → List Entry) (stands : K → Kept → Type 0) (old new : Intake S K)
    (s : ServerStep) (octets : List ℕ) (full : Bool) (t : Turn) (was now : OutputState × ServeCounts)
    → event_of s octets ≡ None → asks_commit s ≡ false → new ≡ old → t ≡ On
    → ServesStep entries stands old new s octets false full t was now
serves_nothing {S = S} {K = K} entries stands old new s octets full t was now is none_asked same on k first before at none = (
  k,
  [],
  subst (λ (i : Intake S K). StandsBy entries stands i k first (before ++ [])) (sym same)
      (subst (λ (es : List AcceptedEvent). StandsBy entries stands old k first es) (sym (append-nil before)) at),
  λ x had. had,
  subst (λ (o : Option AcceptedEvent). ServesEvent (manner_of old.collector) before s o [] false t was now) (sym is)
      (refl, refl, λ none. on),
  any_settled t (NoneWaits new.collector) (subst (λ (i : Intake S K). NoneWaits i.collector) (sym same) none),
  λ asks. absurd (cc),
  λ rests. refl,
)

pub goes_on : (s : ServerStep) (t : Turn) → t ≡ On → IsStepTurn s t
goes_on s t is = subst (IsStepTurn s) (sym is) tt

pub event_step : (s : ServerStep) (t : Turn) → is_piece s ≡ true → IsEventTurn t → IsStepTurn s t
event_step s t came (inl is) = subst (IsStepTurn s) (sym is) tt
event_step s t came (inr is) = subst (IsStepTurn s) (sym is) came

pub commit_step : (s : ServerStep) (t : Turn) → asks_commit s ≡ true → IsCommitTurn t → IsStepTurn s t
commit_step s t asks (inl is) = subst (IsStepTurn s) (sym is) tt
commit_step s t asks (inr is) = subst (IsStepTurn s) (sym is) asks

pub commit_try : (t : Turn) → IsCommitTurn t → IsTryTurn t
commit_try t (inl is) = subst IsTryTurn (sym is) tt
commit_try t (inr is) = subst IsTryTurn (sym is) tt

pub finish_step : (s : ServerStep) (end : ServeEnd) (t : Turn) → asks_commit s ≡ true → IsStepTurn s (End end)
    → IsCommitTurn t ⊎ (t ≡ End end) → IsStepTurn s t
finish_step s end t asks cause (inl commit) = commit_step s t asks commit
finish_step s end t asks cause (inr is) = subst (IsStepTurn s) (sym is) cause

-- what is committed is all that was received
pub committed_all : {S K : Type 0} (entries : S → List Entry) (stands : K → Kept → Type 0) (i : Intake S K) (k : Kept)
    (first : List Entry) (es : List AcceptedEvent) → StandsBy entries stands i k first es → NoneWaits i.collector
    → IsCommitted entries i k → HoldsReceived (reading_of i.collector) k.committed first es
committed_all entries stands i k first es at none c =
    let all : k.held ++ entries (store_of i.collector) ≡ k.committed =
    ap (λ (xs : List Entry). k.held ++ xs) c.fresh ∙ append-nil k.held ∙ sym c.committed in
    λ x. subst (λ (xs : List Entry). Has xs x ↔ (Has first x ⊎ IsReceived (reading_of i.collector) es x)) all
    (holds_received i.collector.reading i.collector.connections (k.held ++ entries (store_of i.collector)) first es
    at.collector none x)
