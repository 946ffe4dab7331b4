-- What a run over one event does.
use denote.Bor.{Bor}
use Rattle.std.proofs.Common.{◌≡◌, ℕ, ◌+◌, ◌<◌, ◌≤◌, zero, suc, List, [], ◌∷◌, ◌++◌, length, take, refl, sym, ◌∙◌}
use Rattle.std.proofs.Common.{ap, subst, inl, inr, arith}
use Rattle.std.specs.Prelude.{◌⊎◌, IsSomeAnd, Some, None, Option}
use Rattle.std.proofs.lemmas.Bool.Decides.{eqb_tells}
use Rattle.std.proofs.lemmas.List.{append-nil, take_all}
use Rattle.archive_text.specs.Entries.{Entry}
use Rattle.syslog_frame.specs.declared.framing.Framing.{Framing}
use Rattle.syslog_frame.specs.declared.limits.TheConstants.{POSITION_MAX}
use Rattle.syslog_legacy.specs.declared.frame_reading.FrameReading.{FrameReading}
use Rattle.syslog_collect.specs.Headline.{IsSettled}
use Rattle.syslog_collect.specs.History.{AcceptedEvent, Datagram, Ended, History, HoldsBadCount, Opened, Piece, Stream}
use Rattle.syslog_collect.specs.History.{history_of, stream_of}
use Rattle.syslog_collect.specs.Logs.{Grows, IsLogOf, LogsEvent, LogsPart, LogsPiece, LogsRefused, LogsRun, waiting}
use Rattle.syslog_collect.specs.Observers.{HearsPiece}
use Rattle.syslog_collect.specs.Runs.{accepted_event, accepted_part, accepted_refused_end, accepted_run}
use Rattle.syslog_collect.specs.Runs.{nonempty_piece}
use Rattle.syslog_collect.specs.Standing.{Stands}
use Rattle.syslog_collect.specs.Stops.{EndsWell, IsPieceCause, StopsAs, StopsAt, StopsPieceAt}
use Rattle.syslog_collect.specs.declared.connections.Connections.{Connections}
use Rattle.syslog_collect.specs.declared.limits.TheConstants.{CONNECTIONS_MAX}
use Rattle.syslog_collect.specs.declared.event.Event.{Event}
use Rattle.syslog_collect.specs.declared.event.Event.TheVariants.{Opened as event_Opened, Piece as event_Piece}
use Rattle.syslog_collect.specs.declared.event.Event.TheVariants.{Ended as event_Ended, Datagram as event_Datagram}
use Rattle.syslog_collect.specs.declared.event.EventEnd.TheVariants.{Done as end_Done, Stopped as end_Stopped}
use Rattle.syslog_collect.specs.declared.event.RunEnd.TheVariants.{Stopped}
use Rattle.syslog_collect.specs.declared.fault.CollectFault.{CollectFault}
use Rattle.syslog_collect.specs.declared.fault.CollectFault.TheVariants.{AlreadyOpen, TooManyOpen, NotOpen, ConnFailed}
use Rattle.syslog_collect.specs.declared.fault.CollectFault.TheVariants.{StreamTooLong, Unreleased, Unterminated}
use Rattle.syslog_collect.specs.declared.fault.CollectFault.TheVariants.{Memory}
use Rattle.syslog_collect.specs.declared.outcome.Outcome.{Outcome}
use Rattle.collect_engine.specs.Receiving.{HearsReceived, IfNotMemory, IfRefused, IsWholeEnd, MayNotOpen, ReceivesAs}
use Rattle.collect_engine.specs.Receiving.{TakesPartOf, kept_outcomes, received_as}
use Rattle.collect_engine.specs.declared.receiving.Received.{Received}
use Rattle.collect_engine.specs.declared.receiving.Received.TheVariants as received
use Rattle.collect_engine.proofs.Settled.{broken_quiet, part_quiet}

-- ---- an event that was accepted

whole_end : (h : History) (e : Event) → EndsWell h e → IsWholeEnd h (accepted_event e)
whole_end h (event_Opened c k) x = tt
whole_end h (event_Piece c o) x = tt
whole_end h (event_Ended c) x = x
whole_end h (event_Datagram o) x = tt

pub done_as : (way : FrameReading) (h : History) (w v : ℕ → ℕ) (e : Event) (old new : List Entry) (os log : List Outcome)
    → Grows (IsLogOf way h w (accepted_event e ∷ []) v old new) log os → log ≡ [] → EndsWell h e
    → ReceivesAs way h w v (accepted_event e) received.Accepted os (accepted_event e ∷ [])
done_as way h w v e old new os log (grown, grows, (here, later, mid, is, logs, (none, same, waits))) empty ends =
    let whole : here ≡ os = sym (grows ∙ ap (λ (z : List Outcome). z ++ grown) empty ∙ is
    ∙ ap (λ (z : List Outcome). here ++ z) none ∙ append-nil here) in
    inl (
      refl,
      (old, mid, subst (λ (z : List Outcome). LogsEvent way h w (accepted_event e) old mid z) whole logs),
      waits,
      whole_end h e ends,
    )

-- ---- an event that was refused

-- a run over one event stops at it
pub part_of_one : (e : Event) (at n : ℕ) (fault : CollectFault) → at < 1
    → accepted_run (e ∷ []) (Stopped at n fault) ≡ accepted_part e n fault
part_of_one e zero n fault less = refl
part_of_one e (suc at) n fault less = absurd (omega arith)

pub stops_at_one : (limit : ℕ) (way : FrameReading) (h : History) (v : ℕ → ℕ) (e : Event) (at n : ℕ) (fault : CollectFault)
    → StopsAs limit way h v (e ∷ []) (Stopped at n fault) → StopsAt limit way h v e n fault
stops_at_one limit way h v e zero n fault (less, stops) = stops
stops_at_one limit way h v e (suc at) n fault (less, stops) = absurd (omega (arith, less))

-- what was logged of it, with nothing before
pub logs_of_one : (way : FrameReading) (h : History) (w v : ℕ → ℕ) (e : Event) (at n : ℕ) (fault : CollectFault)
    (a b : List Entry) (os : List Outcome) → at < 1 → LogsRun way h w v (e ∷ []) (Stopped at n fault) a b os
    → (u : ℕ → ℕ) × (between : List Entry) × (later : List Outcome) × ((d : ℕ) → u d ≡ w d)
    × LogsRefused way h u v e n between b later × (os ≡ later)
logs_of_one way h w v e zero n fault a b os less (u, here, later, mid, is, (none, same, waits), logs) =
    (u, mid, later, waits, logs, is ∙ ap (λ (z : List Outcome). z ++ later) none)
logs_of_one way h w v e (suc at) n fault a b os less logs = absurd (omega (arith, less))

some_map : {A : Type 0} (o : Option A) (P Q : A → Type 0) → ((x : A) → P x → Q x) → IsSomeAnd o P → IsSomeAnd o Q
some_map None P Q f h = absurd h
some_map (Some x) P Q f h = f x h

some_fact : {A : Type 0} (o : Option A) (P : A → Type 0) (C : Type 0) → ((x : A) → P x → C) → IsSomeAnd o P → C
some_fact None P C f h = absurd h
some_fact (Some x) P C f h = f x h

-- of a piece that is refused for another cause than memory nothing was taken
none_taken : (limit : ℕ) (way : FrameReading) (h : History) (v : ℕ → ℕ) (c n : ℕ) (o : Bor (List ℕ)) (fault : CollectFault)
    → StopsAt limit way h v (event_Piece c o) n fault → IfNotMemory (received_as fault) (n ≡ 0)
none_taken limit way h v c n o (Memory m) stops = tt
none_taken limit way h v c n o NotOpen (few, inl e) = absurd (cc)
none_taken limit way h v c n o NotOpen (few, inr is) = is.1
none_taken limit way h v c n o ConnFailed (few, inl e) = absurd (cc)
none_taken limit way h v c n o ConnFailed (few, inr is) =
    some_fact (stream_of c h.streams) (IsPieceCause way o.now n (v c) ConnFailed) (n ≡ 0) (λ s k. k.1) is
none_taken limit way h v c n o StreamTooLong (few, inl e) = absurd (cc)
none_taken limit way h v c n o StreamTooLong (few, inr is) =
    some_fact (stream_of c h.streams) (IsPieceCause way o.now n (v c) StreamTooLong) (n ≡ 0) (λ s k. k.1) is
none_taken limit way h v c n o AlreadyOpen (few, inl e) = absurd (cc)
none_taken limit way h v c n o AlreadyOpen (few, inr is) = absurd is
none_taken limit way h v c n o TooManyOpen (few, inl e) = absurd (cc)
none_taken limit way h v c n o TooManyOpen (few, inr is) = absurd is
none_taken limit way h v c n o Unreleased (few, inl e) = absurd (cc)
none_taken limit way h v c n o Unreleased (few, inr is) = absurd is
none_taken limit way h v c n o (Unterminated start) (few, inl e) = absurd (cc)
none_taken limit way h v c n o (Unterminated start) (few, inr is) = absurd is

if_not_memory : (r : Received) (P Q : Type 0) → (P → Q) → IfNotMemory r P → IfNotMemory r Q
if_not_memory received.Accepted P Q f h = f h
if_not_memory (received.Unterminated start) P Q f h = f h
if_not_memory received.Refused P Q f h = f h
if_not_memory received.Memory P Q f h = tt

not_memory : (r : Received) (P : Type 0) → P → IfNotMemory r P
not_memory received.Accepted P h = h
not_memory (received.Unterminated start) P h = h
not_memory received.Refused P h = h
not_memory received.Memory P h = tt

same_waits : (way : FrameReading) (h : History) (u v : ℕ → ℕ) (c : ℕ) (o : Bor (List ℕ)) (n : ℕ) (a b : List Entry)
    (os : List Outcome) → n ≡ 0 → LogsPart way h u v c (take n o.now) a b os
    → (v c ≤ u c) × ((d : ℕ) → ¬ (c ≡ d) → v d ≡ u d)
same_waits way h u v c o n a b os none logs =
    part_quiet way h u v c a b os (subst (λ (k : ℕ). LogsPart way h u v c (take k o.now) a b os) none logs)

each_less : (u v : ℕ → ℕ) (c : ℕ) → (v c ≤ u c) × ((d : ℕ) → ¬ (c ≡ d) → v d ≡ u d) → (d : ℕ) → v d ≤ u d
each_less u v c (less, others) d = elim (eqb_tells c d) [
  | inl (same, eq) ↦ subst (λ (m : ℕ). v m ≤ u m) eq less
  | inr (other, ne) ↦ omega (arith, others d ne)
]

each_same : (u v : ℕ → ℕ) (c : ℕ) → u c ≡ 0 → (v c ≤ u c) × ((d : ℕ) → ¬ (c ≡ d) → v d ≡ u d) → (d : ℕ)
    → v d ≡ u d
each_same u v c none (less, others) d = elim (eqb_tells c d) [
  | inl (same, eq) ↦ subst (λ (m : ℕ). v m ≡ u m) eq (omega (arith, none, less))
  | inr (other, ne) ↦ others d ne
]

-- so no more frames wait than before
less_waits : (limit : ℕ) (way : FrameReading) (h : History) (u v : ℕ → ℕ) (e : Event) (n : ℕ) (fault : CollectFault) (a b : List Entry)
    (os : List Outcome) → StopsAt limit way h v e n fault → LogsRefused way h u v e n a b os
    → IfNotMemory (received_as fault) ((d : ℕ) → v d ≤ u d)
less_waits limit way h u v (event_Opened c k) n fault a b os stops (none, same, is) =
    not_memory (received_as fault) _ (λ d. omega (arith, is d))
less_waits limit way h u v (event_Piece c o) n fault a b os stops logs =
    if_not_memory (received_as fault) (n ≡ 0) ((d : ℕ) → v d ≤ u d)
    (λ none. each_less u v c (same_waits way h u v c o n a b os none logs)) (none_taken limit way h v c n o fault stops)
less_waits limit way h u v (event_Ended c) n fault a b os stops (none, same, is) =
    not_memory (received_as fault) _ (λ d. omega (arith, is d))
less_waits limit way h u v (event_Datagram o) n fault a b os stops (none, same, is) =
    not_memory (received_as fault) _ (λ d. omega (arith, is d))

none_left : (a b c : ℕ) → a ≤ b → b ≡ c → c ≡ 0 → a ≡ 0
none_left a b c x y z = omega arith

pub refused_settled : (limit : ℕ) (way : FrameReading) (cs ds : Connections) (h : History) (e : Event) (at n : ℕ)
    (fault : CollectFault) (a b : List Entry) (log os : List Outcome)
    → IsSettled cs → StopsAs limit way h (waiting ds) (e ∷ []) (Stopped at n fault)
    → Grows (LogsRun way h (waiting cs) (waiting ds) (e ∷ []) (Stopped at n fault) a b) log os
    → IfNotMemory (received_as fault) (IsSettled ds)
refused_settled limit way cs ds h e at n fault a b log os settled stops (grown, grows, logs) =
    let (u, mid, later, same, one, all) =
    logs_of_one way h (waiting cs) (waiting ds) e at n fault a b grown stops.0 logs in
    if_not_memory (received_as fault) ((d : ℕ) → waiting ds d ≤ u d) (IsSettled ds)
    (λ less d. none_left (waiting ds d) (u d) (waiting cs d) (less d) (same d) (settled d))
    (less_waits limit way h u (waiting ds) e n fault mid b later
    (stops_at_one limit way h (waiting ds) e at n fault stops) one)

-- ---- what is made of a refusal

pub memory_part : (way : FrameReading) (h : History) (w u v : ℕ → ℕ) (e : Event) (n m : ℕ) (a b : List Entry)
    (os : List Outcome) → ((d : ℕ) → u d ≡ w d) → LogsRefused way h u v e n a b os
    → TakesPartOf way h w v (accepted_event e) os (accepted_part e n (Memory m))
memory_part way h w u v (event_Opened c k) n m a b os same (none, kept, is) = (refl, none, λ d. is d ∙ same d)
memory_part way h w u v (event_Piece c o) n m a b os same logs =
    let all : u ≡ w = λ i d. same d i in
    (n, a, b, refl, subst (λ (f : ℕ → ℕ). LogsPart way h f v c (take n o.now) a b os) all logs)
memory_part way h w u v (event_Ended c) n m a b os same (none, kept, is) = (refl, none, λ d. is d ∙ same d)
memory_part way h w u v (event_Datagram o) n m a b os same (none, kept, is) = (refl, none, λ d. is d ∙ same d)

nothing_of : (c n : ℕ) (o : Bor (List ℕ)) → n ≡ 0 → nonempty_piece c (take n o.now) ≡ []
nothing_of c n o none = ap (λ (k : ℕ). nonempty_piece c (take k o.now)) none

piece_as : (limit : ℕ) (way : FrameReading) (h : History) (w u v : ℕ → ℕ) (c n : ℕ) (o : Bor (List ℕ)) (fault : CollectFault)
    (a b : List Entry) (os : List Outcome) → ((d : ℕ) → u d ≡ w d)
    → LogsPart way h u v c (take n o.now) a b os → StopsAt limit way h v (event_Piece c o) n fault
    → (IsSomeAnd (stream_of c h.streams) HoldsBadCount → w c ≡ 0)
    → ReceivesAs way h w v (Piece c o.now) (received_as fault) (kept_outcomes fault os)
    (nonempty_piece c (take n o.now))
piece_as limit way h w u v c n o (Memory m) a b os same logs stops quiet =
    memory_part way h w u v (event_Piece c o) n m a b os same logs
piece_as limit way h w u v c n o NotOpen a b os same logs (few, inl e) quiet = absurd (cc)
piece_as limit way h w u v c n o NotOpen a b os same logs (few, inr is) quiet =
    (nothing_of c n o is.1, refl, inl is.0)
piece_as limit way h w u v c n o ConnFailed a b os same logs (few, inl e) quiet = absurd (cc)
piece_as limit way h w u v c n o ConnFailed a b os same logs (few, inr is) quiet =
    let none =
    some_fact (stream_of c h.streams) (IsPieceCause way o.now n (v c) ConnFailed) (n ≡ 0) (λ s k. k.1) is in
    let bad = some_map (stream_of c h.streams) (IsPieceCause way o.now n (v c) ConnFailed) HoldsBadCount (λ s k. k.0)
    is in
    inr (
      nothing_of c n o none,
      refl,
      λ d. each_same u v c (same c ∙ quiet bad) (same_waits way h u v c o n a b os none logs) d ∙ same d,
      bad,
    )
piece_as limit way h w u v c n o StreamTooLong a b os same logs (few, inl e) quiet = absurd (cc)
piece_as limit way h w u v c n o StreamTooLong a b os same logs (few, inr is) quiet =
    let none = some_fact (stream_of c h.streams) (IsPieceCause way o.now n (v c) StreamTooLong) (n ≡ 0) (λ s k. k.1)
    is in (
      nothing_of c n o none,
      refl,
      inr (some_map (stream_of c h.streams) (IsPieceCause way o.now n (v c) StreamTooLong)
          (λ s. ¬ (HoldsBadCount s) × (POSITION_MAX < length s.octets + length o.now)) (λ s k. k.0) is),
    )
piece_as limit way h w u v c n o AlreadyOpen a b os same logs (few, inl e) quiet = absurd (cc)
piece_as limit way h w u v c n o AlreadyOpen a b os same logs (few, inr is) quiet = absurd is
piece_as limit way h w u v c n o TooManyOpen a b os same logs (few, inl e) quiet = absurd (cc)
piece_as limit way h w u v c n o TooManyOpen a b os same logs (few, inr is) quiet = absurd is
piece_as limit way h w u v c n o Unreleased a b os same logs (few, inl e) quiet = absurd (cc)
piece_as limit way h w u v c n o Unreleased a b os same logs (few, inr is) quiet = absurd is
piece_as limit way h w u v c n o (Unterminated start) a b os same logs (few, inl e) quiet = absurd (cc)
piece_as limit way h w u v c n o (Unterminated start) a b os same logs (few, inr is) quiet = absurd is

opened_as : (limit : ℕ) (way : FrameReading) (h : History) (w v : ℕ → ℕ) (c n : ℕ) (k : Framing) (fault : CollectFault)
    (os : List Outcome) → CONNECTIONS_MAX ≤ limit → os ≡ [] → ((d : ℕ) → v d ≡ w d)
    → StopsAt limit way h v (event_Opened c k) n fault → ReceivesAs way h w v (Opened c k) (received_as fault) (kept_outcomes fault os) []
opened_as limit way h w v c n k (Memory m) os many none same stops = (refl, none, same)
opened_as limit way h w v c n k AlreadyOpen os many none same (few, inl e) = absurd (cc)
opened_as limit way h w v c n k AlreadyOpen os many none same (few, inr is) = (refl, refl, inl is)
opened_as limit way h w v c n k TooManyOpen os many none same (few, inl e) = absurd (cc)
opened_as limit way h w v c n k TooManyOpen os many none same (few, inr is) =
    let full : CONNECTIONS_MAX ≤ length h.streams = omega (arith, many, is.1) in (refl, refl, inr full)
opened_as limit way h w v c n k NotOpen os many none same (few, inl e) = absurd (cc)
opened_as limit way h w v c n k NotOpen os many none same (few, inr is) = absurd is
opened_as limit way h w v c n k ConnFailed os many none same (few, inl e) = absurd (cc)
opened_as limit way h w v c n k ConnFailed os many none same (few, inr is) = absurd is
opened_as limit way h w v c n k StreamTooLong os many none same (few, inl e) = absurd (cc)
opened_as limit way h w v c n k StreamTooLong os many none same (few, inr is) = absurd is
opened_as limit way h w v c n k Unreleased os many none same (few, inl e) = absurd (cc)
opened_as limit way h w v c n k Unreleased os many none same (few, inr is) = absurd is
opened_as limit way h w v c n k (Unterminated start) os many none same (few, inl e) = absurd (cc)
opened_as limit way h w v c n k (Unterminated start) os many none same (few, inr is) = absurd is

ended_as : (limit : ℕ) (way : FrameReading) (h : History) (w v : ℕ → ℕ) (c n : ℕ) (fault : CollectFault) (os : List Outcome) → os ≡ []
    → ((d : ℕ) → v d ≡ w d) → StopsAt limit way h v (event_Ended c) n fault
    → ReceivesAs way h w v (Ended c) (received_as fault) (kept_outcomes fault os) (accepted_refused_end c fault)
ended_as limit way h w v c n (Memory m) os none same stops = (refl, none, same)
ended_as limit way h w v c n (Unterminated start) os none same (few, inl e) = absurd (cc)
ended_as limit way h w v c n (Unterminated start) os none same (few, inr is) = (refl, refl, same, is.0)
ended_as limit way h w v c n NotOpen os none same (few, inl e) = absurd (cc)
ended_as limit way h w v c n NotOpen os none same (few, inr is) = (refl, refl, inl is.0)
ended_as limit way h w v c n Unreleased os none same (few, inl e) = absurd (cc)
ended_as limit way h w v c n Unreleased os none same (few, inr is) = (refl, refl, inr is.1)
ended_as limit way h w v c n AlreadyOpen os none same (few, inl e) = absurd (cc)
ended_as limit way h w v c n AlreadyOpen os none same (few, inr is) = absurd is.0
ended_as limit way h w v c n TooManyOpen os none same (few, inl e) = absurd (cc)
ended_as limit way h w v c n TooManyOpen os none same (few, inr is) = absurd is.0
ended_as limit way h w v c n ConnFailed os none same (few, inl e) = absurd (cc)
ended_as limit way h w v c n ConnFailed os none same (few, inr is) = absurd is.0
ended_as limit way h w v c n StreamTooLong os none same (few, inl e) = absurd (cc)
ended_as limit way h w v c n StreamTooLong os none same (few, inr is) = absurd is.0

datagram_as : (limit : ℕ) (way : FrameReading) (h : History) (w v : ℕ → ℕ) (n : ℕ) (o : Bor (List ℕ)) (fault : CollectFault)
    (os : List Outcome) → os ≡ [] → ((d : ℕ) → v d ≡ w d) → StopsAt limit way h v (event_Datagram o) n fault
    → ReceivesAs way h w v (Datagram o.now) (received_as fault) (kept_outcomes fault os) []
datagram_as limit way h w v n o (Memory m) os none same stops = (refl, none, same)
datagram_as limit way h w v n o AlreadyOpen os none same (few, inl e) = absurd (cc)
datagram_as limit way h w v n o AlreadyOpen os none same (few, inr is) = let e = is.0 in absurd (cc)
datagram_as limit way h w v n o TooManyOpen os none same (few, inl e) = absurd (cc)
datagram_as limit way h w v n o TooManyOpen os none same (few, inr is) = let e = is.0 in absurd (cc)
datagram_as limit way h w v n o NotOpen os none same (few, inl e) = absurd (cc)
datagram_as limit way h w v n o NotOpen os none same (few, inr is) = let e = is.0 in absurd (cc)
datagram_as limit way h w v n o ConnFailed os none same (few, inl e) = absurd (cc)
datagram_as limit way h w v n o ConnFailed os none same (few, inr is) = let e = is.0 in absurd (cc)
datagram_as limit way h w v n o StreamTooLong os none same (few, inl e) = absurd (cc)
datagram_as limit way h w v n o StreamTooLong os none same (few, inr is) = let e = is.0 in absurd (cc)
datagram_as limit way h w v n o Unreleased os none same (few, inl e) = absurd (cc)
datagram_as limit way h w v n o Unreleased os none same (few, inr is) = let e = is.0 in absurd (cc)
datagram_as limit way h w v n o (Unterminated start) os none same (few, inl e) = absurd (cc)
datagram_as limit way h w v n o (Unterminated start) os none same (few, inr is) = let e = is.0 in absurd (cc)

event_as : (limit : ℕ) (way : FrameReading) (h : History) (w u v : ℕ → ℕ) (e : Event) (n : ℕ) (fault : CollectFault) (a b : List Entry)
    (os : List Outcome) → CONNECTIONS_MAX ≤ limit → ((d : ℕ) → u d ≡ w d) → LogsRefused way h u v e n a b os
    → StopsAt limit way h v e n fault
    → ((c : ℕ) → IsSomeAnd (stream_of c h.streams) HoldsBadCount → w c ≡ 0)
    → ReceivesAs way h w v (accepted_event e) (received_as fault) (kept_outcomes fault os) (accepted_part e n fault)
event_as limit way h w u v (event_Opened c k) n fault a b os many same (none, kept, is) stops quiet =
    opened_as limit way h w v c n k fault os many none (λ d. is d ∙ same d) stops
event_as limit way h w u v (event_Piece c o) n fault a b os many same logs stops quiet =
    piece_as limit way h w u v c n o fault a b os same logs stops (quiet c)
event_as limit way h w u v (event_Ended c) n fault a b os many same (none, kept, is) stops quiet =
    ended_as limit way h w v c n fault os none (λ d. is d ∙ same d) stops
event_as limit way h w u v (event_Datagram o) n fault a b os many same (none, kept, is) stops quiet =
    datagram_as limit way h w v n o fault os none (λ d. is d ∙ same d) stops

pub stopped_as : (limit : ℕ) (way : FrameReading) (cs : Connections) (v : ℕ → ℕ) (kept first : List Entry) (es : List AcceptedEvent)
    (e : Event) (at n : ℕ) (fault : CollectFault) (a b : List Entry) (log os : List Outcome)
    → CONNECTIONS_MAX ≤ limit → Stands way cs kept first es → StopsAs limit way (history_of es) v (e ∷ []) (Stopped at n fault)
    → Grows (LogsRun way (history_of es) (waiting cs) v (e ∷ []) (Stopped at n fault) a b) log os → log ≡ []
    → ReceivesAs way (history_of es) (waiting cs) v (accepted_event e) (received_as fault) (kept_outcomes fault os)
    (accepted_run (e ∷ []) (Stopped at n fault))
stopped_as limit way cs v kept first es e at n fault a b log os many was stops (grown, grows, logs) empty =
    let h = history_of es in
    let (u, mid, later, same, one, all) = logs_of_one way h (waiting cs) v e at n fault a b grown stops.0 logs in
    let whole : later ≡ os = sym (grows ∙ ap (λ (z : List Outcome). z ++ grown) empty ∙ all) in
    subst (λ (fs : List AcceptedEvent). ReceivesAs way h (waiting cs) v (accepted_event e)
    (received_as fault) (kept_outcomes fault os) fs) (sym (part_of_one e at n fault stops.0))
    (subst (λ (z : List Outcome). ReceivesAs way h (waiting cs) v (accepted_event e) (received_as fault)
    (kept_outcomes fault z) (accepted_part e n fault)) whole
    (event_as limit way h (waiting cs) u v e n fault mid b later many same one
    (stops_at_one limit way h v e at n fault stops)
    (λ c bad. broken_quiet way c cs kept first es was bad)))

-- ---- where an opening is refused

pub nothing_said : (r : Received) → IfRefused r (Unit {0})
nothing_said received.Accepted = tt
nothing_said (received.Unterminated start) = tt
nothing_said received.Refused = tt
nothing_said received.Memory = tt

opening_refused : (limit : ℕ) (way : FrameReading) (h : History) (v : ℕ → ℕ) (c n : ℕ) (k : Framing) (fault : CollectFault)
    → StopsAt limit way h v (event_Opened c k) n fault
    → IfRefused (received_as fault) (MayNotOpen limit h (Opened c k))
opening_refused limit way h v c n k (Memory m) stops = tt
opening_refused limit way h v c n k ConnFailed stops = tt
opening_refused limit way h v c n k (Unterminated start) stops = tt
opening_refused limit way h v c n k AlreadyOpen (few, inl e) = absurd (cc)
opening_refused limit way h v c n k AlreadyOpen (few, inr is) = inl is
opening_refused limit way h v c n k TooManyOpen (few, inl e) = absurd (cc)
opening_refused limit way h v c n k TooManyOpen (few, inr is) = inr is.1
opening_refused limit way h v c n k NotOpen (few, inl e) = absurd (cc)
opening_refused limit way h v c n k NotOpen (few, inr is) = absurd is
opening_refused limit way h v c n k StreamTooLong (few, inl e) = absurd (cc)
opening_refused limit way h v c n k StreamTooLong (few, inr is) = absurd is
opening_refused limit way h v c n k Unreleased (few, inl e) = absurd (cc)
opening_refused limit way h v c n k Unreleased (few, inr is) = absurd is

event_refused : (limit : ℕ) (way : FrameReading) (h : History) (v : ℕ → ℕ) (e : Event) (n : ℕ) (fault : CollectFault)
    → StopsAt limit way h v e n fault → IfRefused (received_as fault) (MayNotOpen limit h (accepted_event e))
event_refused limit way h v (event_Opened c k) n fault stops = opening_refused limit way h v c n k fault stops
event_refused limit way h v (event_Piece c o) n fault stops = nothing_said (received_as fault)
event_refused limit way h v (event_Ended c) n fault stops = nothing_said (received_as fault)
event_refused limit way h v (event_Datagram o) n fault stops = nothing_said (received_as fault)

pub refused_at : (limit : ℕ) (way : FrameReading) (h : History) (v : ℕ → ℕ) (e : Event) (at n : ℕ) (fault : CollectFault)
    (r : Received) → r ≡ received_as fault → StopsAs limit way h v (e ∷ []) (Stopped at n fault)
    → IfRefused r (MayNotOpen limit h (accepted_event e))
refused_at limit way h v e at n fault r is stops =
    subst (λ (q : Received). IfRefused q (MayNotOpen limit h (accepted_event e))) (sym is)
    (event_refused limit way h v e n fault (stops_at_one limit way h v e at n fault stops))

-- ---- a piece by itself

whole_log : (l m os : List Outcome) → m ≡ l ++ os → l ≡ [] → os ≡ m
whole_log l m os log empty = sym (log ∙ ap (λ (z : List Outcome). z ++ os) empty)

pub piece_done : (way : FrameReading) (h : History) (w v : ℕ → ℕ) (c : ℕ) (o : Bor (List ℕ)) (a b : List Entry)
    (l m : List Outcome) → Grows (LogsPiece way h w v c o.now end_Done a b) l m → l ≡ []
    → ReceivesAs way h w v (Piece c o.now) received.Accepted m (Piece c o.now ∷ [])
piece_done way h w v c o a b l m (os, log, (logs, waits)) empty = inl (
  refl,
  (
    a,
    b,
    subst (λ (z : List Outcome). LogsEvent way h w (Piece c o.now) a b z) (whole_log l m os log empty) logs,
  ),
  waits,
  tt,
)

pub piece_stopped : (limit : ℕ) (way : FrameReading) (cs : Connections) (v : ℕ → ℕ) (kept first : List Entry)
    (es : List AcceptedEvent) (c n : ℕ) (o : Bor (List ℕ)) (fault : CollectFault) (a b : List Entry)
    (l m : List Outcome) → Stands way cs kept first es → n ≤ length o.now
    → StopsPieceAt way c o.now n (v c) fault (history_of es)
    → Grows (LogsPiece way (history_of es) (waiting cs) v c o.now (end_Stopped n fault) a b) l m → l ≡ []
    → ReceivesAs way (history_of es) (waiting cs) v (Piece c o.now) (received_as fault) (kept_outcomes fault m)
    (nonempty_piece c (take n o.now))
piece_stopped limit way cs v kept first es c n o fault a b l m was within cause (os, log, logs) empty =
    let h = history_of es in
    subst (λ (z : List Outcome). ReceivesAs way h (waiting cs) v (Piece c o.now) (received_as fault)
    (kept_outcomes fault z) (nonempty_piece c (take n o.now))) (whole_log l m os log empty)
    (piece_as limit way h (waiting cs) (waiting cs) v c n o fault a b os (λ d. refl) logs (within, cause)
    (λ bad. broken_quiet way c cs kept first es was bad))

pub piece_settled : (limit : ℕ) (way : FrameReading) (cs ds : Connections) (h : History) (c n : ℕ) (o : Bor (List ℕ))
    (fault : CollectFault) (a b : List Entry) (l m : List Outcome) → IsSettled cs → n ≤ length o.now
    → StopsPieceAt way c o.now n (waiting ds c) fault h
    → Grows (LogsPiece way h (waiting cs) (waiting ds) c o.now (end_Stopped n fault) a b) l m
    → IfNotMemory (received_as fault) (IsSettled ds)
piece_settled limit way cs ds h c n o fault a b l m settled within cause (os, log, logs) =
    refused_settled limit way cs ds h (event_Piece c o) 0 n fault a b l m settled (omega arith, (within, cause))
    (os, log, (waiting cs, [], os, a, refl, (refl, refl, λ d. refl), logs))

pub hears_done : {O : Type 0} (t : O → Outcome → Option (List ℕ) → O → Type 0) (q : Option Stream) (o : List ℕ)
    (waited waits : ℕ) (l m : List Outcome) (x y : O) → l ≡ [] → HearsPiece t q o waited waits l m x y
    → HearsReceived t q o waited waits m x y
hears_done t q o waited waits l m x y empty hears = (
  length o,
  m,
  subst (λ (z : List Outcome). HearsPiece t q (take (length o) o) waited waits z m x y) empty
      (subst (λ (u : List ℕ). HearsPiece t q u waited waits l m x y) (sym (take_all (length o) o (omega arith))) hears),
  inl refl,
)

kept_or_none : (fault : CollectFault) (m : List Outcome) → (kept_outcomes fault m ≡ m) ⊎ (kept_outcomes fault m ≡ [])
kept_or_none (Memory n) m = inl refl
kept_or_none ConnFailed m = inr refl
kept_or_none (Unterminated start) m = inr refl
kept_or_none AlreadyOpen m = inr refl
kept_or_none TooManyOpen m = inr refl
kept_or_none NotOpen m = inr refl
kept_or_none StreamTooLong m = inr refl
kept_or_none Unreleased m = inr refl

pub hears_stopped : {O : Type 0} (t : O → Outcome → Option (List ℕ) → O → Type 0) (q : Option Stream) (o : List ℕ)
    (waited waits n : ℕ) (fault : CollectFault) (l m : List Outcome) (x y : O) → l ≡ []
    → HearsPiece t q (take n o) waited waits l m x y → HearsReceived t q o waited waits (kept_outcomes fault m) x y
hears_stopped t q o waited waits n fault l m x y empty hears = (
  n,
  m,
  subst (λ (z : List Outcome). HearsPiece t q (take n o) waited waits z m x y) empty hears,
  kept_or_none fault m,
)
