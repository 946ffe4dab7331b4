-- What calls do to the connection of a number, and so to all.
use Rattle.std.proofs.Common.{◌≡◌, ℕ, zero, suc, ◌+◌, ◌<◌, true, false, cond, List, [], ◌∷◌, ◌++◌, length, get_or}
use Rattle.std.proofs.Common.{set as set_at, eqb, refl, sym, ◌∙◌, ap, subst, arith, inl, inr}
use Rattle.std.specs.Prelude.{Option, Some, None, Result, Ok, Err, IfOk, IfSome, OnErr, OnOk, IsSome, IsSomeAnd}
use Rattle.std.specs.List.{remove}
use Rattle.std.proofs.lemmas.Bool.{eqb-true}
use Rattle.std.proofs.lemmas.Bool.Decides.{eqb_tells}
use Rattle.std.proofs.lemmas.List.{length-append, length-set}
use Rattle.syslog_frame.specs.declared.framing.Framing.{Framing}
use Rattle.syslog_frame.specs.declared.limits.TheConstants.{FRAME_MAX}
use Rattle.syslog_frame.specs.Frames.{Frames}
use Rattle.syslog_frame.specs.Reads.{Reads}
use Rattle.syslog_frame.specs.Scan.{HasFrame, HasReady, IsFailed, IsReading, Scan}
use Rattle.archive_text.specs.Entries.{Entry}
use Rattle.syslog_legacy.specs.declared.frame_reading.FrameReading.{FrameReading}
use Rattle.syslog_collect.specs.declared.connection.Connection.{Connection}
use Rattle.syslog_collect.specs.declared.connections.Connections.{Connections}
use Rattle.syslog_collect.specs.declared.event.EventEnd.{EventEnd}
use Rattle.syslog_collect.specs.declared.fault.Advance.{Advance}
use Rattle.syslog_collect.specs.declared.fault.CollectFault.{CollectFault}
use Rattle.syslog_collect.specs.declared.fault.CollectFault.TheVariants.{AlreadyOpen, TooManyOpen, NotOpen, ConnFailed}
use Rattle.syslog_collect.specs.declared.fault.CollectFault.TheVariants.{StreamTooLong, Unreleased, Unterminated}
use Rattle.syslog_collect.specs.declared.fault.CollectFault.TheVariants.{Memory}
use Rattle.syslog_collect.specs.declared.limits.TheConstants.{CONNECTIONS_LIMIT}
use Rattle.syslog_collect.specs.declared.outcome.Outcome.{Outcome}
use Rattle.syslog_collect.specs.Answers.{AdvancesBy, EndsWhole, IfMemory, IfRefused, IsAnswerAt, IsCause, IsTaken}
use Rattle.syslog_collect.specs.Answers.{IsUnfinished, IsUsedWithin, accepted_datagram, accepted_octets, accepted_piece}
use Rattle.syslog_collect.specs.Answers.{answered, used_octets}
use Rattle.syslog_collect.specs.History.{AcceptedEvent, Ended, History, HoldsBadCount, Opened, Stream, history_of}
use Rattle.syslog_collect.specs.History.{initial, stream_of}
use Rattle.syslog_collect.specs.Logs.{Grows, LogsPiece, Reports, ready_count, ready_in, waiting, waiting_then}
use Rattle.syslog_collect.specs.Numbers.{Becomes, Closes, KeepsAll, Opens, connection_in, count_in}
use Rattle.syslog_collect.specs.Outcomes.{IsOutcome, outcomes_of}
use Rattle.syslog_collect.specs.Runs.{IfDone, Logs, LogsAdvance, accepted_piece_end, piece_octets}
use Rattle.syslog_collect.specs.Standing.{AreAt, IsAt, Stands, connection_of}
use Rattle.syslog_collect.specs.Stops.{IfStopped, StopsPiece, StopsPieceAt}
use Rattle.syslog_collect.proofs.EventRuns as events
use Rattle.syslog_collect.proofs.Logging as logging
use Rattle.syslog_collect.proofs.Ordered.{by_number, in_order, waiting_in, waits_in_order}
use Rattle.syslog_collect.proofs.Places.{AtPlace, IsHandled, found_here, place_from}
use Rattle.syslog_collect.proofs.Steps as steps
use Rattle.syslog_collect.proofs.Stopping as stopping
use Rattle.syslog_collect.proofs.Taking as taking
use Rattle.syslog_collect.proofs.Waiting.{absent_first, absent_once, distinct_after, other_false, place_set, ready_none}
use Rattle.syslog_collect.proofs.Waiting.{ready_some}

-- ---- in order of opening

-- the place of a connection among those in order
pub record Found (c : ℕ) (x : Connection) (ls : List Connection) : Type 0 where
  pub place : ℕ
  pub is : place_from c 0 ls ≡ Some place
  pub item : x ≡ get_or ls place x

found_from : (c n : ℕ) (x : Connection) (ls : List Connection) → connection_of ls c ≡ Some x
    → (i : ℕ) × (place_from c n ls ≡ Some (n + i)) × (x ≡ get_or ls i x)
found_from c n x [] e = absurd (cc)
found_from c n x (l ∷ ls) e =
    elim (eqb l.number c) as (λ b. cond b (Some l) (connection_of ls c) ≡ Some x
    → (i : ℕ) × (cond b (Some n) (place_from c (n + 1) ls) ≡ Some (n + i)) × (x ≡ get_or (l ∷ ls) i x)) [
      | true ↦ λ h. let same : x ≡ l = cc in let here : n ≡ n + 0 = omega arith in (0, ap Some here, same)
      | false ↦ λ h. let later = found_from c (n + 1) x ls h in
          let next : (n + 1) + later.0 ≡ n + suc later.0 = omega arith in
          (suc later.0, later.1 ∙ ap Some next, later.2)
    ] e

found : (c : ℕ) (x : Connection) (ls : List Connection) → connection_of ls c ≡ Some x → Found c x ls
found c x ls e =
    let there = found_from c 0 x ls e in
    let place : 0 + there.0 ≡ there.0 = omega arith in
    record { place = there.0; is = there.1 ∙ ap Some place; item = there.2 }

absent_from : (c n : ℕ) (ls : List Connection) → connection_of ls c ≡ None → place_from c n ls ≡ None
absent_from c n [] e = refl
absent_from c n (l ∷ ls) e =
    elim (eqb l.number c) as (λ b. cond b (Some l) (connection_of ls c) ≡ None
    → cond b (Some n) (place_from c (n + 1) ls) ≡ None) [
      | true ↦ λ h. absurd (cc)
      | false ↦ λ h. absent_from c (n + 1) ls h
    ] e

connection_here : (c i : ℕ) (x : Connection) (ls : List Connection) → AtPlace c ls i x → connection_of ls c ≡ Some x
connection_here c i x [] at = absurd at
connection_here c zero x (l ∷ ls) at = rw at.1 (ap Some at.0)
connection_here c (suc i) x (l ∷ ls) at = rw at.0 (connection_here c i x ls at.1)

connection_other : (c i d : ℕ) (x y : Connection) (ls : List Connection) → y.number ≡ x.number → AtPlace c ls i x
    → ¬ (c ≡ d) → connection_of (set_at ls i y) d ≡ connection_of ls d
connection_other c i d x y [] e at ne = absurd at
connection_other c zero d x y (l ∷ ls) e at ne =
    let n : l.number ≡ c = eqb-true l.number c at.1 in
    rw (
      other_false y.number c d (e ∙ ap (λ (z : Connection). z.number) (sym at.0) ∙ n) ne,
      other_false l.number c d n ne,
    ) refl
connection_other c (suc i) d x y (l ∷ ls) e at ne =
    ap (λ (m : Option Connection). cond (eqb l.number d) (Some l) m) (connection_other c i d x y ls e at.1 ne)

connection_set : (c i : ℕ) (x y : Connection) (ls : List Connection) → y.number ≡ x.number → AtPlace c ls i x
    → (d : ℕ) → connection_of (set_at ls i y) d ≡ cond (eqb c d) (Some y) (connection_of ls d)
connection_set c i x y ls e at d = elim (eqb_tells c d) [
  | inl (same, eq) ↦ rw same (subst (λ (n : ℕ). connection_of (set_at ls i y) n ≡ Some y) eq
      (connection_here c i y (set_at ls i y) (place_set c i x y ls e at)))
  | inr (other, ne) ↦ rw other (connection_other c i d x y ls e at ne)
]

connection_push : (x : Connection) (ls : List Connection) (d : ℕ) → connection_of ls x.number ≡ None
    → connection_of (ls ++ x ∷ []) d ≡ cond (eqb x.number d) (Some x) (connection_of ls d)
connection_push x [] d e = refl
connection_push x (l ∷ ls) d e = elim (eqb_tells l.number x.number) [
  | inl (same, eq) ↦ absurd (some_none l (sym (rw same refl) ∙ e))
  | inr (apart, ne) ↦
      let later = connection_push x ls d (sym (rw apart refl) ∙ e) in
      elim (eqb_tells l.number d) [
        | inl (here, at) ↦ rw (here, other_false x.number x.number d refl (λ h. ne (at ∙ sym h))) refl
        | inr (there, not_at) ↦ rw there later
      ]
]
  where
    some_none : (l : Connection) → Some l ≡ None → ⊥
    some_none l e = cc

connection_kept : (c i d : ℕ) (x : Connection) (ls : List Connection) → AtPlace c ls i x → ¬ (c ≡ d)
    → connection_of (remove ls i) d ≡ connection_of ls d
connection_kept c i d x [] at ne = absurd at
connection_kept c zero d x (l ∷ ls) at ne = rw (other_false l.number c d (eqb-true l.number c at.1) ne) refl
connection_kept c (suc i) d x (l ∷ ls) at ne =
    ap (λ (m : Option Connection). cond (eqb l.number d) (Some l) m) (connection_kept c i d x ls at.1 ne)

connection_absent : (c : ℕ) (ls : List Connection) (ss : List Stream) (ds : List (List (List ℕ))) → AreAt ls ss ds
    → stream_of c ss ≡ None → connection_of ls c ≡ None
connection_absent c [] [] [] f e = refl
connection_absent c (l ∷ ls) (s ∷ ss) (d ∷ ds) f e =
    let h = absent_first c s ss e in
    let not_here : eqb l.number c ≡ false = ap (λ (m : ℕ). eqb m c) f.0.number ∙ h.0 in
    rw not_here (connection_absent c ls ss ds f.1 h.1)
connection_absent c [] [] (d ∷ ds) f e = absurd f
connection_absent c [] (s ∷ ss) [] f e = absurd f
connection_absent c [] (s ∷ ss) (d ∷ ds) f e = absurd f
connection_absent c (l ∷ ls) [] [] f e = absurd f
connection_absent c (l ∷ ls) [] (d ∷ ds) f e = absurd f
connection_absent c (l ∷ ls) (s ∷ ss) [] f e = absurd f

length_removed : (c i : ℕ) (x : Connection) (ls : List Connection) → AtPlace c ls i x
    → length (remove ls i) + 1 ≡ length ls
length_removed c i x [] at = absurd at
length_removed c zero x (l ∷ ls) at = omega arith
length_removed c (suc i) x (l ∷ ls) at = omega (arith, length_removed c i x ls at.1)

-- ---- by numbers

pub found_in : (way : FrameReading) (c : ℕ) (x : Connection) (cs : Connections) (kept first : List Entry)
    (es : List AcceptedEvent) → connection_in cs c ≡ Some x → (was : Stands way cs kept first es)
    → Found c x was.stands_at.order
found_in way c x cs kept first es is was =
    found c x was.stands_at.order (sym (was.stands_at.all c) ∙ is)

-- where no event is added, and nothing is changed
pub stays_with : (way : FrameReading) (cs ds : Connections) (kept now first : List Entry) (es : List AcceptedEvent)
    → KeepsAll cs ds → now ≡ kept → Stands way cs kept first es → Stands way ds now first (es ++ [])
stays_with way cs ds kept now first es keeps same was =
    let o = was.stands_at in
    by_number way ds o.order now first (es ++ []) (λ d. keeps.at d ∙ o.all d) (keeps.count ∙ o.count)
    (steps.still way o.order kept now first es same (in_order way cs kept first es was))

pub keeps_same : (cs : Connections) → KeepsAll cs cs
keeps_same cs = record { at = λ d. refl; count = refl; limit = refl; room = omega arith }

become_ordered : (c : ℕ) (x y : Connection) (cs ds : Connections) (ls : List Connection) → y.number ≡ x.number
    → Becomes cs ds c y → (f : Found c x ls) → ((d : ℕ) → connection_in cs d ≡ connection_of ls d)
    → (d : ℕ) → connection_in ds d ≡ connection_of (set_at ls f.place y) d
become_ordered c x y cs ds ls e b f all d =
    b.at d ∙ ap (λ (m : Option Connection). cond (eqb c d) (Some y) m) (all d)
    ∙ sym (connection_set c f.place x y ls e (found_here c f.place x ls f.is f.item) d)

pub advanced : (way : FrameReading) (c : ℕ) (x y : Connection) (cs ds : Connections)
    (past kept now first : List Entry) (es : List AcceptedEvent) (accepted : Option (List ℕ)) (outcomes : List Outcome)
    → connection_in cs c ≡ Some x → y.number ≡ x.number → Becomes cs ds c y
    → ((s : Stream) (d : List (List ℕ)) → IsAt x s d → AdvancesBy way accepted x y kept now outcomes s d)
    → Stands way cs (past ++ kept) first es → Stands way ds (past ++ now) first (es ++ accepted_piece c accepted)
advanced way c x y cs ds past kept now first es accepted outcomes is e b moves was =
    let o = was.stands_at in
    let f = found_in way c x cs (past ++ kept) first es is was in
    by_number way ds (set_at o.order f.place y) (past ++ now) first (es ++ accepted_piece c accepted)
    (become_ordered c x y cs ds o.order e b f o.all) (b.count ∙ o.count ∙ sym (length-set o.order f.place y))
    (steps.advance_found way c f.place x y o.order past kept now first es accepted outcomes f.is f.item moves
    (in_order way cs (past ++ kept) first es was))

pub piece_taken : (way : FrameReading) (c : ℕ) (x y : Connection) (cs ds : Connections)
    (past kept now first : List Entry) (es : List AcceptedEvent) (o : List ℕ) (r : EventEnd) (l m : List Outcome)
    → connection_in cs c ≡ Some x → y.number ≡ x.number → Becomes cs ds c y
    → ((s : Stream) (d : List (List ℕ)) → IsAt x s d → Logs way x y kept now (piece_octets o r) l m s d)
    → ((s : Stream) (d : List (List ℕ)) → IsAt x s d → IfDone r (LogsAdvance way x y kept now o l m s d))
    → Stands way cs (past ++ kept) first es → Stands way ds (past ++ now) first (es ++ accepted_piece_end c o r)
piece_taken way c x y cs ds past kept now first es o r l m is e b logs accepted was =
    let at = was.stands_at in
    let f = found_in way c x cs (past ++ kept) first es is was in
    by_number way ds (set_at at.order f.place y) (past ++ now) first (es ++ accepted_piece_end c o r)
    (become_ordered c x y cs ds at.order e b f at.all) (b.count ∙ at.count ∙ sym (length-set at.order f.place y))
    (events.piece_found way c f.place x y at.order past kept now first es o r l m f.is f.item logs accepted
    (in_order way cs (past ++ kept) first es was))

-- where a connection is what it was, so are all
pub keeps_all : (c : ℕ) (x y : Connection) (cs ds : Connections) → connection_in cs c ≡ Some x → Becomes cs ds c y
    → y ≡ x → KeepsAll cs ds
keeps_all c x y cs ds is b same = record {
  at = λ d. b.at d ∙ elim (eqb_tells c d) [
    | inl (here, eq) ↦ rw here (ap Some same ∙ sym (subst (λ (n : ℕ). connection_in cs n ≡ Some x) eq is))
    | inr (other, ne) ↦ rw other refl
  ];
  count = b.count;
  limit = b.limit;
  room = b.room;
}

pub unchanged : {T A : Type 0} (r : Result A CollectFault) (c : ℕ) (x y : Connection) (cs ds : Connections)
    (was now : T) → connection_in cs c ≡ Some x → Becomes cs ds c y
    → IfRefused r ((y ≡ x) × (now ≡ was)) → IfRefused r (KeepsAll cs ds × (now ≡ was))
unchanged {T = T} {A = A} r c x y cs ds was now is b h = each r h
  where
    all : (y ≡ x) × (now ≡ was) → KeepsAll cs ds × (now ≡ was)
    all (same, kept) = (keeps_all c x y cs ds is b same, kept)

    each : (q : Result A CollectFault) → IfRefused q ((y ≡ x) × (now ≡ was))
        → IfRefused q (KeepsAll cs ds × (now ≡ was))
    each (Ok a) k = tt
    each (Err (Memory m)) k = tt
    each (Err (Unterminated start)) k = tt
    each (Err AlreadyOpen) k = all k
    each (Err TooManyOpen) k = all k
    each (Err NotOpen) k = all k
    each (Err ConnFailed) k = all k
    each (Err StreamTooLong) k = all k
    each (Err Unreleased) k = all k

-- ---- frames that wait

pub waits_become : (c k : ℕ) (y : Connection) (cs ds : Connections) → Becomes cs ds c y
    → ready_count y.scanner.phase ≡ k → (d : ℕ) → waiting ds d ≡ cond (eqb c d) k (waiting cs d)
waits_become c k y cs ds b is d = ap ready_in (b.at d) ∙ elim (eqb_tells c d) [
  | inl (here, eq) ↦ rw here is
  | inr (other, ne) ↦ rw other refl
]

pub waits_keep : (cs ds : Connections) → KeepsAll cs ds → (d : ℕ) → waiting ds d ≡ waiting cs d
waits_keep cs ds keeps d = ap ready_in (keeps.at d)

pub waits_advanced : {T : Type 0} (piece : List ℕ) (r : Result Advance CollectFault) (c : ℕ) (y : Connection)
    (cs ds : Connections) (was now : T) → IsUsedWithin piece r → Becomes cs ds c y
    → OnOk r (¬ (HasReady y.scanner)) → IfMemory r (HasFrame y.scanner)
    → IfRefused r (KeepsAll cs ds × (now ≡ was)) → (d : ℕ) → waiting ds d ≡ waiting_then r c (waiting cs) d
waits_advanced piece (Ok a) c y cs ds was now within b quiet waits same d =
    waits_become c 0 y cs ds b (ready_none y.scanner.phase (λ f. quiet (inl f))) d
waits_advanced piece (Err (Memory m)) c y cs ds was now within b quiet waits same d =
    waits_become c 1 y cs ds b (ready_some y.scanner.phase waits) d
waits_advanced piece (Err AlreadyOpen) c y cs ds was now within b quiet waits same d = absurd within
waits_advanced piece (Err TooManyOpen) c y cs ds was now within b quiet waits same d = absurd within
waits_advanced piece (Err NotOpen) c y cs ds was now within b quiet waits same d = waits_keep cs ds same.0 d
waits_advanced piece (Err ConnFailed) c y cs ds was now within b quiet waits same d = waits_keep cs ds same.0 d
waits_advanced piece (Err StreamTooLong) c y cs ds was now within b quiet waits same d = waits_keep cs ds same.0 d
waits_advanced piece (Err Unreleased) c y cs ds was now within b quiet waits same d = absurd within
waits_advanced piece (Err (Unterminated start)) c y cs ds was now within b quiet waits same d = absurd within

pub waits_closed : (c : ℕ) (x : Connection) (cs ds : Connections) → connection_in cs c ≡ Some x → Closes cs ds c
    → ready_count x.scanner.phase ≡ 0 → (d : ℕ) → waiting ds d ≡ waiting cs d
waits_closed c x cs ds is closes quiet d = ap ready_in (closes.at d) ∙ elim (eqb_tells c d) [
  | inl (here, eq) ↦ rw here (sym (ap ready_in (subst (λ (n : ℕ). connection_in cs n ≡ Some x) eq is) ∙ quiet))
  | inr (other, ne) ↦ rw other refl
]

-- ---- why, and what comes of it

pub not_open : (way : FrameReading) (c : ℕ) (cs : Connections) (kept first : List Entry) (es : List AcceptedEvent)
    → connection_in cs c ≡ None → Stands way cs kept first es → stream_of c (history_of es).streams ≡ None
not_open way c cs kept first es none was =
    steps.not_open way c was.stands_at.order kept first es
    (absent_from c 0 was.stands_at.order (sym (was.stands_at.all c) ∙ none)) (in_order way cs kept first es was)

pub is_open : (way : FrameReading) (c : ℕ) (x : Connection) (cs : Connections) (kept first : List Entry)
    (es : List AcceptedEvent) → connection_in cs c ≡ Some x → Stands way cs kept first es
    → IsSome (stream_of c (history_of es).streams)
is_open way c x cs kept first es is was =
    let f = found_in way c x cs kept first es is was in
    steps.is_open way c f.place was.stands_at.order kept first es f.is (in_order way cs kept first es was)

pub count_open : (way : FrameReading) (cs : Connections) (kept first : List Entry) (es : List AcceptedEvent)
    → Stands way cs kept first es → count_in cs ≡ length (history_of es).streams
count_open way cs kept first es was =
    was.stands_at.count ∙ steps.count_open way was.stands_at.order kept first es (in_order way cs kept first es was)

pub cause_of : (way : FrameReading) (c : ℕ) (x : Connection) (cs : Connections) (kept first : List Entry)
    (es : List AcceptedEvent) (piece : List ℕ) (r : Result Advance CollectFault) → connection_in cs c ≡ Some x
    → ((s : Stream) (d : List (List ℕ)) → IsAt x s d → IsCause way piece r s) → Stands way cs kept first es
    → IsAnswerAt way c piece r (history_of es)
cause_of way c x cs kept first es piece r is cause was =
    let f = found_in way c x cs kept first es is was in
    steps.cause_found way c f.place x was.stands_at.order kept first es piece r f.is f.item cause
    (in_order way cs kept first es was)

waits_at : (way : FrameReading) (c : ℕ) (cs : Connections) (kept first : List Entry) (es : List AcceptedEvent)
    → (was : Stands way cs kept first es) → waiting_in was.stands_at.order c ≡ waiting cs c
waits_at way c cs kept first es was = sym (waits_in_order cs was.stands_at.order was.stands_at.all c)

pub reports : (way : FrameReading) (c : ℕ) (x y : Connection) (cs : Connections) (past kept now first : List Entry)
    (es : List AcceptedEvent) (piece : List ℕ) (r : Result Advance CollectFault) → connection_in cs c ≡ Some x
    → ((s : Stream) (d : List (List ℕ)) → IsAt x s d
    → AdvancesBy way (accepted_octets piece r) x y kept now (answered r) s d)
    → OnOk r (¬ (HasReady y.scanner)) → Stands way cs (past ++ kept) first es
    → IfOk r (λ a. Reports way c (used_octets piece a) (history_of es) (waiting cs c) kept now
    (outcomes_of a.outcome))
reports way c x y cs past kept now first es piece r is moves quiet was =
    let f = found_in way c x cs (past ++ kept) first es is was in
    subst (λ (w : ℕ). IfOk r (λ a. Reports way c (used_octets piece a) (history_of es) w kept now
    (outcomes_of a.outcome))) (waits_at way c cs (past ++ kept) first es was)
    (logging.reports_found way c f.place x y was.stands_at.order past kept now first es piece r f.is f.item moves quiet
    (in_order way cs (past ++ kept) first es was))

pub taken_of : (way : FrameReading) (c : ℕ) (x : Connection) (cs : Connections) (kept first : List Entry)
    (es : List AcceptedEvent) (piece : List ℕ) (r : Result Advance CollectFault) → connection_in cs c ≡ Some x
    → ((s : Stream) (d : List (List ℕ)) → IsAt x s d → IsTaken piece (ready_count x.scanner.phase) r s)
    → Stands way cs kept first es
    → IfSome (stream_of c (history_of es).streams) (IsTaken piece (waiting cs c) r)
taken_of way c x cs kept first es piece r is taken was =
    let f = found_in way c x cs kept first es is was in
    subst (λ (w : ℕ). IfSome (stream_of c (history_of es).streams) (IsTaken piece w r))
    (waits_at way c cs kept first es was)
    (taking.taken_found way c f.place x was.stands_at.order kept first es piece r f.is f.item taken
    (in_order way cs kept first es was))

pub piece_logged : (way : FrameReading) (c : ℕ) (x y : Connection) (cs ds : Connections) (past kept now first : List Entry)
    (es : List AcceptedEvent) (o : List ℕ) (r : EventEnd) (l m : List Outcome)
    → connection_in cs c ≡ Some x → y.number ≡ x.number → Becomes cs ds c y
    → ((s : Stream) (d : List (List ℕ)) → IsAt x s d → Logs way x y kept now (piece_octets o r) l m s d)
    → ((s : Stream) (d : List (List ℕ)) → IsAt x s d → IfDone r (LogsAdvance way x y kept now o l m s d))
    → IfDone r (¬ (HasReady y.scanner)) → Stands way cs (past ++ kept) first es
    → Grows (LogsPiece way (history_of es) (waiting cs) (waiting ds) c o r kept now) l m
piece_logged way c x y cs ds past kept now first es o r l m is e b logs accepted quiet was =
    let at = was.stands_at in
    let f = found_in way c x cs (past ++ kept) first es is was in
    let w : (d : ℕ) → waiting_in at.order d ≡ waiting cs d = λ d. sym (waits_in_order cs at.order at.all d) in
    let v : (d : ℕ) → waiting_in (set_at at.order f.place y) d ≡ waiting ds d = λ d.
    sym (waits_in_order ds (set_at at.order f.place y) (become_ordered c x y cs ds at.order e b f at.all) d) in
    let ws : waiting_in at.order ≡ waiting cs = λ i d. w d i in
    let vs : waiting_in (set_at at.order f.place y) ≡ waiting ds = λ i d. v d i in
    subst (λ (u : ℕ → ℕ). Grows (LogsPiece way (history_of es) u (waiting ds) c o r kept now) l m) ws
    (subst (λ (u : ℕ → ℕ). Grows (LogsPiece way (history_of es) (waiting_in at.order) u c o r kept now) l m) vs
    (logging.piece_logged way c f.place x y at.order past kept now first es o r l m f.is f.item logs accepted quiet
    (in_order way cs (past ++ kept) first es was)))

pub piece_refused : (way : FrameReading) (c : ℕ) (x y : Connection) (cs ds : Connections)
    (past kept now first : List Entry) (es : List AcceptedEvent) (o : List ℕ) (r : EventEnd) (l m : List Outcome)
    → connection_in cs c ≡ Some x → y.number ≡ x.number → Becomes cs ds c y
    → ((s : Stream) (d : List (List ℕ)) → IsAt x s d → Logs way x y kept now (piece_octets o r) l m s d)
    → ((s : Stream) (d : List (List ℕ)) → IsAt x s d
    → IfStopped r (λ taken fault. StopsPiece way o taken (ready_count y.scanner.phase) fault s))
    → Stands way cs (past ++ kept) first es
    → IfStopped r (λ taken fault. StopsPieceAt way c o taken (waiting ds c) fault (history_of es))
piece_refused way c x y cs ds past kept now first es o r l m is e b logs cause was =
    let at = was.stands_at in
    let f = found_in way c x cs (past ++ kept) first es is was in
    let v : waiting_in (set_at at.order f.place y) c ≡ waiting ds c =
    sym (waits_in_order ds (set_at at.order f.place y) (become_ordered c x y cs ds at.order e b f at.all) c) in
    subst (λ (k : ℕ). IfStopped r (λ taken fault. StopsPieceAt way c o taken k fault (history_of es))) v
    (stopping.piece_refused way c f.place x y at.order past kept now first es o r l m f.is f.item logs cause
    (in_order way cs (past ++ kept) first es was))

-- ---- openings and ends

pub opened : (way : FrameReading) (c : ℕ) (k : Framing) (scanner : Scan) (cs ds : Connections)
    (kept first : List Entry) (es : List AcceptedEvent) → connection_in cs c ≡ None
    → count_in cs < CONNECTIONS_LIMIT → Reads FRAME_MAX scanner k 0 [] [] [] → IsReading scanner
    → Opens cs ds (record { number = c; scanner = scanner }) → Stands way cs kept first es
    → Stands way ds kept first (es ++ Opened c k ∷ [])
opened way c k scanner cs ds kept first es none few reads reading opens was =
    let o = was.stands_at in
    let x : Connection = record { number = c; scanner = scanner } in
    let absent : connection_of o.order c ≡ None = sym (o.all c) ∙ none in
    let room : length o.order < CONNECTIONS_LIMIT = omega (arith, o.count) in
    let longer : length (o.order ++ x ∷ []) ≡ length o.order + 1 = length-append o.order (x ∷ []) in
    by_number way ds (o.order ++ x ∷ []) kept first (es ++ Opened c k ∷ [])
    (λ d. opens.at d ∙ ap (λ (m : Option Connection). cond (eqb c d) (Some x) m) (o.all d)
    ∙ sym (connection_push x o.order d absent))
    (opens.count ∙ ap (λ (n : ℕ). n + 1) o.count ∙ sym longer)
    (steps.open_step way c k scanner o.order kept first es (absent_from c 0 o.order absent) room reads reading
    (in_order way cs kept first es was))

pub closed : (way : FrameReading) (c : ℕ) (x : Connection) (cs ds : Connections) (kept first : List Entry)
    (es : List AcceptedEvent) → connection_in cs c ≡ Some x → Closes cs ds c → IsHandled x
    → Stands way cs kept first es → Stands way ds kept first (es ++ Ended c ∷ [])
closed way c x cs ds kept first es is closes handled was =
    let o = was.stands_at in
    let f = found_in way c x cs kept first es is was in
    let at = found_here c f.place x o.order f.is f.item in
    let ordered = in_order way cs kept first es was in
    let next = steps.close_found way c f.place x o.order kept first es f.is f.item handled ordered in
    let gone = absent_once c (history_of es).streams (distinct_after initial es tt was.acceptable) in
    let absent : stream_of c (history_of (es ++ Ended c ∷ [])).streams ≡ None =
    subst (λ (g : History). stream_of c g.streams ≡ None) (sym (steps.history_after-push initial es (Ended c))) gone in
    by_number way ds (remove o.order f.place) kept first (es ++ Ended c ∷ [])
    (λ d. closes.at d ∙ elim (eqb_tells c d) [
      | inl (here, eq) ↦ rw here (subst (λ (n : ℕ). None ≡ connection_of (remove o.order f.place) n) eq
          (sym (connection_absent c (remove o.order f.place) (history_of (es ++ Ended c ∷ [])).streams
          next.stands_at.handled next.stands_at.follow absent)))
      | inr (other, ne) ↦ rw other (o.all d ∙ sym (connection_kept c f.place d x o.order at ne))
    ])
    (omega (arith, closes.count, o.count, length_removed c f.place x o.order at)) next

pub unfinished : (way : FrameReading) (c start : ℕ) (x : Connection) (cs : Connections) (kept first : List Entry)
    (es : List AcceptedEvent) → connection_in cs c ≡ Some x → ¬ (IsFailed x.scanner)
    → ((kind : Framing) (first : ℕ) (octets : List ℕ) (frames : List (List ℕ)) (rest : List ℕ)
    → Reads FRAME_MAX x.scanner kind first octets frames rest
    → Frames kind octets frames rest × (0 < length rest) × (start + length rest ≡ first + length octets))
    → Stands way cs kept first es → IsSomeAnd (stream_of c (history_of es).streams)
    (λ s. ¬ (HoldsBadCount s) × IsUnfinished start s)
unfinished way c start x cs kept first es is live h was =
    let f = found_in way c x cs kept first es is was in
    steps.unfinished_at way c f.place start x was.stands_at.order kept first es f.is f.item live h
    (in_order way cs kept first es was)

pub ended : (way : FrameReading) (c : ℕ) (x : Connection) (cs : Connections) (kept first : List Entry)
    (es : List AcceptedEvent) → connection_in cs c ≡ Some x
    → ((kind : Framing) (first : ℕ) (octets : List ℕ) (frames : List (List ℕ)) (rest : List ℕ)
    → Reads FRAME_MAX x.scanner kind first octets frames rest → Frames kind octets frames [])
    → Stands way cs kept first es → IsSomeAnd (stream_of c (history_of es).streams) EndsWhole
ended way c x cs kept first es is h was =
    let f = found_in way c x cs kept first es is was in
    steps.ended_at way c f.place x was.stands_at.order kept first es f.is f.item h (in_order way cs kept first es was)

pub frame_waits : (way : FrameReading) (c : ℕ) (x : Connection) (cs : Connections) (kept first : List Entry)
    (es : List AcceptedEvent) → connection_in cs c ≡ Some x → HasReady x.scanner → Stands way cs kept first es
    → waiting cs c ≡ 1
frame_waits way c x cs kept first es is ready was =
    let f = found_in way c x cs kept first es is was in
    ap ready_in is ∙ ready_some x.scanner.phase (steps.ready_frame way c f.place x was.stands_at.order kept first es
    f.is f.item ready (in_order way cs kept first es was))

pub datagram_handled : {E : Type 0} (way : FrameReading) (cs : Connections) (past kept now first : List Entry)
    (es : List AcceptedEvent) (octets : List ℕ) (r : Result Outcome E) → IfOk r (λ o. IsOutcome way kept now octets o)
    → OnErr r (now ≡ kept) → Stands way cs (past ++ kept) first es
    → Stands way cs (past ++ now) first (es ++ accepted_datagram octets r)
datagram_handled way cs past kept now first es octets r out same was =
    let o = was.stands_at in
    by_number way cs o.order (past ++ now) first (es ++ accepted_datagram octets r) o.all o.count
    (steps.datagram_answer way o.order past kept now first es octets r out same
    (in_order way cs (past ++ kept) first es was))
