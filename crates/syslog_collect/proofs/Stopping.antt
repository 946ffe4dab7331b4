-- Why a run stopped: from one step of a piece to the whole run.
use Rattle.std.proofs.Common.{◌≡◌, ℕ, zero, suc, ◌+◌, ◌-◌, ◌<◌, ◌≤◌, List, [], ◌∷◌, ◌++◌, length, get_or, set as set_at}
use Rattle.std.proofs.Common.{take, drop, inl, inr, append_assoc, refl, sym, ◌∙◌, ap, subst, arith}
use denote.Bor.{Bor}
use Rattle.std.specs.Prelude.{◌⊎◌, Option, Some, None, Result, Ok, Err}
use Rattle.std.proofs.lemmas.List.{length-append, length-drop, length-take}
use Rattle.syslog_frame.specs.Frames.{Frames}
use Rattle.syslog_frame.specs.Scan.{HasFrame}
use Rattle.syslog_frame.specs.declared.framing.Framing.{Framing}
use Rattle.syslog_frame.specs.declared.phase.Phase.{Phase}
use Rattle.syslog_frame.specs.declared.phase.Phase.TheVariants.{Ended as phase_Ended}
use Rattle.archive_text.specs.Entries.{Entry}
use Rattle.syslog_legacy.specs.declared.frame_reading.FrameReading.{FrameReading}
use Rattle.syslog_collect.specs.declared.connection.Connection.{Connection}
use Rattle.syslog_collect.specs.declared.event.Event.{Event}
use Rattle.syslog_collect.specs.declared.event.Event.TheVariants.{Opened as event_Opened, Piece as event_Piece}
use Rattle.syslog_collect.specs.declared.event.Event.TheVariants.{Ended as event_Ended, Datagram as event_Datagram}
use Rattle.syslog_collect.specs.declared.event.EventEnd.{EventEnd}
use Rattle.syslog_collect.specs.declared.event.EventEnd.TheVariants.{Done as end_Done, Stopped as end_Stopped}
use Rattle.syslog_collect.specs.declared.event.RunEnd.TheVariants.{Stopped}
use Rattle.syslog_collect.specs.declared.fault.Advance.{Advance}
use Rattle.syslog_collect.specs.declared.fault.CollectFault.{CollectFault}
use Rattle.syslog_collect.specs.declared.fault.CollectFault.TheVariants.{AlreadyOpen, TooManyOpen, NotOpen, ConnFailed}
use Rattle.syslog_collect.specs.declared.fault.CollectFault.TheVariants.{StreamTooLong, Unreleased, Unterminated}
use Rattle.syslog_collect.specs.declared.fault.CollectFault.TheVariants.{Memory}
use Rattle.syslog_collect.specs.declared.outcome.Outcome.{Outcome}
use Rattle.syslog_collect.specs.declared.outcome.Outcome.TheVariants.{New, Held, Refused, RefusedLegacy, TooLong}
use Rattle.syslog_collect.specs.declared.outcome.Outcome.TheVariants.{BadCount}
use Rattle.syslog_collect.specs.Answers.{Advances, ComesInTurn, EndsFrameOf, IfMemory, IfRefused, IfUnreleased}
use Rattle.syslog_collect.specs.Answers.{IsBadCount, IsCause, IsEnding, IsOpening, IsTaken, IsWholeWith, ReportsBadCount}
use Rattle.syslog_collect.specs.Answers.{WantsRoom, accepted_count}
use Rattle.syslog_collect.specs.History.{AcceptedEvent, History, HoldsBadCount, Stream, accept, history_after}
use Rattle.syslog_collect.specs.History.{history_of, stream_of, with_octets}
use Rattle.syslog_collect.specs.Logs.{ready_count}
use Rattle.syslog_collect.specs.Outcomes.{IsRecordFrame, outcomes_of}
use Rattle.syslog_collect.specs.Runs.{IfDone, Logs, accepted_all, accepted_event, event_end, piece_octets, used_before}
use Rattle.syslog_collect.specs.Standing.{IsAt}
use Rattle.syslog_collect.proofs.Ordered.{StandsOrdered as Stands, waiting_in as waiting}
use Rattle.syslog_collect.specs.Stops.{EndWell, EndsWell, IfStopped, IsBetween, IsBetweenAt, IsPieceCause}
use Rattle.syslog_collect.specs.Stops.{IsPieceRefusal, MayGoOn, StopsAs, StopsAt, StopsAtFirst, StopsPiece}
use Rattle.syslog_collect.specs.Stops.{StopsPieceAt, StopsStep}
use Rattle.syslog_collect.proofs.Between.{before_step, between_at, between_kept, ends_of, frame_of_rest, whole_on}
use Rattle.syslog_collect.proofs.EventRuns.{with_octets_none}
use Rattle.syslog_collect.proofs.Pieces.{accepted_used, taken_on, with_octets_twice}
use Rattle.syslog_collect.proofs.Places.{found_here, opening_at, place_from}
use Rattle.syslog_collect.proofs.Waiting.{place_set, waiting_at}

-- ---- one step of a piece

-- an advance that was refused
pub step_cause : {T : Type 0} (way : FrameReading) (rest : List ℕ) (used : ℕ) (x y : Connection) (was now : T)
    (fault : CollectFault) (s : Stream) → used ≡ used_before fault → used ≤ length rest → IsCause way rest (Err fault) s
    → IfMemory {A = Advance} (Err fault) (y.scanner.phase ≡ phase_Ended)
    → IfRefused {A = Advance} (Err fault) ((y ≡ x) × (now ≡ was))
    → IsTaken rest (ready_count x.scanner.phase) (Err fault) s
    → StopsStep way rest used (ready_count x.scanner.phase) (ready_count y.scanner.phase) fault s
step_cause way rest used x y was now (Memory n) s is le cause frame same taken =
    inr (
      (
        subst (λ (k : ℕ). IsCause way rest (Err (Memory k)) s) (sym is) cause,
        subst (λ (k : ℕ). EndsFrameOf (take k rest) n s) (sym is) (ends_of rest n s (omega (arith, is)) taken.1),
        ap (λ (p : Phase). ready_count p) frame,
      ),
      omega (arith, is, taken.2),
    )
step_cause way rest used x y was now ConnFailed s is le cause frame same taken = inr ((cause, is), tt)
step_cause way rest used x y was now StreamTooLong s is le cause frame same taken =
    inr ((cause, is, ap (λ (c : Connection). ready_count c.scanner.phase) same.0 ∙ taken), tt)
step_cause way rest used x y was now NotOpen s is le cause frame same taken = absurd cause
step_cause way rest used x y was now AlreadyOpen s is le cause frame same taken = absurd cause
step_cause way rest used x y was now TooManyOpen s is le cause frame same taken = absurd cause
step_cause way rest used x y was now Unreleased s is le cause frame same taken = absurd cause
step_cause way rest used x y was now (Unterminated start) s is le cause frame same taken = absurd cause

-- one for which there was no room
pub step_no_room : (way : FrameReading) (rest : List ℕ) (used : ℕ) (x y : Connection) (fault : CollectFault) (s : Stream)
    → used ≡ used_before fault → WantsRoom x y (Err fault)
    → StopsStep way rest used (ready_count x.scanner.phase) (ready_count y.scanner.phase) fault s
step_no_room way rest used x y fault s is room =
    let e = same_fault fault (Memory 0) room.fault_is in
    inl (e, is ∙ ap used_before e, ap (λ (c : Connection). ready_count c.scanner.phase) room.same)
  where
    same_fault : (a b : CollectFault) → ◌≡◌ {A = Result Advance CollectFault} (Err a) (Err b) → a ≡ b
    same_fault a b e = cc

-- where a frame is ready for which memory was refused, it is not room that was
pub unless_room : {P : Type 0} (x y : Connection) (r : Result Advance CollectFault) → IfMemory r (HasFrame y.scanner)
    → WantsRoom x y r ⊎ P → P
unless_room x y r waits (inr p) = p
unless_room x y r waits (inl room) =
    let frame = subst (λ (q : Result Advance CollectFault). IfMemory q (HasFrame y.scanner)) room.fault_is waits in
    absurd (room.reading.0 (inl (subst (λ (c : Connection). HasFrame c.scanner) room.same frame)))

-- octets were taken, so that there was room
pub taken_with_room : {P : Type 0} (x y : Connection) (a : Advance) → WantsRoom x y (Ok a) ⊎ P → P
taken_with_room x y a (inr p) = p
taken_with_room x y a (inl room) = absurd (differ a (Memory 0) room.fault_is)
  where
    differ : (a : Advance) (f : CollectFault) → ◌≡◌ {A = Result Advance CollectFault} (Ok a) (Err f) → ⊥
    differ a f e = cc

unmarked : (o : Option Outcome) (t : Stream) → ¬ (IsBadCount o) → ReportsBadCount (outcomes_of o) t
    → ¬ (HoldsBadCount t)
unmarked None t good marks = marks
unmarked (Some New) t good marks = marks
unmarked (Some Held) t good marks = marks
unmarked (Some (Refused fault)) t good marks = marks
unmarked (Some (RefusedLegacy offset)) t good marks = marks
unmarked (Some TooLong) t good marks = marks
unmarked (Some (BadCount at)) t good marks = absurd (good tt)

-- one that was not, and met no bad count
pub step_goes_on : (way : FrameReading) (x y : Connection) (a b : List Entry) (rest : List ℕ) (n : ℕ)
    (o : Option Outcome)
    (s : Stream) (d : List (List ℕ)) (waits : ℕ) → ¬ (IsBadCount o)
    → ComesInTurn rest waits n s → Advances way x y a b (take (accepted_count (length rest) n o) rest) (outcomes_of o)
    s d → MayGoOn rest n s
step_goes_on way x y a b rest n o s d waits good (inl (one, none)) moves = inl none
step_goes_on way x y a b rest n o s d waits good (inr (none, fits)) moves =
    inr (
      unmarked o (with_octets s (take n rest)) good
          (subst (λ (k : ℕ). ReportsBadCount (outcomes_of o) (with_octets s (take k rest)))
          (accepted_used (length rest) n o good) moves.marks),
      fits,
    )

-- ---- the steps of a piece

-- where a connection is after octets
reached : (way : FrameReading) (x y : Connection) (a b : List Entry) (o : List ℕ) (l m : List Outcome) (s : Stream)
    (d : List (List ℕ)) → IsAt x s d → Logs way x y a b o l m s d
    → (e : List (List ℕ)) × IsAt y (with_octets s o) e × ((o ≡ []) ⊎ ¬ (HoldsBadCount s))
reached way x y a b o l m s d at (os, log, inl (none, same, kept, quiet)) = (
  d,
  subst (λ (u : List ℕ). IsAt y (with_octets s u) d) (sym none)
      (subst (λ (t : Stream). IsAt y t d) (sym (with_octets_none s))
      (subst (λ (w : Connection). IsAt w s d) (sym same) at)),
  inl none,
)
reached way x y a b o l m s d at (os, log, inr moves) = (d ++ moves.fresh, moves.now_at, inr moves.may.0)

-- with no octets more it is the opening
of_none : (P : Stream → Type 0) (s : Stream) (o : List ℕ) → o ≡ [] → P (with_octets s o) → P s
of_none P s o none h = subst P (with_octets_none s) (subst (λ (u : List ℕ). P (with_octets s u)) none h)

take_none : (n : ℕ) (p : List ℕ) → n ≡ 0 → take n p ≡ []
take_none zero p e = refl
take_none (suc n) p e = absurd (omega arith)

-- a piece and its rest are of one length together
lengths : (s : Stream) (p : List ℕ) (n : ℕ) → n ≤ length p
    → length (with_octets s (take n p)).octets + length (take (length p - n) (drop n p)) ≡ length s.octets + length p
lengths s p n le = omega (
  arith,
  length-append s.octets (take n p),
  length-take n p,
  length-take (length p - n) (drop n p),
  length-drop n p,
)

-- a cause of the rest of a piece is one of the piece
of_rest : (way : FrameReading) (p : List ℕ) (n m waited waits : ℕ) (fault : CollectFault) (s : Stream) → n ≤ length p
    → m ≤ length (take (length p - n) (drop n p)) → (take n p ≡ []) ⊎ ¬ (HoldsBadCount s) → MayGoOn p n s
    → IsBetween p n waited s → IfMemory {A = Unit {0}} (Err fault) (0 < waited + m)
    → IsPieceCause way (take (length p - n) (drop n p)) m waits fault (with_octets s (take n p))
    → IsPieceCause way p (n + m) waits fault s
of_rest way p n m waited waits (Memory k) s le lt was may between some
    ((good, (frames, f, are, spelled)), ends, one) =
    let before : ¬ (HoldsBadCount s) = elim was
    [ inl none ↦ of_none (λ (t : Stream). ¬ (HoldsBadCount t)) s (take n p) none good | inr sound ↦ sound ] in
    let same = append_assoc s.octets (take n p) (take m (take (length p - n) (drop n p)))
    ∙ ap (λ (u : List ℕ). s.octets ++ u) (taken_on p n m) in (
      (before, (frames, f, subst (λ (u : List ℕ). Frames s.framing u (frames ++ f ∷ []) []) same are, spelled)),
      frame_of_rest p n m k s le lt (before_step p n m waited s between some) ends,
      one,
    )
of_rest way p n m waited waits ConnFailed s le lt was (inl none) between some (cause, zero_here) =
    (of_none (λ (t : Stream). HoldsBadCount t) s (take n p) (take_none n p none) cause, omega arith)
of_rest way p n m waited waits ConnFailed s le lt was (inr (good, fits)) between some (cause, zero_here) =
    absurd (good cause)
of_rest way p n m waited waits StreamTooLong s le lt was (inl none) between some
    ((good, long), zero_here, quiet) = (
      (
        of_none (λ (t : Stream). ¬ (HoldsBadCount t)) s (take n p) (take_none n p none) good,
        omega (arith, lengths s p n le, long),
      ),
      omega arith,
      quiet,
    )
of_rest way p n m waited waits StreamTooLong s le lt was (inr (good, fits)) between some
    ((still, long), zero_here, quiet) = absurd (omega (arith, lengths s p n le, long, fits))
of_rest way p n m waited waits NotOpen s le lt was may between some cause = absurd cause
of_rest way p n m waited waits AlreadyOpen s le lt was may between some cause = absurd cause
of_rest way p n m waited waits TooManyOpen s le lt was may between some cause = absurd cause
of_rest way p n m waited waits Unreleased s le lt was may between some cause = absurd cause
of_rest way p n m waited waits (Unterminated start) s le lt was may between some cause = absurd cause

pub piece_stops : (way : FrameReading) (x y : Connection) (a b : List Entry) (p : List ℕ) (n m waited waits : ℕ)
    (fault : CollectFault) (l k : List Outcome) (s : Stream) (d : List (List ℕ)) → n ≤ length p
    → m ≤ length (take (length p - n) (drop n p)) → IsAt x s d → Logs way x y a b (take n p) l k s d
    → MayGoOn p n s → IsBetween p n waited s
    → ((t : Stream) (e : List (List ℕ)) → IsAt y t e
    → StopsStep way (take (length p - n) (drop n p)) m waited waits fault t)
    → StopsPiece way p (n + m) waits fault s
piece_stops way x y a b p n m waited waits fault l k s d le lt at logs may between cause =
    let there = reached way x y a b (take n p) l k s d at logs in
    elim (cause (with_octets s (take n p)) there.0 there.1) [
      | inl (room, none, same) ↦ inl (room, between_kept p n m waited waits s none same between)
      | inr (why, some) ↦ inr (of_rest way p n m waited waits fault s le lt there.2 may between some why)
    ]

-- a step that goes on ends a frame
pub piece_between : (way : FrameReading) (x y : Connection) (a b : List Entry) (p : List ℕ) (n m : ℕ)
    (l k : List Outcome)
    (s : Stream) (d : List (List ℕ)) (waits : ℕ) → waits ≡ 0 → IsAt x s d → Logs way x y a b (take n p) l k s d
    → ((t : Stream) (e : List (List ℕ)) → IsAt y t e → IsWholeWith (take m (take (length p - n) (drop n p))) t)
    → IsBetween p (n + m) waits s
piece_between way x y a b p n m l k s d waits quiet at logs next =
    let there = reached way x y a b (take n p) l k s d at logs in
    inr (quiet, whole_on p n m s (next (with_octets s (take n p)) there.0 there.1))

pub piece_goes_on : (way : FrameReading) (x y : Connection) (a b : List Entry) (p : List ℕ) (n m : ℕ)
    (l k : List Outcome)
    (s : Stream) (d : List (List ℕ)) → n ≤ length p
    → IsAt x s d → Logs way x y a b (take n p) l k s d → MayGoOn p n s
    → ((t : Stream) (e : List (List ℕ)) → IsAt y t e → MayGoOn (take (length p - n) (drop n p)) m t)
    → MayGoOn p (n + m) s
piece_goes_on way x y a b p n m l k s d le at logs may next =
    let there = reached way x y a b (take n p) l k s d at logs in
    elim (next (with_octets s (take n p)) there.0 there.1) [
      | inl none ↦ let same : n ≡ n + m = omega arith in subst (λ (i : ℕ). MayGoOn p i s) same may
      | inr (good, fits) ↦
          inr (
            subst (λ (u : List ℕ). ¬ (HoldsBadCount (with_octets s u))) (taken_on p n m)
                (subst (λ (t : Stream). ¬ (HoldsBadCount t))
                (with_octets_twice s (take n p) (take m (take (length p - n) (drop n p)))) good),
            omega (arith, lengths s p n le, fits),
          )
    ]

pub within_taken : (p : List ℕ) (n m : ℕ) → n ≤ length p → m ≤ length (take (length p - n) (drop n p))
    → n + m ≤ length p
within_taken p n m le lt = omega (arith, length-take (length p - n) (drop n p), length-drop n p)

-- ---- a piece of a number

refused_at : (way : FrameReading) (c : ℕ) (piece : List ℕ) (taken waits : ℕ) (fault : CollectFault) (h : History)
    (s : Stream) → stream_of c h.streams ≡ Some s → IsPieceCause way piece taken waits fault s
    → IsPieceRefusal way c piece taken waits fault h
refused_at way c piece taken waits (Memory n) h s is cause = rw is cause
refused_at way c piece taken waits ConnFailed h s is cause = rw is cause
refused_at way c piece taken waits StreamTooLong h s is cause = rw is cause
refused_at way c piece taken waits NotOpen h s is cause = absurd cause
refused_at way c piece taken waits AlreadyOpen h s is cause = absurd cause
refused_at way c piece taken waits TooManyOpen h s is cause = absurd cause
refused_at way c piece taken waits Unreleased h s is cause = absurd cause
refused_at way c piece taken waits (Unterminated start) h s is cause = absurd cause

-- a piece of the connection that was found
pub piece_refused : (way : FrameReading) (c n : ℕ) (x y : Connection) (ls : List Connection)
    (past kept now first : List Entry)
    (es : List AcceptedEvent) (o : List ℕ) (r : EventEnd) (l m : List Outcome)
    → place_from c 0 ls ≡ Some n → x ≡ get_or ls n x
    → ((s : Stream) (d : List (List ℕ)) → IsAt x s d → Logs way x y kept now (piece_octets o r) l m s d)
    → ((s : Stream) (d : List (List ℕ)) → IsAt x s d
    → IfStopped r (λ taken fault. StopsPiece way o taken (ready_count y.scanner.phase) fault s))
    → Stands way ls (past ++ kept) first es
    → IfStopped r (λ taken fault. StopsPieceAt way c o taken (waiting (set_at ls n y) c) fault (history_of es))
piece_refused way c n x y ls past kept now first es o end_Done l m is item logs cause was = tt
piece_refused way c n x y ls past kept now first es o (end_Stopped taken fault) l m is item logs cause was =
    let here = found_here c n x ls is item in
    let there = opening_at c n x ls (history_of es).streams was.stands_at.handled was.stands_at.follow here in
    let then = reached way x y kept now (take taken o) l m there.opening there.handled there.at
    (logs there.opening there.handled there.at) in
    let number : y.number ≡ x.number = then.1.number ∙ sym there.at.number in
    let one = waiting_at c n y (set_at ls n y) (place_set c n x y ls number here) in
    elim (cause there.opening there.handled there.at) [
      | inl (room, between) ↦
          inl (
            room,
            subst (λ (k : ℕ). IsBetweenAt c o taken k (history_of es)) (sym one)
                (between_at c o taken (ready_count y.scanner.phase) (history_of es) there.opening there.is between),
          )
      | inr why ↦
          inr (subst (λ (k : ℕ). IsPieceRefusal way c o taken k fault (history_of es)) (sym one)
          (refused_at way c o taken (ready_count y.scanner.phase) fault (history_of es) there.opening there.is why))
    ]

-- ---- events

pub opening_refused : (limit : ℕ) (way : FrameReading) (h : History) (w : ℕ
    → ℕ) (c : ℕ) (k : Framing) (r : Result (Unit {0}) CollectFault) → IsOpening limit c r h
    → IfStopped (event_end r) (StopsAt limit way h w (event_Opened c k))
opening_refused limit way h w c k (Ok u) cause = tt
opening_refused limit way h w c k (Err fault) cause = (omega arith, inr cause)

pub ending_refused : (limit : ℕ) (way : FrameReading) (h : History) (w v : ℕ → ℕ) (c : ℕ) (r : Result (Unit {0}) CollectFault)
    → IsEnding c r h → IfUnreleased r (w c ≡ 1) → v c ≡ w c
    → IfStopped (event_end r) (StopsAt limit way h v (event_Ended c))
ending_refused limit way h w v c (Ok u) cause ready same = tt
ending_refused limit way h w v c (Err fault) cause ready same =
    (omega arith, inr (cause, subst (λ (k : ℕ). IfUnreleased {U = Unit {0}} (Err fault) (k ≡ 1)) (sym same) ready))

pub piece_event_refused : (limit : ℕ) (way : FrameReading) (h : History) (w : ℕ → ℕ) (c : ℕ) (o : Bor (List ℕ)) (r : EventEnd)
    → IfStopped r (λ taken fault. taken ≤ length o.now)
    → IfStopped r (λ taken fault. StopsPieceAt way c o.now taken (w c) fault h)
    → IfStopped r (StopsAt limit way h w (event_Piece c o))
piece_event_refused limit way h w c o end_Done within cause = tt
piece_event_refused limit way h w c o (end_Stopped taken fault) within cause = (within, cause)

pub datagram_refused : (limit : ℕ) (way : FrameReading) (h : History) (w : ℕ → ℕ) (o : Bor (List ℕ)) (r : EventEnd)
    → IfStopped r (λ taken fault. (taken ≡ 0) × (fault ≡ Memory 0) × IsRecordFrame way o.now)
    → IfStopped r (StopsAt limit way h w (event_Datagram o))
datagram_refused limit way h w o end_Done cause = tt
datagram_refused limit way h w o (end_Stopped taken fault) (none, memory, spelled) = (omega arith, inr (memory, spelled))

pub first_stops : (limit : ℕ) (way : FrameReading) (h : History) (w : ℕ
    → ℕ) (es : List Event) (n taken : ℕ) (fault : CollectFault) (d : Event) → n < length es
    → StopsAt limit way h w (get_or es n d) taken fault
    → StopsAtFirst limit way h w (drop n es) taken fault
first_stops limit way h w [] n taken fault d lt stops = absurd (omega arith)
first_stops limit way h w (e ∷ es) zero taken fault d lt stops = stops
first_stops limit way h w (e ∷ es) (suc n) taken fault d lt stops =
    first_stops limit way h w es n taken fault d (omega arith) stops

pub done_any : (r : EventEnd) → IfDone r (Unit {0})
done_any end_Done = tt
done_any (end_Stopped taken fault) = tt

-- an end that is accepted
pub ending_done : (h : History) (c : ℕ) (r : Result (Unit {0}) CollectFault) → IsEnding c r h
    → IfDone (event_end r) (EndsWell h (event_Ended c))
ending_done h c (Ok u) cause = cause
ending_done h c (Err fault) cause = tt

-- one event more
pub end_well-next : (h : History) (es : List Event) (n : ℕ) (d : Event) → n < length es → EndWell h (take n es)
    → EndsWell (history_after h (accepted_all (take n es))) (get_or es n d) → EndWell h (take (n + 1) es)
end_well-next h [] n d lt all here = absurd (omega arith)
end_well-next h (e ∷ es) zero d lt all here = (here, tt)
end_well-next h (e ∷ es) (suc n) d lt all here =
    let next : suc n + 1 ≡ suc (n + 1) = omega arith in
    rw next (all.0, end_well-next (accept h (accepted_event e)) es n d (omega arith) all.1 here)

pub end_well-whole : (h : History) (es : List Event) (n : ℕ) → n ≡ length es → EndWell h (take n es) → EndWell h es
end_well-whole h [] n is all = tt
end_well-whole h (e ∷ es) zero is all = absurd (omega arith)
end_well-whole h (e ∷ es) (suc n) is all =
    (all.0, end_well-whole (accept h (accepted_event e)) es n (omega arith) all.1)

-- a run of one event
pub one_stops : (limit : ℕ) (way : FrameReading) (h : History) (w : ℕ → ℕ) (e : Event) (at taken : ℕ) (fault : CollectFault)
    → StopsAs limit way h w (e ∷ []) (Stopped at taken fault) → (at ≡ 0) × StopsAt limit way h w e taken fault
one_stops limit way h w e zero taken fault (lt, stops) = (refl, stops)
one_stops limit way h w e (suc n) taken fault (lt, stops) = absurd (omega arith)
