-- What is logged of events, one after the other.
use Rattle.std.proofs.Common.{◌≡◌, ◌<◌, ℕ, zero, suc, length, drop, arith, List, [], ◌∷◌, ◌++◌, get_or, set as set_at}
use Rattle.std.proofs.Common.{take, inl, inr, append_assoc, refl, sym, ◌∙◌, ap, subst, cond, eqb, true, false}
use Rattle.std.specs.Prelude.{Some, Result, Ok, Err, IfOk, OnOk}
use denote.Bor.{Bor}
use Rattle.syslog_frame.specs.declared.framing.Framing.{Framing}
use Rattle.syslog_legacy.specs.declared.frame_reading.FrameReading.{FrameReading}
use Rattle.syslog_collect.specs.declared.event.Event.{Event}
use Rattle.syslog_collect.specs.declared.event.Event.TheVariants.{Opened as event_Opened, Piece as event_Piece}
use Rattle.syslog_collect.specs.declared.event.Event.TheVariants.{Ended as event_Ended, Datagram as event_Datagram}
use Rattle.syslog_collect.specs.declared.event.RunEnd.TheVariants.{Stopped}
use Rattle.syslog_collect.specs.declared.fault.Advance.{Advance}
use Rattle.syslog_collect.specs.declared.fault.CollectFault.{CollectFault}
use Rattle.syslog_collect.specs.Answers.{Advances, AdvancesBy, accepted_octets, answered, used_octets}
use Rattle.std.proofs.lemmas.List.{append-nil}
use Rattle.syslog_frame.specs.Scan.{HasReady}
use Rattle.archive_text.specs.Entries.{Entry}
use Rattle.syslog_collect.specs.declared.connection.Connection.{Connection}
use Rattle.syslog_collect.specs.declared.event.EventEnd.{EventEnd}
use Rattle.syslog_collect.specs.declared.event.EventEnd.TheVariants.{Done as end_Done, Stopped as end_Stopped}
use Rattle.syslog_collect.specs.declared.outcome.Outcome.{Outcome}
use Rattle.syslog_collect.specs.Outcomes.{outcomes_of}
use Rattle.syslog_collect.specs.Frames.{IsFramesOf}
use Rattle.syslog_collect.specs.History.{AcceptedEvent, Datagram, Ended, History, Opened, Piece, Stream, accept}
use Rattle.syslog_collect.specs.History.{history_after, history_of, with_octets}
use Rattle.syslog_collect.specs.Logs.{Grows, IsLogOf, LogsDatagram, LogsEvent, LogsEventEnd, LogsFirst, LogsOctets}
use Rattle.syslog_collect.specs.Logs.{LogsPiece, LogsRefused, LogsRun, Reports, ready_count, waiting_after}
use Rattle.syslog_collect.specs.Logs.{waiting_after_all}
use Rattle.syslog_collect.specs.Runs.{IfDone, Logs, LogsAdvance, accepted_all, accepted_event, piece_octets}
use Rattle.syslog_collect.specs.Standing.{IsAt}
use Rattle.syslog_collect.proofs.Ordered.{StandsOrdered as Stands, waiting_in as waiting}
use Rattle.syslog_collect.proofs.Places.{AtPlace, found_here, opening_at, place_from, set_same}
use Rattle.syslog_collect.proofs.Waiting.{frames_waiting, place_set, ready_none, waiting_at, waiting_other, waiting_set}

-- ---- octets of one connection

pub logs_octets : (way : FrameReading) (x y : Connection) (a b : List Entry) (o : List ℕ) (os : List Outcome)
    (s : Stream)
    (d : List (List ℕ)) → IsAt x s d → Advances way x y a b o os s d
    → LogsOctets way s o (ready_count x.scanner.phase) (ready_count y.scanner.phase) a b os
logs_octets way x y a b o os s d at moves =
    let before = frames_waiting x s d at in
    let now = frames_waiting y (with_octets s o) (d ++ moves.fresh) moves.now_at in
    record {
      sound = moves.may.0;
      handled = d;
      waiting_before = before.left;
      logged = moves.fresh;
      waiting_now = now.left;
      before = before.frames;
      count_before = before.count;
      now = subst (λ (fs : List (List ℕ)). IsFramesOf (with_octets s o) fs) (append_assoc d moves.fresh now.left)
          now.frames;
      count_now = now.count;
      outcomes = moves.reported;
      bad_count = moves.marks;
    }

-- the same by the numbers
logs_there : (way : FrameReading) (c n : ℕ) (x y : Connection) (ls : List Connection) (a b : List Entry) (o : List ℕ)
    (os : List Outcome) (s : Stream) (d : List (List ℕ)) → AtPlace c ls n x → IsAt x s d
    → Advances way x y a b o os s d
    → LogsOctets way s o (waiting ls c) (ready_count y.scanner.phase) a b os
logs_there way c n x y ls a b o os s d here at moves =
    subst (λ (w : ℕ). LogsOctets way s o w (ready_count y.scanner.phase) a b os) (sym (waiting_at c n x ls here))
    (logs_octets way x y a b o os s d at moves)

-- after an advance that answers Ok, its outcome is that of the frame that waited, or of the next
pub reports_found : (way : FrameReading) (c n : ℕ) (x y : Connection) (ls : List Connection)
    (past kept now first : List Entry)
    (es : List AcceptedEvent) (piece : List ℕ) (r : Result Advance CollectFault)
    → place_from c 0 ls ≡ Some n → x ≡ get_or ls n x
    → ((s : Stream) (d : List (List ℕ)) → IsAt x s d
    → AdvancesBy way (accepted_octets piece r) x y kept now (answered r) s d)
    → OnOk r (¬ (HasReady y.scanner)) → Stands way ls (past ++ kept) first es
    → IfOk r (λ a. Reports way c (used_octets piece a) (history_of es) (waiting ls c) kept now
    (outcomes_of a.outcome))
reports_found way c n x y ls past kept now first es piece (Ok a) is item moves quiet was =
    let here = found_here c n x ls is item in
    let there = opening_at c n x ls (history_of es).streams was.stands_at.handled was.stands_at.follow here in
    let logs = logs_there way c n x y ls kept now (used_octets piece a) (outcomes_of a.outcome) there.opening
    there.handled here there.at (moves there.opening there.handled there.at) in
    rw there.is (subst (λ (k : ℕ). LogsOctets way there.opening (used_octets piece a) (waiting ls c) k kept now
    (outcomes_of a.outcome)) (ready_none y.scanner.phase (λ f. quiet (inl f))) logs)
reports_found way c n x y ls past kept now first es piece (Err fault) is item moves quiet was = tt

-- ---- a piece

same_number : (way : FrameReading) (x y : Connection) (a b : List Entry) (o : List ℕ) (os : List Outcome) (s : Stream)
    (d : List (List ℕ)) → IsAt x s d → Advances way x y a b o os s d → y.number ≡ x.number
same_number way x y a b o os s d at moves = moves.now_at.number ∙ sym at.number

pub piece_logged : (way : FrameReading) (c n : ℕ) (x y : Connection) (ls : List Connection)
    (past kept now first : List Entry)
    (es : List AcceptedEvent) (o : List ℕ) (r : EventEnd) (l m : List Outcome)
    → place_from c 0 ls ≡ Some n → x ≡ get_or ls n x
    → ((s : Stream) (d : List (List ℕ)) → IsAt x s d → Logs way x y kept now (piece_octets o r) l m s d)
    → ((s : Stream) (d : List (List ℕ)) → IsAt x s d → IfDone r (LogsAdvance way x y kept now o l m s d))
    → IfDone r (¬ (HasReady y.scanner))
    → Stands way ls (past ++ kept) first es → Grows (LogsPiece way (history_of es) (waiting ls) (waiting (set_at ls n y)) c o
    r kept now) l m
piece_logged way c n x y ls past kept now first es o end_Done l m is item logs accepted quiet was =
    let here = found_here c n x ls is item in
    let there = opening_at c n x ls (history_of es).streams was.stands_at.handled was.stands_at.follow here in
    let done = accepted there.opening there.handled there.at in
    let none = ready_none y.scanner.phase (λ f. quiet (inl f)) in
    let octets = logs_there way c n x y ls kept now o done.0 there.opening there.handled here there.at done.2 in (
      done.0,
      done.1,
      (
        rw there.is (subst (λ (k : ℕ). LogsOctets way there.opening o (waiting ls c) k kept now done.0) none octets),
        waiting_set c n 0 x y ls (same_number way x y kept now o done.0 there.opening there.handled there.at done.2)
            here none,
      ),
    )
piece_logged way c n x y ls past kept now first es o (end_Stopped k fault) l m is item logs accepted quiet was =
    let here = found_here c n x ls is item in
    let there = opening_at c n x ls (history_of es).streams was.stands_at.handled was.stands_at.follow here in
    let part = logs there.opening there.handled there.at in (
      part.0,
      part.1,
      elim part.2 [
        | inl (none, same, kept_same, silent) ↦ inl (
          none,
          (
            silent,
            kept_same,
            λ d. ap (λ (zs : List Connection). waiting zs d)
                (ap (λ (z : Connection). set_at ls n z) same ∙ set_same c n x ls here),
          ),
        )
        | inr moves ↦
            let number = same_number way x y kept now (take k o) part.0 there.opening there.handled there.at moves in
            let octets = logs_there way c n x y ls kept now (take k o) part.0 there.opening there.handled here
            there.at moves in
            let now_there = waiting_at c n y (set_at ls n y) (place_set c n x y ls number here) in
            inr (
              rw there.is (subst (λ (v : ℕ). LogsOctets way there.opening (take k o) (waiting ls c) v kept now
                  part.0) (sym now_there) octets),
              λ d ne. waiting_other c n d x y ls number here ne,
            )
      ],
    )

-- nothing of a piece
pub nothing_of_piece : (way : FrameReading) (h : History) (w : ℕ
    → ℕ) (c : ℕ) (o : List ℕ) (fault : CollectFault) (a : List Entry) (l : List Outcome)
    → Grows (LogsPiece way h w w c o (end_Stopped 0 fault) a a) l l
nothing_of_piece way h w c o fault a l = ([], sym (append-nil l), inl (refl, (refl, refl, λ d. refl)))

-- ---- an event

pub opened_logged : (way : FrameReading) (h : History) (w v : ℕ
    → ℕ) (c : ℕ) (k : Framing) (r : EventEnd) (a b : List Entry) (l m : List Outcome) → m ≡ l → b ≡ a
    → ((d : ℕ) → v d ≡ w d) → Grows (LogsEventEnd way h w v (event_Opened c k) r a b) l m
opened_logged way h w v c k end_Done a b l m same kept waits = ([], same ∙ sym (append-nil l), ((refl, kept), waits))
opened_logged way h w v c k (end_Stopped n fault) a b l m same kept waits =
    ([], same ∙ sym (append-nil l), (refl, kept, waits))

pub ended_logged : (way : FrameReading) (h : History) (w v : ℕ
    → ℕ) (c : ℕ) (r : EventEnd) (a b : List Entry) (l m : List Outcome) → m ≡ l → b ≡ a → ((d : ℕ) → v d ≡ w d)
    → Grows (LogsEventEnd way h w v (event_Ended c) r a b) l m
ended_logged way h w v c end_Done a b l m same kept waits = ([], same ∙ sym (append-nil l), ((refl, kept), waits))
ended_logged way h w v c (end_Stopped n fault) a b l m same kept waits =
    ([], same ∙ sym (append-nil l), (refl, kept, waits))

pub piece_event_logged : (way : FrameReading) (h : History) (w v : ℕ
    → ℕ) (c : ℕ) (o : Bor (List ℕ)) (r : EventEnd) (a b : List Entry) (l m : List Outcome)
    → Grows (LogsPiece way h w v c o.now r a b) l m → Grows (LogsEventEnd way h w v (event_Piece c o) r a b) l m
piece_event_logged way h w v c o end_Done a b l m logs = logs
piece_event_logged way h w v c o (end_Stopped n fault) a b l m logs = logs

pub datagram_logged : (way : FrameReading) (h : History) (w v : ℕ
    → ℕ) (o : Bor (List ℕ)) (r : EventEnd) (a b : List Entry) (l m : List Outcome) → ((d : ℕ) → v d ≡ w d)
    → Grows (LogsDatagram way o.now r a b) l m → Grows (LogsEventEnd way h w v (event_Datagram o) r a b) l m
datagram_logged way h w v o end_Done a b l m waits (os, log, out) = (os, log, (out, waits))
datagram_logged way h w v o (end_Stopped n fault) a b l m waits (os, log, (none, same)) =
    (os, log, (none, same, waits))

-- nothing of an event
pub nothing_logged : (way : FrameReading) (h : History) (w : ℕ
    → ℕ) (e : Event) (fault : CollectFault) (a : List Entry) (l m : List Outcome) → m ≡ l
    → Grows (LogsEventEnd way h w w e (end_Stopped 0 fault) a a) l m
nothing_logged way h w (event_Opened c k) fault a l m same = ([], same ∙ sym (append-nil l), (refl, refl, λ d. refl))
nothing_logged way h w (event_Piece c o) fault a l m same =
    ([], same ∙ sym (append-nil l), inl (refl, (refl, refl, λ d. refl)))
nothing_logged way h w (event_Ended c) fault a l m same = ([], same ∙ sym (append-nil l), (refl, refl, λ d. refl))
nothing_logged way h w (event_Datagram o) fault a l m same = ([], same ∙ sym (append-nil l), (refl, refl, λ d. refl))

-- ---- one event after the other

pub history_after-append : (h : History) (es fs : List AcceptedEvent)
    → history_after h (es ++ fs) ≡ history_after (history_after h es) fs
history_after-append h [] fs = refl
history_after-append h (e ∷ es) fs = history_after-append (accept h e) es fs

log_push : (way : FrameReading) (h : History) (w : ℕ → ℕ) (es : List AcceptedEvent) (e : AcceptedEvent) (u v : ℕ
    → ℕ) (a b c : List Entry) (os ps : List Outcome) → IsLogOf way h w es u a b os
    → LogsEvent way (history_after h es) u e b c ps → ((d : ℕ) → v d ≡ waiting_after u e d)
    → IsLogOf way h w (es ++ e ∷ []) v a c (os ++ ps)
log_push way h w [] e u v a b c os ps (none, same, is) logs waits =
    let all : u ≡ w = λ i d. is d i in (
      ps,
      [],
      c,
      ap (λ (z : List Outcome). z ++ ps) none ∙ sym (append-nil ps),
      subst (λ (k : List Entry). LogsEvent way h w e k c ps) same
          (subst (λ (f : ℕ → ℕ). LogsEvent way h f e b c ps) all logs),
      (refl, refl, λ d. waits d ∙ ap (λ (f : ℕ → ℕ). waiting_after f e d) all),
    )
log_push way h w (f ∷ es) e u v a b c os ps (here, later, mid, is, one, more) logs waits = (
  here,
  later ++ ps,
  mid,
  ap (λ (z : List Outcome). z ++ ps) is
      ∙ append_assoc here later ps,
  one,
  log_push way (accept h f) (waiting_after w f) es e u v mid b c later ps
      more logs waits,
)

pub grows_push : (way : FrameReading) (h : History) (w : ℕ → ℕ) (es : List AcceptedEvent) (e : Event) (u v : ℕ
    → ℕ) (a b c : List Entry) (l m n : List Outcome) → Grows (IsLogOf way h w es u a b) l m
    → Grows (LogsEventEnd way (history_after h es) u v e end_Done b c) m n
    → Grows (IsLogOf way h w (es ++ accepted_event e ∷ []) v a c) l n
grows_push way h w es e u v a b c l m n (os, log, is) (ps, more, (logs, waits)) = (
  os ++ ps,
  more ∙ ap (λ (z : List Outcome). z ++ ps) log
      ∙ append_assoc l os ps,
  log_push way h w es (accepted_event e) u v a b c os ps is logs waits,
)

pub grows_none : (way : FrameReading) (h : History) (w : ℕ → ℕ) (a : List Entry) (l : List Outcome)
    → Grows (IsLogOf way h w [] w a a) l l
grows_none way h w a l = ([], sym (append-nil l), (refl, refl, λ d. refl))

-- how many frames wait after events
pub log_waits : (way : FrameReading) (h : History) (w v : ℕ → ℕ) (es : List AcceptedEvent) (a b : List Entry)
    (os : List Outcome) → IsLogOf way h w es v a b os → (d : ℕ) → v d ≡ waiting_after_all w es d
log_waits way h w v [] a b os (none, same, is) d = is d
log_waits way h w v (e ∷ es) a b os (here, later, mid, is, one, more) d =
    log_waits way (accept h e) (waiting_after w e) v es mid b later more d

none_after : (w : ℕ → ℕ) (e : AcceptedEvent) → ((d : ℕ) → w d ≡ 0) → (d : ℕ) → waiting_after w e d ≡ 0
none_after w (Opened c k) none d = none d
none_after w (Piece c o) none d = elim (eqb c d) as (λ b. cond b 0 (w d) ≡ 0) [ true ↦ refl | false ↦ none d ]
none_after w (Ended c) none d = none d
none_after w (Datagram o) none d = none d

-- where none waited, none waits after events
pub none_after_all : (w : ℕ → ℕ) (es : List AcceptedEvent) → ((d : ℕ) → w d ≡ 0) → (d : ℕ)
    → waiting_after_all w es d ≡ 0
none_after_all w [] none d = none d
none_after_all w (e ∷ es) none d = none_after_all (waiting_after w e) es (none_after w e none) d

first_here : (way : FrameReading) (h : History) (w v : ℕ
    → ℕ) (es : List Event) (n k : ℕ) (d : Event) (a b : List Entry) (os : List Outcome) → n < length es
    → LogsRefused way h w v (get_or es n d) k a b os → LogsFirst way h w v (drop n es) k a b os
first_here way h w v [] n k d a b os lt logs = absurd (omega arith)
first_here way h w v (e ∷ es) zero k d a b os lt logs = logs
first_here way h w v (e ∷ es) (suc n) k d a b os lt logs = first_here way h w v es n k d a b os (omega arith) logs

pub run_stopped : (way : FrameReading) (h : History) (w u v : ℕ
    → ℕ) (es : List Event) (n k : ℕ) (fault : CollectFault) (d : Event) (a b c : List Entry) (l m t : List Outcome)
    → n < length es → Grows (IsLogOf way h w (accepted_all (take n es)) u a b) l m
    → Grows (LogsEventEnd way (history_after h (accepted_all (take n es))) u v (get_or es n d) (end_Stopped k fault) b
    c) m t → Grows (LogsRun way h w v es (Stopped n k fault) a c) l t
run_stopped way h w u v es n k fault d a b c l m t lt (os, log, is) (ps, more, logs) = (
  os ++ ps,
  more ∙ ap (λ (z : List Outcome). z ++ ps) log ∙ append_assoc l os ps,
  (u, os, ps, b, refl, is, first_here way (history_after h (accepted_all (take n es))) u v es n k d b c ps lt logs),
)
