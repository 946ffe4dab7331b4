-- A run, event by event.
use Rattle.std.proofs.Common.{◌≡◌, ℕ, zero, suc, ◌+◌, ◌<◌, true, false, cond, eqb, List, [], ◌∷◌, ◌++◌, length, take}
use Rattle.std.proofs.Common.{drop, get_or, set as set_at, inl, inr, refl, sym, ◌∙◌, ap, subst, arith}
use Rattle.std.specs.Prelude.{Some, Result, Ok, Err}
use Rattle.std.proofs.lemmas.List.{append-nil}
use denote.Bor.{Bor}
use Rattle.syslog_frame.specs.declared.framing.Framing.{Framing}
use Rattle.archive_text.specs.Entries.{Entry}
use Rattle.syslog_legacy.specs.declared.frame_reading.FrameReading.{FrameReading}
use Rattle.syslog_collect.specs.declared.connection.Connection.{Connection}
use Rattle.syslog_collect.specs.declared.event.Event.{Event}
use Rattle.syslog_collect.specs.declared.event.Event.TheVariants.{Opened as event_Opened, Piece as event_Piece}
use Rattle.syslog_collect.specs.declared.event.Event.TheVariants.{Ended as event_Ended, Datagram as event_Datagram}
use Rattle.syslog_collect.specs.declared.event.EventEnd.{EventEnd}
use Rattle.syslog_collect.specs.declared.event.EventEnd.TheVariants.{Done as end_Done, Stopped as end_Stopped}
use Rattle.syslog_collect.specs.declared.fault.CollectFault.{CollectFault}
use Rattle.syslog_collect.specs.declared.fault.CollectFault.TheVariants.{AlreadyOpen, TooManyOpen, NotOpen, ConnFailed}
use Rattle.syslog_collect.specs.declared.fault.CollectFault.TheVariants.{StreamTooLong, Unreleased, Unterminated}
use Rattle.syslog_collect.specs.declared.fault.CollectFault.TheVariants.{Memory}
use Rattle.syslog_collect.specs.declared.outcome.Outcome.{Outcome}
use Rattle.syslog_collect.specs.Answers.{Advances, accepted_ending, accepted_opening}
use Rattle.syslog_collect.specs.History.{History, MayContinue, Piece, Stream, AcceptedEvent, history_of, accept}
use Rattle.syslog_collect.specs.History.{with_piece, with_octets}
use Rattle.syslog_collect.specs.Outcomes.{AreReported}
use Rattle.syslog_collect.specs.Runs.{IfDone, Logs, LogsAdvance, accepted_all, accepted_by, accepted_datagram_end}
use Rattle.syslog_collect.specs.Runs.{accepted_event, accepted_first, accepted_part, accepted_piece_end, event_end}
use Rattle.syslog_collect.specs.Runs.{nonempty_piece, piece_octets}
use Rattle.syslog_collect.specs.Standing.{IsAt, StandsInOrder as StandsAt}
use Rattle.syslog_collect.proofs.Ordered.{StandsOrdered as Stands}
use Rattle.syslog_collect.proofs.Places.{AdvancesOn, found_here, opening_at, place_from}
use Rattle.syslog_collect.proofs.Steps.{advance_step, moved, step}

-- ---- a piece, by what was logged of it

drop_past : (l os : List Outcome) → drop (length l) (l ++ os) ≡ os
drop_past [] os = refl
drop_past (x ∷ l) os = drop_past l os

grown : (l m os : List Outcome) → m ≡ l ++ os → os ≡ drop (length l) m
grown l m os e = sym (ap (λ (u : List Outcome). drop (length l) u) e ∙ drop_past l os)

pub with_octets_none : (s : Stream) → with_octets s [] ≡ s
with_octets_none s = ap (λ (z : List ℕ). let t : Stream = record { number = s.number; framing = s.framing; octets = z }
    in t) (append-nil s.octets)

on_of : (way : FrameReading) (x y : Connection) (a b : List Entry) (o : List ℕ) (l m : List Outcome) (s : Stream)
    (d : List (List ℕ)) → IsAt x s d → Logs way x y a b o l m s d → AdvancesOn way x y a b o (drop (length l) m) s d
on_of way x y a b o l m s d at (os, log, inl (none, same, kept, quiet)) = record {
  fresh = [];
  now_at = subst (λ (u : List ℕ). IsAt y (with_octets s u) (d ++ [])) (sym none)
      (subst (λ (t : Stream). IsAt y t (d ++ [])) (sym (with_octets_none s))
      (subst (λ (fs : List (List ℕ)). IsAt y s fs) (sym (append-nil d))
      (subst (λ (w : Connection). IsAt w s d) (sym same) at)));
  reported = subst (λ (u : List Outcome). AreReported way a b [] u) (sym quiet ∙ grown l m os log) (refl, kept);
}
on_of way x y a b o l m s d at (os, log, inr moves) = record {
  fresh = moves.fresh;
  now_at = moves.now_at;
  reported = subst (λ (u : List Outcome). AreReported way a b moves.fresh u) (grown l m os log) moves.reported;
}

may_of : (way : FrameReading) (x y : Connection) (a b : List Entry) (z : ℕ) (zs : List ℕ) (l m : List Outcome)
    (s : Stream)
    (d : List (List ℕ)) → Logs way x y a b (z ∷ zs) l m s d → MayContinue (z ∷ zs) s
may_of way x y a b z zs l m s d (os, log, inl (none, same, kept, quiet)) = absurd (cc)
may_of way x y a b z zs l m s d (os, log, inr moves) = moves.may

with_empty_piece : (c : ℕ) (ss : List Stream) → with_piece c [] ss ≡ ss
with_empty_piece c [] = refl
with_empty_piece c (s ∷ ss) =
    elim (eqb s.number c) as (λ b. cond b (with_octets s [] ∷ ss) (s ∷ with_piece c [] ss) ≡ s ∷ ss) [
      | true ↦ ap (λ (t : Stream). t ∷ ss) (with_octets_none s)
      | false ↦ ap (λ (zs : List Stream). s ∷ zs) (with_empty_piece c ss)
    ]

pub logged_found : (way : FrameReading) (c n : ℕ) (x y : Connection) (ls : List Connection)
    (past kept now first : List Entry)
    (es : List AcceptedEvent) (o : List ℕ) (l m : List Outcome)
    → place_from c 0 ls ≡ Some n → x ≡ get_or ls n x
    → ((s : Stream) (d : List (List ℕ)) → IsAt x s d → Logs way x y kept now o l m s d)
    → Stands way ls (past ++ kept) first es
    → Stands way (set_at ls n y) (past ++ now) first (es ++ nonempty_piece c o)
logged_found way c n x y ls past kept now first es [] l m is item logs was =
    let h = history_of es in
    let next = moved way c n x y ls past kept now first h [] (drop (length l) m) (found_here c n x ls is item)
    (λ s d at. on_of way x y kept now [] l m s d at (logs s d at)) was.stands_at in
    let same : accept h (Piece c []) ≡ h = ap (λ (ss : List Stream). let g : History =
    record { streams = ss; ended = h.ended; datagrams = h.datagrams } in g) (with_empty_piece c h.streams) in
    rw append-nil (record {
      acceptable = was.acceptable;
      stands_at =
          subst (λ (g : History). StandsAt way (set_at ls n y) (past ++ now) first g) same next;
    })
logged_found way c n x y ls past kept now first es (z ∷ zs) l m is item logs was =
    let h = history_of es in
    let at = found_here c n x ls is item in
    let there = opening_at c n x ls h.streams was.stands_at.handled was.stands_at.follow at in
    step way ls (set_at ls n y) (past ++ kept) (past ++ now) first es (Piece c (z ∷ zs)) was
    (rw there.is (may_of way x y kept now z zs l m there.opening there.handled
    (logs there.opening there.handled there.at)))
    (moved way c n x y ls past kept now first h (z ∷ zs) (drop (length l) m) at
    (λ s d a. on_of way x y kept now (z ∷ zs) l m s d a (logs s d a)) was.stands_at)

-- a piece of the connection that was found, as far as it went
pub piece_found : (way : FrameReading) (c n : ℕ) (x y : Connection) (ls : List Connection)
    (past kept now first : List Entry)
    (es : List AcceptedEvent) (o : List ℕ) (r : EventEnd) (l m : List Outcome)
    → place_from c 0 ls ≡ Some n → x ≡ get_or ls n x
    → ((s : Stream) (d : List (List ℕ)) → IsAt x s d → Logs way x y kept now (piece_octets o r) l m s d)
    → ((s : Stream) (d : List (List ℕ)) → IsAt x s d → IfDone r (LogsAdvance way x y kept now o l m s d))
    → Stands way ls (past ++ kept) first es
    → Stands way (set_at ls n y) (past ++ now) first (es ++ accepted_piece_end c o r)
piece_found way c n x y ls past kept now first es o end_Done l m is item logs accepted was =
    advance_step way c n x y ls past kept now first es o (drop (length l) m) (found_here c n x ls is item)
    (λ s d at. adv s d (accepted s d at)) was
  where
    adv : (s : Stream) (d : List (List ℕ)) → LogsAdvance way x y kept now o l m s d
        → Advances way x y kept now o (drop (length l) m) s d
    adv s d (os, log, moves) = subst (λ (u : List Outcome). Advances way x y kept now o u s d) (grown l m os log)
        moves
piece_found way c n x y ls past kept now first es o (end_Stopped k fault) l m is item logs accepted was =
    logged_found way c n x y ls past kept now first es (take k o) l m is item logs was

-- ---- events

pub opening_accepted : {U : Type 0} (c : ℕ) (k : Framing) (r : Result U CollectFault)
    → accepted_opening c k r ≡ accepted_by (event_Opened c k) (event_end r)
opening_accepted c k (Ok u) = refl
opening_accepted c k (Err fault) = refl

pub ending_accepted : {U : Type 0} (c : ℕ) (r : Result U CollectFault)
    → accepted_ending c r ≡ accepted_by (event_Ended c) (event_end r)
ending_accepted c (Ok u) = refl
ending_accepted c (Err (Unterminated start)) = refl
ending_accepted c (Err AlreadyOpen) = refl
ending_accepted c (Err TooManyOpen) = refl
ending_accepted c (Err NotOpen) = refl
ending_accepted c (Err ConnFailed) = refl
ending_accepted c (Err StreamTooLong) = refl
ending_accepted c (Err Unreleased) = refl
ending_accepted c (Err (Memory n)) = refl

pub piece_accepted : (c : ℕ) (o : Bor (List ℕ)) (r : EventEnd)
    → accepted_piece_end c o.now r ≡ accepted_by (event_Piece c o) r
piece_accepted c o end_Done = refl
piece_accepted c o (end_Stopped n fault) = refl

pub datagram_accepted : (o : Bor (List ℕ)) (r : EventEnd)
    → accepted_datagram_end o.now r ≡ accepted_by (event_Datagram o) r
datagram_accepted o end_Done = refl
datagram_accepted o (end_Stopped n fault) = refl

-- nothing of an event
pub accepted_nothing : (e : Event) → accepted_part e 0 (Memory 0) ≡ []
accepted_nothing (event_Opened c k) = refl
accepted_nothing (event_Piece c o) = refl
accepted_nothing (event_Ended c) = refl
accepted_nothing (event_Datagram o) = refl

pub accepted_all-next : (es : List Event) (n : ℕ) (d : Event) → n < length es
    → accepted_all (take (n + 1) es) ≡ accepted_all (take n es) ++ accepted_event (get_or es n d) ∷ []
accepted_all-next [] n d h = absurd (omega arith)
accepted_all-next (e ∷ es) zero d h = refl
accepted_all-next (e ∷ es) (suc n) d h =
    let next : suc n + 1 ≡ suc (n + 1) = omega arith in
    rw next (ap (λ (xs : List AcceptedEvent). accepted_event e ∷ xs) (accepted_all-next es n d (omega arith)))

pub accepted_first-here : (es : List Event) (n k : ℕ) (fault : CollectFault) (d : Event) → n < length es
    → accepted_first (drop n es) k fault ≡ accepted_part (get_or es n d) k fault
accepted_first-here [] n k fault d h = absurd (omega arith)
accepted_first-here (e ∷ es) zero k fault d h = refl
accepted_first-here (e ∷ es) (suc n) k fault d h = accepted_first-here es n k fault d (omega arith)

pub accepted_all-whole : (es : List Event) (n : ℕ) → n ≡ length es → accepted_all (take n es) ≡ accepted_all es
accepted_all-whole [] zero h = refl
accepted_all-whole [] (suc n) h = refl
accepted_all-whole (e ∷ es) zero h = absurd (omega arith)
accepted_all-whole (e ∷ es) (suc n) h = ap (λ (xs : List AcceptedEvent). accepted_event e ∷ xs)
    (accepted_all-whole es n (omega arith))
