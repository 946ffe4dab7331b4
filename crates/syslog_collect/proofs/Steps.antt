-- A step of the collector, over whole lists of events.
use Rattle.std.proofs.Common.{◌≡◌, ℕ, ◌<◌, List, [], ◌∷◌, ◌++◌, length, set as set_at, get_or, inl, inr, append_assoc}
use Rattle.std.proofs.Common.{refl, sym, ◌∙◌, ap, subst, arith}
use Rattle.std.specs.Prelude.{◌+◌, Option, Some, None, Result, Ok, Err, IfOk, OnErr, IsSome, IsSomeAnd}
use Rattle.std.specs.List.{remove}
use Rattle.std.proofs.lemmas.List.{append-nil}
use Rattle.syslog_frame.specs.declared.framing.Framing.{Framing}
use Rattle.syslog_frame.specs.declared.limits.TheConstants.{FRAME_MAX}
use Rattle.syslog_frame.specs.Reads.{Reads}
use Rattle.syslog_frame.specs.Scan.{HasFrame, HasReady, IsFailed, IsReading, Scan}
use Rattle.syslog_frame.specs.Frames.{Frames}
use Rattle.syslog_frame.specs.declared.phase.Phase.{Phase}
use Rattle.syslog_frame.specs.declared.phase.Phase.TheVariants.{BadCount as phase_BadCount, Failed}
use Rattle.archive_text.specs.Entries.{Entry}
use Rattle.syslog_legacy.specs.declared.frame_reading.FrameReading.{FrameReading}
use Rattle.syslog_collect.specs.declared.connection.Connection.{Connection}
use Rattle.syslog_collect.specs.declared.fault.Advance.{Advance}
use Rattle.syslog_collect.specs.declared.fault.CollectFault.{CollectFault}
use Rattle.syslog_collect.specs.declared.fault.CollectFault.TheVariants.{AlreadyOpen, TooManyOpen, NotOpen, ConnFailed}
use Rattle.syslog_collect.specs.declared.fault.CollectFault.TheVariants.{StreamTooLong, Unreleased, Unterminated}
use Rattle.syslog_collect.specs.declared.fault.CollectFault.TheVariants.{Memory}
use Rattle.syslog_collect.specs.declared.limits.TheConstants.{CONNECTIONS_LIMIT}
use Rattle.syslog_collect.specs.declared.outcome.Outcome.{Outcome}
use Rattle.syslog_collect.specs.Answers.{EndsWhole, IsAnswerAt, IsCause, IsUnfinished, Advances, AdvancesBy}
use Rattle.syslog_collect.specs.Answers.{accepted_datagram, accepted_piece}
use Rattle.syslog_collect.specs.Frames.{AreFramesOf, Gains, all_of}
use Rattle.syslog_collect.specs.History.{Datagram, HoldsBadCount, Ended, History, MayAccept, MayAcceptAll, Opened}
use Rattle.syslog_collect.specs.History.{Piece, Stream, AcceptedEvent, history_after, history_of, accept, initial}
use Rattle.syslog_collect.specs.History.{stream_of}
use Rattle.syslog_collect.specs.Outcomes.{IsOutcome}
use Rattle.syslog_collect.specs.Standing.{IsAt, StandsInOrder as StandsAt}
use Rattle.syslog_collect.proofs.Gains.{Joins, SpellSame, all_of-append, gains_also, gains_behind, gains_frame, gains_more}
use Rattle.syslog_collect.proofs.Gains.{gains_nothing, gains_reported, joins_append, joins_before, spelled_after}
use Rattle.syslog_collect.proofs.Gains.{spelled_before, spelled_either}
use Rattle.syslog_collect.proofs.Moving.{good_open, open_unless_failed}
use Rattle.syslog_collect.proofs.Ordered.{StandsOrdered as Stands}
use Rattle.syslog_collect.proofs.Places.{AtPlace, IsHandled, AdvancesOn, advance_at, close_at, follow_push, found_at}
use Rattle.syslog_collect.proofs.Places.{found_here, no_stream, opening_at, place_from, same_count, set_same}

pub history_after-push : (h : History) (es : List AcceptedEvent) (e : AcceptedEvent)
    → history_after h (es ++ e ∷ []) ≡ accept (history_after h es) e
history_after-push h [] e = refl
history_after-push h (x ∷ es) e = history_after-push (accept h x) es e

pub may_push : (h : History) (es : List AcceptedEvent) (e : AcceptedEvent) → MayAcceptAll h es
    → MayAccept (history_after h es) e → MayAcceptAll h (es ++ e ∷ [])
may_push h [] e all may = (may, tt)
may_push h (x ∷ es) e all may = (all.0, may_push (accept h x) es e all.1 may)

-- one event more
pub step : (way : FrameReading) (ls ms : List Connection) (kept now first : List Entry) (es : List AcceptedEvent)
    (e : AcceptedEvent) → Stands way ls kept first es → MayAccept (history_of es) e
    → StandsAt way ms now first (accept (history_of es) e) → Stands way ms now first (es ++ e ∷ [])
step way ls ms kept now first es e was may next = record {
  acceptable = may_push initial es e was.acceptable may;
  stands_at = subst (λ (h : History). StandsAt way ms now first h) (sym (history_after-push initial es e)) next;
}

-- no event more
pub still : (way : FrameReading) (ls : List Connection) (kept now first : List Entry) (es : List AcceptedEvent)
    → now ≡ kept
    → Stands way ls kept first es → Stands way ls now first (es ++ [])
still way ls kept now first es same was = rw (append-nil es, same) was

-- before any event
pub stands_first : (way : FrameReading) (kept : List Entry) → Stands way [] kept kept []
stands_first way kept = record {
  acceptable = tt;
  stands_at = record { handled = []; ended_frames = []; follow = tt; ended_are = tt; gains = gains_nothing way kept };
}

pub datagram_step : (way : FrameReading) (ls : List Connection) (past kept now first : List Entry)
    (es : List AcceptedEvent) (octets : List ℕ) (o : Outcome) → IsOutcome way kept now octets o
    → Stands way ls (past ++ kept) first es → Stands way ls (past ++ now) first (es ++ Datagram octets ∷ [])
datagram_step way ls past kept now first es octets o out was =
    let h = history_of es in
    let at = was.stands_at in
    let fs = all_of at.handled in
    let es' = all_of at.ended_frames in
    step way ls ls (past ++ kept) (past ++ now) first es (Datagram octets) was tt (record {
      handled = at.handled;
      ended_frames = at.ended_frames;
      follow = at.follow;
      ended_are = at.ended_are;
      gains = gains_more way first (past ++ kept) (past ++ now) (fs ++ (es' ++ h.datagrams))
          (fs ++ (es' ++ (h.datagrams ++ octets ∷ []))) (octets ∷ []) at.gains
          (gains_behind way past kept now (octets ∷ []) (gains_frame way kept now octets o out))
          (subst (λ (z : List (List ℕ)). Joins way z (fs ++ (es' ++ h.datagrams)) (octets ∷ []))
          (append_assoc fs (es' ++ h.datagrams) (octets ∷ [])
          ∙ ap (λ (z : List (List ℕ)). fs ++ z) (append_assoc es' h.datagrams (octets ∷ [])))
          (joins_append way (fs ++ (es' ++ h.datagrams)) (octets ∷ [])));
    })

-- one connection's octets
pub moved : (way : FrameReading) (c i : ℕ) (x y : Connection) (ls : List Connection)
    (past kept now first : List Entry) (h : History) (o : List ℕ) (outcomes : List Outcome)
    → AtPlace c ls i x → ((s : Stream) (d : List (List ℕ)) → IsAt x s d → AdvancesOn way x y kept now o outcomes s d)
    → StandsAt way ls (past ++ kept) first h
    → StandsAt way (set_at ls i y) (past ++ now) first (accept h (Piece c o))
moved way c i x y ls past kept now first h o outcomes at moves sa =
    let a = advance_at way c i x y ls h.streams sa.handled kept now o outcomes sa.follow at moves in
    let others = all_of sa.ended_frames ++ h.datagrams in
    record {
      handled = a.now_handled;
      ended_frames = sa.ended_frames;
      follow = a.follow;
      ended_are = sa.ended_are;
      gains = gains_more way first (past ++ kept) (past ++ now) (all_of sa.handled ++ others)
          (all_of a.now_handled ++ others) a.fresh sa.gains
          (gains_behind way past kept now a.fresh (gains_reported way kept now a.fresh outcomes a.reported))
          (joins_before way (all_of a.now_handled) (all_of sa.handled) a.fresh others a.joins);
    }

pub advance_step : (way : FrameReading) (c i : ℕ) (x y : Connection) (ls : List Connection)
    (past kept now first : List Entry)
    (es : List AcceptedEvent) (o : List ℕ) (outcomes : List Outcome)
    → AtPlace c ls i x → ((s : Stream) (d : List (List ℕ)) → IsAt x s d → Advances way x y kept now o outcomes s d)
    → Stands way ls (past ++ kept) first es → Stands way (set_at ls i y) (past ++ now) first (es ++ Piece c o ∷ [])
advance_step way c i x y ls past kept now first es o outcomes at moves was =
    let h = history_of es in
    let there = opening_at c i x ls h.streams was.stands_at.handled was.stands_at.follow at in
    step way ls (set_at ls i y) (past ++ kept) (past ++ now) first es (Piece c o) was
    (rw there.is (moves there.opening there.handled there.at).may)
    (moved way c i x y ls past kept now first h o outcomes at
    (λ s d a. let m = moves s d a in record { fresh = m.fresh; now_at = m.now_at; reported = m.reported })
    was.stands_at)

-- the same, by the place that was found and by what was accepted
pub advance_found : (way : FrameReading) (c n : ℕ) (x y : Connection) (ls : List Connection)
    (past kept now first : List Entry)
    (es : List AcceptedEvent) (accepted : Option (List ℕ)) (outcomes : List Outcome)
    → place_from c 0 ls ≡ Some n → x ≡ get_or ls n x
    → ((s : Stream) (d : List (List ℕ)) → IsAt x s d → AdvancesBy way accepted x y kept now outcomes s d)
    → Stands way ls (past ++ kept) first es
    → Stands way (set_at ls n y) (past ++ now) first (es ++ accepted_piece c accepted)
advance_found way c n x y ls past kept now first es None outcomes is item moves was =
    let at = found_here c n x ls is item in
    let there = opening_at c n x ls (history_of es).streams was.stands_at.handled was.stands_at.follow at in
    let unchanged = moves there.opening there.handled there.at in
    let same : set_at ls n y ≡ ls = ap (λ (z : Connection). set_at ls n z) unchanged.0 ∙ set_same c n x ls at in
    rw (append-nil es, same, unchanged.1) was
advance_found way c n x y ls past kept now first es (Some o) outcomes is item moves was =
    advance_step way c n x y ls past kept now first es o outcomes (found_here c n x ls is item) moves was

-- why an advance is refused
answer_at : (way : FrameReading) (c : ℕ) (piece : List ℕ) (r : Result Advance CollectFault) (h : History) (s : Stream)
    → stream_of c h.streams ≡ Some s → IsCause way piece r s → IsAnswerAt way c piece r h
answer_at way c piece (Ok a) h s is cause = rw is cause
answer_at way c piece (Err (Memory n)) h s is cause = rw is cause
answer_at way c piece (Err ConnFailed) h s is cause = rw is cause
answer_at way c piece (Err StreamTooLong) h s is cause = rw is cause
answer_at way c piece (Err NotOpen) h s is cause = absurd cause
answer_at way c piece (Err AlreadyOpen) h s is cause = absurd cause
answer_at way c piece (Err TooManyOpen) h s is cause = absurd cause
answer_at way c piece (Err Unreleased) h s is cause = absurd cause
answer_at way c piece (Err (Unterminated start)) h s is cause = absurd cause

pub cause_found : (way : FrameReading) (c n : ℕ) (x : Connection) (ls : List Connection) (kept first : List Entry)
    (es : List AcceptedEvent) (piece : List ℕ) (r : Result Advance CollectFault)
    → place_from c 0 ls ≡ Some n → x ≡ get_or ls n x
    → ((s : Stream) (d : List (List ℕ)) → IsAt x s d → IsCause way piece r s) → Stands way ls kept first es
    → IsAnswerAt way c piece r (history_of es)
cause_found way c n x ls kept first es piece r is item cause was =
    let there = opening_at c n x ls (history_of es).streams was.stands_at.handled was.stands_at.follow
    (found_here c n x ls is item) in
    answer_at way c piece r (history_of es) there.opening there.is (cause there.opening there.handled there.at)

pub not_open : (way : FrameReading) (c : ℕ) (ls : List Connection) (kept first : List Entry) (es : List AcceptedEvent)
    → place_from c 0 ls ≡ None → Stands way ls kept first es → stream_of c (history_of es).streams ≡ None
not_open way c ls kept first es absent was =
    no_stream c 0 ls (history_of es).streams was.stands_at.handled was.stands_at.follow absent

-- a connection is opened
pub open_step : (way : FrameReading) (c : ℕ) (k : Framing) (scanner : Scan) (ls : List Connection)
    (kept first : List Entry)
    (es : List AcceptedEvent)
    → place_from c 0 ls ≡ None → length ls < CONNECTIONS_LIMIT → Reads FRAME_MAX scanner k 0 [] [] [] → IsReading scanner
    → Stands way ls kept first es → Stands way (ls ++ record { number = c; scanner = scanner } ∷ []) kept first
    (es ++ Opened c k ∷ [])
open_step way c k scanner ls kept first es absent room reads reading was =
    let h = history_of es in
    let sa = was.stands_at in
    let few : length h.streams < CONNECTIONS_LIMIT = omega (arith, same_count ls h.streams sa.handled sa.follow, room) in
    let s : Stream = record { number = c; framing = k; octets = [] } in
    let past = all_of sa.ended_frames ++ h.datagrams in
    let same : all_of (sa.handled ++ [] ∷ []) ≡ all_of sa.handled =
    all_of-append sa.handled ([] ∷ []) ∙ append-nil (all_of sa.handled) in
    step way ls _ kept kept first es (Opened c k) was (not_open way c ls kept first es absent was, few) (record {
      handled = sa.handled ++ [] ∷ [];
      ended_frames = sa.ended_frames;
      follow = follow_push _ s [] ls h.streams sa.handled sa.follow
          (record {
            number = refl;
            scanner = inl (record {
              rest = [];
              reads = reads;
              good =
                  λ bad. reading.0 (inr bad);
            });
          });
      ended_are = sa.ended_are;
      gains = subst (λ (z : List (List ℕ)). Gains way first kept (z ++ past)) (sym same) sa.gains;
    })

-- ---- the end of a connection

are_frames_push : (ss ts : List Stream) (fs : List (List (List ℕ))) (gone : List (List ℕ)) → AreFramesOf ss fs
    → AreFramesOf ts (gone ∷ []) → AreFramesOf (ss ++ ts) (fs ++ gone ∷ [])
are_frames_push [] ts [] gone f g = g
are_frames_push [] ts (x ∷ fs) gone f g = absurd f
are_frames_push (s ∷ ss) ts [] gone f g = absurd f
are_frames_push (s ∷ ss) ts (x ∷ fs) gone f g = (f.0, are_frames_push ss ts fs gone f.1 g)

-- frames of an opening that ended are still among the frames
spell_moved : (way : FrameReading) (ds still ended : List (List (List ℕ))) (gone datagrams : List (List ℕ))
    → Joins way (all_of ds) (all_of still) gone
    → SpellSame way (all_of ds ++ (all_of ended ++ datagrams))
    (all_of still ++ (all_of (ended ++ gone ∷ []) ++ datagrams))
spell_moved way ds still ended gone datagrams j x =
    let both : all_of (ended ++ gone ∷ []) ≡ all_of ended ++ gone =
    all_of-append ended (gone ∷ []) ∙ ap (λ (z : List (List ℕ)). all_of ended ++ z) (append-nil gone) in
    rw both (
      λ h. elim (spelled_either way (all_of ds) (all_of ended ++ datagrams) x h) [
        | inl d ↦ elim ((j x).0 d) [
          | inl s ↦ spelled_before way (all_of still) ((all_of ended ++ gone) ++ datagrams) x s
          | inr g ↦ spelled_after way (all_of still) ((all_of ended ++ gone) ++ datagrams) x
              (spelled_before way (all_of ended ++ gone) datagrams x (spelled_after way (all_of ended) gone x g))
        ]
        | inr p ↦ spelled_after way (all_of still) ((all_of ended ++ gone) ++ datagrams) x
            (elim (spelled_either way (all_of ended) datagrams x p) [
              | inl e ↦ spelled_before way (all_of ended ++ gone) datagrams x
                  (spelled_before way (all_of ended) gone x e)
              | inr d ↦ spelled_after way (all_of ended ++ gone) datagrams x d
            ])
      ],
      λ h. elim (spelled_either way (all_of still) ((all_of ended ++ gone) ++ datagrams) x h) [
        | inl s ↦ spelled_before way (all_of ds) (all_of ended ++ datagrams) x ((j x).1 (inl s))
        | inr p ↦ elim (spelled_either way (all_of ended ++ gone) datagrams x p) [
          | inl eg ↦ elim (spelled_either way (all_of ended) gone x eg) [
            | inl e ↦ spelled_after way (all_of ds) (all_of ended ++ datagrams) x
                (spelled_before way (all_of ended) datagrams x e)
            | inr g ↦ spelled_before way (all_of ds) (all_of ended ++ datagrams) x ((j x).1 (inr g))
          ]
          | inr d ↦ spelled_after way (all_of ds) (all_of ended ++ datagrams) x
              (spelled_after way (all_of ended) datagrams x d)
        ]
      ],
    )

pub close_step : (way : FrameReading) (c i : ℕ) (x : Connection) (ls : List Connection) (kept first : List Entry)
    (es : List AcceptedEvent) → AtPlace c ls i x → IsHandled x
    → Stands way ls kept first es → Stands way (remove ls i) kept first (es ++ Ended c ∷ [])
close_step way c i x ls kept first es at none was =
    let h = history_of es in
    let sa = was.stands_at in
    let z = close_at way c i x ls h.streams sa.handled sa.follow at none in
    step way ls (remove ls i) kept kept first es (Ended c) was z.was_open (record {
      handled = z.still;
      ended_frames = sa.ended_frames ++ z.gone ∷ [];
      follow = z.follow;
      ended_are = are_frames_push h.ended _ sa.ended_frames z.gone sa.ended_are z.gone_are;
      gains = gains_also way first kept _ _ sa.gains
          (spell_moved way sa.handled z.still sa.ended_frames z.gone h.datagrams z.joins);
    })

pub close_found : (way : FrameReading) (c n : ℕ) (x : Connection) (ls : List Connection) (kept first : List Entry)
    (es : List AcceptedEvent) → place_from c 0 ls ≡ Some n → x ≡ get_or ls n x → IsHandled x
    → Stands way ls kept first es → Stands way (remove ls n) kept first (es ++ Ended c ∷ [])
close_found way c n x ls kept first es is item none was =
    close_step way c n x ls kept first es (found_here c n x ls is item) none was

-- ---- the answers of the calls

pub datagram_answer : {E : Type 0} (way : FrameReading) (ls : List Connection) (past kept now first : List Entry)
    (es : List AcceptedEvent) (octets : List ℕ) (r : Result Outcome E) → IfOk r (λ o. IsOutcome way kept now octets o)
    → OnErr r (now ≡ kept)
    → Stands way ls (past ++ kept) first es → Stands way ls (past ++ now) first (es ++ accepted_datagram octets r)
datagram_answer way ls past kept now first es octets (Ok o) out same was =
    datagram_step way ls past kept now first es octets o out was
datagram_answer way ls past kept now first es octets (Err e) out same was =
    still way ls (past ++ kept) (past ++ now) first es (ap (λ (z : List Entry). past ++ z) same) was

-- a number whose connection was found is open
pub is_open : (way : FrameReading) (c n : ℕ) (ls : List Connection) (kept first : List Entry) (es : List AcceptedEvent)
    → place_from c 0 ls ≡ Some n → Stands way ls kept first es → IsSome (stream_of c (history_of es).streams)
is_open way c n ls kept first es is was =
    let found = found_at c 0 n ls is in
    let there = opening_at c found.0 found.1 ls (history_of es).streams was.stands_at.handled was.stands_at.follow
    found.3 in
    rw there.is refl

-- as many connections as openings
pub count_open : (way : FrameReading) (ls : List Connection) (kept first : List Entry) (es : List AcceptedEvent)
    → Stands way ls kept first es → length ls ≡ length (history_of es).streams
count_open way ls kept first es was = same_count ls (history_of es).streams was.stands_at.handled was.stands_at.follow

-- all frames of a connection's opening were handled where its scanner says so
pub handled_by : (x : Connection) → ((kind : Framing) (first : ℕ) (octets : List ℕ) (frames : List (List ℕ))
    (rest : List ℕ) → Reads FRAME_MAX x.scanner kind first octets frames rest
    → (left : List ℕ) × Frames kind octets frames left) → IsHandled x
handled_by x h s d at = elim at.scanner [
  | inl here ↦ h s.framing 0 s.octets d here.rest here.reads
  | inr broken ↦ (broken.rest, broken.bad.frames_are)
]

unfinished_one : (start : ℕ) (x : Connection) (s : Stream) (d : List (List ℕ)) → ¬ (IsFailed x.scanner)
    → ((kind : Framing) (first : ℕ) (octets : List ℕ) (frames : List (List ℕ)) (rest : List ℕ)
    → Reads FRAME_MAX x.scanner kind first octets frames rest
    → Frames kind octets frames rest × (0 < length rest) × (start + length rest ≡ first + length octets)) → IsAt x s d
    → ¬ (HoldsBadCount s) × IsUnfinished start s
unfinished_one start x s d live h at =
    let here = open_unless_failed x s d live at in
    let e = h s.framing 0 s.octets d here.rest here.reads in
    (good_open x.scanner s d here, (d, here.rest, e.0, e.1, omega (arith, e.2)))

pub unfinished_at : (way : FrameReading) (c n start : ℕ) (x : Connection) (ls : List Connection)
    (kept first : List Entry)
    (es : List AcceptedEvent) → place_from c 0 ls ≡ Some n → x ≡ get_or ls n x → ¬ (IsFailed x.scanner)
    → ((kind : Framing) (first : ℕ) (octets : List ℕ) (frames : List (List ℕ)) (rest : List ℕ)
    → Reads FRAME_MAX x.scanner kind first octets frames rest
    → Frames kind octets frames rest × (0 < length rest) × (start + length rest ≡ first + length octets))
    → Stands way ls kept first es → IsSomeAnd (stream_of c (history_of es).streams)
    (λ s. ¬ (HoldsBadCount s) × IsUnfinished start s)
unfinished_at way c n start x ls kept first es is item live h was =
    let there = opening_at c n x ls (history_of es).streams was.stands_at.handled was.stands_at.follow
    (found_here c n x ls is item) in
    rw there.is (unfinished_one start x there.opening there.handled live h there.at)

-- an opening whose end is accepted is whole frames, or holds a bad count
ended_one : (x : Connection) (s : Stream) (d : List (List ℕ))
    → ((kind : Framing) (first : ℕ) (octets : List ℕ) (frames : List (List ℕ)) (rest : List ℕ)
    → Reads FRAME_MAX x.scanner kind first octets frames rest
    → Frames kind octets frames []) → IsAt x s d → EndsWhole s
ended_one x s d h at = elim at.scanner [
  | inl here ↦ inr (d, h s.framing 0 s.octets d here.rest here.reads)
  | inr broken ↦ inl (d, broken.rest, broken.offset, broken.bad)
]

pub ended_at : (way : FrameReading) (c n : ℕ) (x : Connection) (ls : List Connection) (kept first : List Entry)
    (es : List AcceptedEvent) → place_from c 0 ls ≡ Some n → x ≡ get_or ls n x
    → ((kind : Framing) (first : ℕ) (octets : List ℕ) (frames : List (List ℕ)) (rest : List ℕ)
    → Reads FRAME_MAX x.scanner kind first octets frames rest → Frames kind octets frames [])
    → Stands way ls kept first es → IsSomeAnd (stream_of c (history_of es).streams) EndsWhole
ended_at way c n x ls kept first es is item h was =
    let there = opening_at c n x ls (history_of es).streams was.stands_at.handled was.stands_at.follow
    (found_here c n x ls is item) in
    rw there.is (ended_one x there.opening there.handled h there.at)

-- what is ready in a connection is a frame
pub ready_frame : (way : FrameReading) (c n : ℕ) (x : Connection) (ls : List Connection) (kept first : List Entry)
    (es : List AcceptedEvent) → place_from c 0 ls ≡ Some n → x ≡ get_or ls n x → HasReady x.scanner
    → Stands way ls kept first es → HasFrame x.scanner
ready_frame way c n x ls kept first es is item ready was =
    let there = opening_at c n x ls (history_of es).streams was.stands_at.handled was.stands_at.follow
    (found_here c n x ls is item) in
    elim ready [
      | inl frame ↦ frame
      | inr bad ↦ elim there.at.scanner [
        | inl here ↦ absurd (here.good bad)
        | inr broken ↦ absurd
            (bad_not_failed x.scanner.phase bad broken.failed)
      ]
    ]
  where
    bad_not_failed : (phase : Phase) → phase ≡ phase_BadCount → phase ≡ Failed → ⊥
    bad_not_failed phase a b = absurd cc
