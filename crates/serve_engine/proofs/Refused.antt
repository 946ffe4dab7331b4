-- Frames that are kept as an observer is told of them.
use Rattle.std.proofs.Common.{◌≡◌, ℕ, ◌+◌, List, [], ◌∷◌, ◌++◌, length, take, drop, ap, refl, sym, ◌∙◌, subst, inl, inr}
use Rattle.std.proofs.Common.{append_assoc, arith, length-append}
use Rattle.std.specs.Prelude.{◌⊎◌, Bool, Option, Some, None, IsSomeAnd}
use Rattle.std.proofs.lemmas.List.{append-nil, append_cancel_left, take-append-drop}
use Rattle.archive_text.specs.Entries.{Entry}
use Rattle.octet_devices.specs.Device.{OutputState}
use Rattle.syslog_frame.specs.Frames.{Frames}
use Rattle.syslog_frame.proofs.FrameLaws.{bad_longer, begun_frames, unique_frames}
use Rattle.syslog_legacy.specs.declared.frame_reading.FrameReading.{FrameReading}
use Rattle.syslog_collect.specs.Frames.{IsFramesOf}
use Rattle.syslog_collect.specs.History.{AcceptedEvent, History, HoldsBadCount, Piece, Stream, history_of, stream_of}
use Rattle.syslog_collect.specs.History.{with_octets}
use Rattle.syslog_collect.specs.Logs.{LogsOctets}
use Rattle.syslog_collect.specs.Observers.{AreTold, HearsOctets, HearsPiece, IsTold}
use Rattle.syslog_collect.specs.Outcomes.{AreReported, IsReported}
use Rattle.syslog_collect.specs.declared.outcome.Outcome.{Outcome}
use Rattle.syslog_collect.specs.declared.outcome.Outcome.TheVariants.{New, Held, Refused, RefusedLegacy, TooLong}
use Rattle.syslog_collect.specs.declared.outcome.Outcome.TheVariants.{BadCount}
use Rattle.collect_engine.specs.Receiving.{HearsReceived, IfNotMemory, Logged, ReceivesAs}
use Rattle.collect_engine.specs.declared.receiving.Received.{Received}
use Rattle.collect_engine.specs.declared.receiving.Received.TheVariants as received
use Rattle.serve_engine.specs.Counts.{CountsBroken, CountsDropped, broken_counted, octets_counted}
use Rattle.serve_engine.specs.Events.{IsAccepted, Manner}
use Rattle.serve_engine.specs.Refusals.{KeepsEach, KeepsFrames, KeepsNext, KeepsNoFrame, KeepsPiece}
use Rattle.serve_engine.specs.Refusals.{CountsLost, KeepsNone, come, kept_in}
use Rattle.serve_engine.specs.declared.counts.ServeCounts.{ServeCounts}
use Rattle.serve_engine.specs.declared.report.Report.{Report}
use Rattle.serve_engine.specs.declared.serve_end.ServeEnd.{ServeEnd}
use Rattle.serve_engine.specs.declared.turn.Turn.{Turn}
use Rattle.serve_engine.specs.declared.turn.Turn.TheVariants.{On, End}
use Rattle.serve_engine.specs.Notes.{TellsOf, line_count, told_in}
use Rattle.serve_engine.specs.Peers.{peer_of}
use Rattle.serve_engine.proofs.Counted.{broken_one, broken_twice}
use Rattle.serve_engine.proofs.Told.{hears_weaker}

-- what an observer is told is told of a part of it
one_part : {O P : Type 0} (t : P → Outcome → Option (List ℕ) → P → Type 0) (m : O → P) (x y : O) (fs : List (List ℕ))
    (o : Outcome) → IsTold (λ a p f b. t (m a) p f (m b)) x fs o y → IsTold t (m x) fs o (m y)
one_part t m x y fs New told = told
one_part t m x y fs Held told = told
one_part t m x y fs (Refused fault) told = told
one_part t m x y fs (RefusedLegacy offset) told = told
one_part t m x y fs TooLong told = told
one_part t m x y fs (BadCount at) told = told

told_part : {O P : Type 0} (t : P → Outcome → Option (List ℕ) → P → Type 0) (m : O → P) (x y : O) (fs : List (List ℕ))
    (os : List Outcome) → AreTold (λ a p f b. t (m a) p f (m b)) x fs os y → AreTold t (m x) fs os (m y)
told_part t m x y fs [] (none, same) = (none, ap m same)
told_part t m x y fs (o ∷ os) (here, later, mid, is, one, more) =
    (here, later, m mid, is, one_part t m x mid here o one, told_part t m mid y later os more)

piece_part : {O P : Type 0} (t : P → Outcome → Option (List ℕ) → P → Type 0) (m : O → P) (q : Option Stream)
    (octets : List ℕ) (waited waits : ℕ) (log_old log_new : List Outcome) (x y : O)
    → HearsPiece (λ a p f b. t (m a) p f (m b)) q octets waited waits log_old log_new x y
    → HearsPiece t q octets waited waits log_old log_new (m x) (m y)
piece_part t m None octets waited waits log_old log_new x y (log, same) = (log, ap m same)
piece_part t m (Some s) octets waited waits log_old log_new x y (os, log, h) = (
  os,
  log,
  record {
    handled = h.handled;
    waiting_before = h.waiting_before;
    fresh = h.fresh;
    waiting_now = h.waiting_now;
    before = h.before;
    count_before = h.count_before;
    now = h.now;
    count_now = h.count_now;
    told = told_part t m x y h.fresh os h.told;
  },
)

kept_heard : {N R : Type 0} (state : R → OutputState) (q : Option Stream) (octets : List ℕ) (waited waits : ℕ)
    (outcomes : List Outcome) (x y : Report N R) (old new : OutputState × ServeCounts) → kept_in state x ≡ old
    → kept_in state y ≡ new
    → HearsReceived (λ a p f b. KeepsNext (kept_in state a) p f (kept_in state b)) q octets waited waits outcomes x y
    → HearsReceived KeepsNext q octets waited waits outcomes old new
kept_heard state q octets waited waits outcomes x y old new was now (n, os, h, same) = (
  n,
  os,
  subst (λ (u : OutputState × ServeCounts). HearsPiece KeepsNext q (take n octets) waited waits [] os u new) was
      (subst (λ (u : OutputState × ServeCounts). HearsPiece KeepsNext q (take n octets) waited waits [] os (kept_in state x) u)
      now (piece_part KeepsNext (kept_in state) q (take n octets) waited waits [] os x y h)),
  same,
)

pub hears_kept : {N R : Type 0} (told : N → OutputState) (state : R → OutputState) (q : Option Stream) (octets : List ℕ)
    (waited waits : ℕ) (outcomes : List Outcome) (x y : Report N R) (old new : OutputState × ServeCounts)
    → kept_in state x ≡ old → kept_in state y ≡ new
    → HearsReceived (λ a p f b. KeepsNext (kept_in state a) p f (kept_in state b)
    × TellsOf (peer_of a.way) (line_count p) (told_in told a) (told_in told b) × (b.way ≡ a.way)) q octets waited waits
    outcomes x y
    → HearsReceived KeepsNext q octets waited waits outcomes old new
hears_kept told state q octets waited waits outcomes x y old new was now h =
    kept_heard state q octets waited waits outcomes x y old new was now
    (hears_weaker _ (λ a p f b. KeepsNext (kept_in state a) p f (kept_in state b))
    (λ a p f b both. both.0) q octets waited
    waits outcomes x y h)

-- octets were counted
pub kept_at : {N R : Type 0} (state : R → OutputState) (x y : Report N R) (octets : List ℕ) → x.refused ≡ y.refused
    → x.counts ≡ octets_counted y.counts (length octets) → kept_in state x ≡ come octets (kept_in state y)
kept_at state x y octets refused counts = rw (refused, counts) refl

-- ---- the frames of a piece that was accepted whole

empty : {A : Type 0} (xs : List A) → length xs ≡ 0 → xs ≡ []
empty [] none = refl
empty (x ∷ xs) none = absurd (omega (arith, none))

first_empty : {A : Type 0} (xs ys : List A) → [] ≡ xs ++ ys → xs ≡ []
first_empty [] ys none = refl
first_empty (x ∷ xs) ys none = absurd (cc)

-- how many frames outcomes are of
frame_count : Outcome → ℕ
frame_count New = 1
frame_count Held = 1
frame_count (Refused fault) = 1
frame_count (RefusedLegacy offset) = 1
frame_count TooLong = 1
frame_count (BadCount at) = 0

frame_counts : List Outcome → ℕ
frame_counts [] = 0
frame_counts (o ∷ os) = frame_count o + frame_counts os

one_of : (P : List ℕ → Type 0) (fs : List (List ℕ)) → ((f : List ℕ) × (fs ≡ f ∷ []) × P f) → length fs ≡ 1
one_of P fs (f, is, of) = ap length is

told_one : {O : Type 0} (t : O → Outcome → Option (List ℕ) → O → Type 0) (x y : O) (fs : List (List ℕ)) (o : Outcome)
    → IsTold t x fs o y → length fs ≡ frame_count o
unfolding frame_count
told_one t x y fs New told = one_of _ fs told
told_one t x y fs Held told = one_of _ fs told
told_one t x y fs (Refused fault) told = one_of _ fs told
told_one t x y fs (RefusedLegacy offset) told = one_of _ fs told
told_one t x y fs TooLong told = one_of _ fs told
told_one t x y fs (BadCount at) (none, told) = ap length none

told_count : {O : Type 0} (t : O → Outcome → Option (List ℕ) → O → Type 0) (x y : O) (fs : List (List ℕ))
    (os : List Outcome) → AreTold t x fs os y → length fs ≡ frame_counts os
unfolding frame_counts
told_count t x y fs [] (none, same) = ap length none
told_count t x y fs (o ∷ os) (here, later, mid, is, one, more) = omega
    (arith, ap length is, length-append here later, told_one t x mid here o one, told_count t mid y later os more)

reported_one : (way : FrameReading) (a b : List Entry) (fs : List (List ℕ)) (o : Outcome) → IsReported way a b fs o
    → length fs ≡ frame_count o
unfolding frame_count
reported_one way a b fs New is = one_of _ fs is
reported_one way a b fs Held is = one_of _ fs is
reported_one way a b fs (Refused fault) is = one_of _ fs is
reported_one way a b fs (RefusedLegacy offset) is = one_of _ fs is
reported_one way a b fs TooLong is = one_of _ fs is
reported_one way a b fs (BadCount at) (none, is) = ap length none

reported_count : (way : FrameReading) (a b : List Entry) (fs : List (List ℕ)) (os : List Outcome)
    → AreReported way a b fs os → length fs ≡ frame_counts os
unfolding frame_counts
reported_count way a b fs [] (none, same) = ap length none
reported_count way a b fs (o ∷ os) (here, later, mid, is, one, more) = omega (
  arith,
  ap length is,
  length-append here later,
  reported_one way a mid here o one,
  reported_count way mid b later os more,
)

-- of no frame, nothing is kept
one_silent : (x y : OutputState × ServeCounts) (fs : List (List ℕ)) (o : Outcome) → fs ≡ [] → IsTold KeepsNext x fs o y
    → KeepsNoFrame x y
one_silent x y fs (BadCount at) none (is, kept) = (kept.0, broken_one x.1 y.1 kept.1)
one_silent x y fs New none (f, is, told) = absurd (cc)
one_silent x y fs Held none (f, is, told) = absurd (cc)
one_silent x y fs (Refused fault) none (f, is, told) = absurd (cc)
one_silent x y fs (RefusedLegacy offset) none (f, is, told) = absurd (cc)
one_silent x y fs TooLong none (f, is, told) = absurd (cc)

silent : (x y : OutputState × ServeCounts) (fs : List (List ℕ)) (os : List Outcome) → fs ≡ [] → AreTold KeepsNext x fs os y
    → KeepsNoFrame x y
silent x y fs [] none (is, same) = (
  (
    ap (λ (u : OutputState × ServeCounts). u.0) same,
    omega (arith, ap (λ (u : OutputState × ServeCounts). u.1.dropped) same),
  ),
  subst (λ (u : OutputState × ServeCounts). CountsBroken x.1 u.1) (sym same) (inl refl, refl),
)
silent x y fs (o ∷ os) none (here, later, mid, is, one, more) =
    let left = first_empty here later (sym none ∙ is) in
    let right : later ≡ [] = first_empty later [] (sym none ∙ is ∙ ap (λ (u : List (List ℕ)). u ++ later) left
    ∙ sym (append-nil later)) in
    let a = one_silent x mid here o left one in
    let b = silent mid y later os right more in
    ((b.0.0 ∙ a.0.0, omega (arith, a.0.1, b.0.1)), broken_twice x.1 mid.1 y.1 a.1 b.1)

-- the frames of which it was told are the first of those that were logged
first_frames : (s : Stream) (o : List ℕ) (n : ℕ) (d e logged fresh left : List (List ℕ)) → IsFramesOf s d
    → IsFramesOf s e → IsFramesOf (with_octets s o) (d ++ logged)
    → IsFramesOf (with_octets s (take n o)) (e ++ (fresh ++ left))
    → (more : List (List ℕ)) × (logged ≡ fresh ++ more)
first_frames s o n d e logged fresh left (p, was) (q, also) (r, all) (v, some) =
    let same = (unique_frames s.framing s.octets d e p q was also).0 in
    let split : s.octets ++ o ≡ (s.octets ++ take n o) ++ drop n o =
    ap (λ (u : List ℕ). s.octets ++ u) (sym (take-append-drop n o))
    ∙ sym (append_assoc s.octets (take n o) (drop n o)) in
    let behind = begun_frames s.framing (s.octets ++ take n o) (drop n o) (e ++ (fresh ++ left)) (d ++ logged) v r some
    (subst (λ (u : List ℕ). Frames s.framing u (d ++ logged) r) split all) in (
      left ++ behind.0,
      append_cancel_left e logged (fresh ++ (left ++ behind.0))
          (ap (λ (u : List (List ℕ)). u ++ logged) (sym same) ∙ behind.1
          ∙ append_assoc e (fresh ++ left) behind.0
          ∙ ap (λ (u : List (List ℕ)). e ++ u) (append_assoc fresh left behind.0)),
    )

no_more : (logged fresh more : List (List ℕ)) → logged ≡ fresh ++ more → length fresh ≡ length logged → logged ≡ fresh
no_more logged fresh more is count = is ∙ ap (λ (u : List (List ℕ)). fresh ++ u)
    (empty more (omega (arith, ap length is, length-append fresh more, count))) ∙ append-nil fresh

-- where no frame waited, and none waits, and all octets were taken
kept_octets : (way : FrameReading) (s : Stream) (o : List ℕ) (n waited waits : ℕ) (a b : List Entry)
    (os told : List Outcome) (x y : OutputState × ServeCounts) → waited ≡ 0 → LogsOctets way s o waited 0 a b os
    → HearsOctets KeepsNext s (take n o) waited waits told x y → (os ≡ told) ⊎ (os ≡ [])
    → KeepsPiece (Some s) o os x y
kept_octets way s o n waited waits a b os told x y none l h same =
    let before : l.waiting_before ≡ [] = empty l.waiting_before (l.count_before ∙ none) in
    let also : h.waiting_before ≡ [] = empty h.waiting_before (h.count_before ∙ none) in
    let now : l.waiting_now ≡ [] = empty l.waiting_now l.count_now in
    let was : IsFramesOf s l.handled = subst (λ (u : List (List ℕ)). IsFramesOf s u) (append-nil l.handled)
    (subst (λ (u : List (List ℕ)). IsFramesOf s (l.handled ++ u)) before l.before) in
    let were : IsFramesOf s h.handled = subst (λ (u : List (List ℕ)). IsFramesOf s u) (append-nil h.handled)
    (subst (λ (u : List (List ℕ)). IsFramesOf s (h.handled ++ u)) also h.before) in
    let all : IsFramesOf (with_octets s o) (l.handled ++ l.logged) =
    subst (λ (u : List (List ℕ)). IsFramesOf (with_octets s o) (l.handled ++ u)) (append-nil l.logged)
    (subst (λ (u : List (List ℕ)). IsFramesOf (with_octets s o) (l.handled ++ (l.logged ++ u))) now l.now) in
    let first = first_frames s o n l.handled h.handled l.logged h.fresh h.waiting_now was were all h.now in
    by_outcomes before all first.0 first.1 same
  where
    piece : (fresh : List (List ℕ)) → l.logged ≡ fresh → l.waiting_before ≡ [] → (outs : List Outcome)
        (z : OutputState × ServeCounts) → AreTold KeepsNext x fresh outs z
        → HearsPiece KeepsNext (Some s) o 0 0 [] outs x z
    piece fresh is before outs z kept = (
      outs,
      refl,
      record {
        handled = l.handled;
        waiting_before = l.waiting_before;
        fresh = l.logged;
        waiting_now = l.waiting_now;
        before = l.before;
        count_before = ap length before;
        now = l.now;
        count_now = l.count_now;
        told = subst (λ (u : List (List ℕ)). AreTold KeepsNext x u outs z) (sym is) kept;
      },
    )

    by_outcomes : l.waiting_before ≡ [] → IsFramesOf (with_octets s o) (l.handled ++ l.logged)
        → (more : List (List ℕ)) → l.logged ≡ h.fresh ++ more → (os ≡ told) ⊎ (os ≡ []) → KeepsPiece (Some s) o os x y
    by_outcomes before all more is (inl eq) =
        let count : length h.fresh ≡ length l.logged = told_count KeepsNext x y h.fresh told h.told
        ∙ ap frame_counts (sym eq) ∙ sym (reported_count way a b l.logged os l.outcomes) in (
          y,
          piece h.fresh (no_more l.logged h.fresh more is count) before os y
              (subst (λ (u : List Outcome). AreTold KeepsNext x h.fresh u y) (sym eq) h.told),
          ((refl, omega arith), (inl refl, refl)),
        )
    by_outcomes before all more is (inr eq) =
        let nothing : l.logged ≡ [] =
        (subst (λ (u : List Outcome). AreReported way a b l.logged u) eq l.outcomes).0 in (
          x,
          piece [] nothing before os x (subst (λ (u : List Outcome). AreTold KeepsNext x [] u x) (sym eq) (refl, refl)),
          silent x y h.fresh told (first_empty h.fresh more (sym nothing ∙ is)) h.told,
        )

kept_whole : (way : FrameReading) (c : ℕ) (octets : List ℕ) (h : History) (w : ℕ → ℕ) (waits : ℕ) (os : List Outcome)
    (x y : OutputState × ServeCounts) → w c ≡ 0 → Logged way h w (Piece c octets) os
    → HearsReceived KeepsNext (stream_of c h.streams) octets (w c) waits os x y
    → KeepsPiece (stream_of c h.streams) octets os x y
kept_whole way c octets h w waits os x y none (a, b, log) (n, told, heard, same) =
    at (stream_of c h.streams) log heard
  where
    at : (q : Option Stream) → IsSomeAnd q (λ s. LogsOctets way s octets (w c) 0 a b os)
        → HearsPiece KeepsNext q (take n octets) (w c) waits [] told x y → KeepsPiece q octets os x y
    at None logs hears = absurd logs
    at (Some s) logs (outs, is, hears) =
        kept_octets way s octets n (w c) waits a b os outs x y none logs hears
        (subst (λ (u : List Outcome). (os ≡ u) ⊎ (os ≡ [])) is same)

-- behind a bad count
kept_behind : (c : ℕ) (octets : List ℕ) (h : History) (w : ℕ → ℕ) (waits : ℕ) (os : List Outcome)
    (x y : OutputState × ServeCounts) → w c ≡ 0 → IsSomeAnd (stream_of c h.streams) HoldsBadCount
    → HearsReceived KeepsNext (stream_of c h.streams) octets (w c) waits os x y → KeepsNoFrame x y
kept_behind c octets h w waits os x y none bad (n, told, heard, same) = at (stream_of c h.streams) bad heard
  where
    at : (q : Option Stream) → IsSomeAnd q HoldsBadCount
        → HearsPiece KeepsNext q (take n octets) (w c) waits [] told x y → KeepsNoFrame x y
    at None bad hears = absurd bad
    at (Some s) (frames, rest, place, bad) (outs, is, hears) =
        let before : hears.waiting_before ≡ [] = empty hears.waiting_before (hears.count_before ∙ none) in
        let were : IsFramesOf s hears.handled = subst (λ (u : List (List ℕ)). IsFramesOf s u)
        (append-nil hears.handled)
        (subst (λ (u : List (List ℕ)). IsFramesOf s (hears.handled ++ u)) before hears.before) in
        let handled : hears.handled ≡ frames = (unique_frames s.framing s.octets hears.handled frames were.0 rest were.1
        bad.frames_are).0 in
        let longer = bad_longer s.framing s.octets (take n octets) frames rest place bad in
        let now : hears.handled ++ (hears.fresh ++ hears.waiting_now) ≡ frames =
        (unique_frames s.framing (s.octets ++ take n octets)
        (hears.handled ++ (hears.fresh ++ hears.waiting_now)) frames hears.now.0 (rest ++ take n octets) hears.now.1 longer.frames_are).0 in
        let more : [] ≡ hears.fresh ++ hears.waiting_now = append_cancel_left hears.handled []
        (hears.fresh ++ hears.waiting_now) (append-nil hears.handled ∙ handled ∙ sym now) in
        silent x y hears.fresh outs (first_empty hears.fresh hears.waiting_now more) hears.told

-- what was kept of a piece, by what was accepted of it
pub kept_frames : {way : Manner} {before here : List AcceptedEvent} {c : ℕ} {octets : List ℕ} {lost : Bool}
    {turn : Turn} (taken : IsAccepted way before (Piece c octets) here lost turn) (x y : OutputState × ServeCounts)
    → HearsReceived KeepsNext (stream_of c (history_of before).streams) octets (taken.is.0 c) (taken.is.1 c)
    taken.outcomes x y → CountsLost taken.received turn y y → KeepsFrames taken x y
kept_frames {way = way} {before = before} {c = c} {octets = octets} taken x y heard lost = record {
  told = (y, heard, lost);
  whole = λ own. by_answer taken.received taken.own own taken.is.4;
  passed = λ own accepted. behind taken.received taken.own own accepted taken.is.4;
}
  where
    by_answer : (r : Received) (own : List AcceptedEvent) → own ≡ Piece c octets ∷ []
        → ReceivesAs way.reading (history_of before) taken.is.0 taken.is.1 (Piece c octets) r taken.outcomes own
        → IfNotMemory r (KeepsPiece (stream_of c (history_of before).streams) octets taken.outcomes x y)
    by_answer received.Accepted own is (inl (all, log, waits, whole)) =
        kept_whole way.reading c octets (history_of before) taken.is.0 (taken.is.1 c) taken.outcomes x y
        (taken.is.2 c) log heard
    by_answer received.Accepted own is (inr (none, outcomes, waits, bad)) = absurd (cc)
    by_answer (received.Unterminated start) own is (all, outcomes, waits, inside) = absurd inside
    by_answer received.Refused own is (none, outcomes, why) = absurd (cc)
    by_answer received.Memory own is part = tt

    behind : (r : Received) (own : List AcceptedEvent) → own ≡ [] → r ≡ received.Accepted
        → ReceivesAs way.reading (history_of before) taken.is.0 taken.is.1 (Piece c octets) r taken.outcomes own
        → KeepsNoFrame x y
    behind received.Accepted own is accepted (inl (all, log, waits, whole)) = absurd (cc)
    behind received.Accepted own is accepted (inr (none, outcomes, waits, bad)) =
        kept_behind c octets (history_of before) taken.is.0 (taken.is.1 c) taken.outcomes x y (taken.is.2 c) bad heard
    behind (received.Unterminated start) own is accepted part = absurd (cc)
    behind received.Refused own is accepted part = absurd (cc)
    behind received.Memory own is accepted part = absurd (cc)

-- nothing is lost of it
pub none_lost : (r : Received) (turn : Turn) (y : OutputState × ServeCounts)
    → (r ≡ received.Accepted) ⊎ ((start : ℕ) × (r ≡ received.Unterminated start)) → CountsLost r turn y y
none_lost r turn y (inl is) = subst (λ (q : Received). CountsLost q turn y y) (sym is) refl
none_lost r turn y (inr (start, is)) = subst (λ (q : Received). CountsLost q turn y y) (sym is) refl

pub refused_none_lost : (r : Received) (turn : Turn) (y : OutputState × ServeCounts) → r ≡ received.Refused
    → CountsLost r turn y y
refused_none_lost r turn y is = subst (λ (q : Received). CountsLost q turn y y) (sym is) refl

pub ended_none_lost : (r : Received) (end : ServeEnd) (y : OutputState × ServeCounts) → r ≡ received.Memory
    → CountsLost r (End end) y y
ended_none_lost r end y is = subst (λ (q : Received). CountsLost q (End end) y y) (sym is) refl

-- its connection is
pub one_lost : (r : Received) (turn : Turn) (y z : OutputState × ServeCounts) → r ≡ received.Memory → turn ≡ On
    → KeepsNone y z → CountsDropped (broken_counted y.1) z.1 → CountsLost r turn y z
one_lost r turn y z is on kept counts = subst (λ (q : Received). CountsLost q turn y z) (sym is)
    (subst (λ (t : Turn). CountsLost received.Memory t y z) (sym on) (kept, counts))

-- and where memory was wanted for it, and its connection is lost
pub kept_starved : {way : Manner} {before here : List AcceptedEvent} {c : ℕ} {octets : List ℕ} {lost : Bool}
    {turn : Turn} (taken : IsAccepted way before (Piece c octets) here lost turn) (x y z : OutputState × ServeCounts)
    → taken.received ≡ received.Memory
    → HearsReceived KeepsNext (stream_of c (history_of before).streams) octets (taken.is.0 c) (taken.is.1 c)
    taken.outcomes x y → CountsLost taken.received turn y z → KeepsFrames taken x z
kept_starved {before = before} {c = c} {octets = octets} taken x y z memory heard lost = record {
  told = (y, heard, lost);
  whole = λ own. subst (λ (r : Received). IfNotMemory r (KeepsPiece (stream_of c (history_of before).streams) octets
      taken.outcomes x z)) (sym memory) tt;
  passed = λ own accepted. absurd (cc);
}

-- ---- a datagram

-- with one outcome more
pub each_more : (octets : List ℕ) (os : List Outcome) (o : Outcome) (x y z : OutputState × ServeCounts) → KeepsEach octets os x y
    → KeepsNext y o (Some octets) z → KeepsEach octets (os ++ o ∷ []) x z
each_more octets [] o x y z same next =
    (z, subst (λ (u : OutputState × ServeCounts). KeepsNext u o (Some octets) z) same next, refl)
each_more octets (p ∷ ps) o x y z (mid, one, more) next = (mid, one, each_more octets ps o mid y z more next)
