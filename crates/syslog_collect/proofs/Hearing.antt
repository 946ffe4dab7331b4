-- What an observer is told of the frames of a connection.
use Rattle.std.proofs.Common.{◌≡◌, ◌+◌, ◌≤◌, ◌<◌, ℕ, List, [], ◌∷◌, ◌++◌, length, take, inl, inr, refl, sym, ◌∙◌}
use Rattle.std.proofs.Common.{ap, subst, append_assoc}
use Rattle.std.specs.Prelude.{◌⊎◌, Option, Some, None, Err}
use Rattle.std.proofs.lemmas.Bool.Decides.{eqb_tells}
use Rattle.std.proofs.lemmas.List.{append-nil}
use Rattle.syslog_frame.specs.Scan.{Scan, HasFrame, IsReading}
use Rattle.syslog_frame.specs.declared.limits.TheConstants.{POSITION_MAX}
use Rattle.archive_text.specs.Entries.{Entry}
use Rattle.syslog_legacy.specs.declared.frame_reading.FrameReading.{FrameReading}
use Rattle.syslog_collect.specs.declared.connection.Connection.{Connection}
use Rattle.syslog_collect.specs.declared.connections.Connections.{Connections}
use Rattle.syslog_collect.specs.declared.fault.CollectFault.{CollectFault}
use Rattle.syslog_collect.specs.declared.fault.CollectFault.TheVariants.{AlreadyOpen, TooManyOpen, NotOpen, ConnFailed}
use Rattle.syslog_collect.specs.declared.fault.CollectFault.TheVariants.{StreamTooLong, Unreleased, Unterminated}
use Rattle.syslog_collect.specs.declared.fault.CollectFault.TheVariants.{Memory}
use Rattle.syslog_collect.specs.declared.outcome.Outcome.{Outcome}
use Rattle.syslog_collect.specs.declared.outcome.Outcome.TheVariants.{New, Held, Refused, RefusedLegacy, TooLong}
use Rattle.syslog_collect.specs.declared.outcome.Outcome.TheVariants.{BadCount}
use Rattle.syslog_collect.specs.Answers.{IsBadCount, accepted_count, dropped_octets}
use Rattle.syslog_collect.specs.Frames.{IsFramesOf}
use Rattle.syslog_collect.specs.History.{AcceptedEvent, Stream, history_of, stream_of, with_octets}
use Rattle.syslog_collect.specs.Logs.{ready_count, ready_in, waiting}
use Rattle.syslog_collect.specs.Numbers.{Becomes, connection_in}
use Rattle.syslog_collect.specs.Observers.{AreTold, Hears, HearsBy, HearsLog, HearsPiece, IsTold, IsToldOf}
use Rattle.syslog_collect.specs.Observers.{TellsFrame, TellsReady}
use Rattle.syslog_collect.specs.Outcomes.{HandlesReady, IsOutcome, outcomes_of}
use Rattle.syslog_collect.specs.Runs.{used_before}
use Rattle.syslog_collect.specs.Standing.{IsAt, Stands}
use Rattle.syslog_collect.proofs.Found.{found_in, waits_become}
use Rattle.syslog_collect.proofs.Moving.{IsPushed, IsReleased, advanced, moved_none, open_unless_failed}
use Rattle.syslog_collect.proofs.Moving.{waiting as moved_waiting}
use Rattle.syslog_collect.proofs.Ordered.{in_order}
use Rattle.syslog_collect.proofs.Pieces.{accepted_used, accepted_whole, with_octets_twice}
use Rattle.syslog_collect.proofs.Places.{found_here, opening_at}
use Rattle.syslog_collect.proofs.Waiting.{frames_waiting}

-- what becomes of a frame is no bad count
pub no_bad_count : (way : FrameReading) (a b : List Entry) (f : List ℕ) (o : Outcome) → IsOutcome way a b f o
    → ¬ (IsBadCount (Some o))
no_bad_count way a b f New out bad = bad
no_bad_count way a b f Held out bad = bad
no_bad_count way a b f (Refused fault) out bad = bad
no_bad_count way a b f (RefusedLegacy offset) out bad = bad
no_bad_count way a b f TooLong out bad = bad
no_bad_count way a b f (BadCount at) out bad = out

-- the observer was told of the frame that a scanner has ready
pub tells_ready : {O : Type 0} (t : O → Outcome → Option (List ℕ) → O → Type 0) (s : Scan) (x y : O) (o : Outcome)
    → ¬ (IsBadCount (Some o)) → TellsFrame t s x y o → TellsReady t s x y (Some o)
tells_ready t s x y New good tells = tells
tells_ready t s x y Held good tells = tells
tells_ready t s x y (Refused fault) good tells = tells
tells_ready t s x y (RefusedLegacy offset) good tells = tells
tells_ready t s x y TooLong good tells = tells
tells_ready t s x y (BadCount at) good tells = absurd (good tt)

-- of a frame with its octets
pub told_of : {O : Type 0} (t : O → Outcome → Option (List ℕ) → O → Type 0) (x y : O) (f : List ℕ) (o : Outcome)
    → ¬ (IsBadCount (Some o)) → t x o (Some f) y → IsToldOf t x f o y
told_of t x y f New good told = told
told_of t x y f Held good told = told
told_of t x y f (Refused fault) good told = told
told_of t x y f (RefusedLegacy offset) good told = told
told_of t x y f TooLong good told = inr told
told_of t x y f (BadCount at) good told = absurd (good tt)

told_then : {O : Type 0} (t : O → Outcome → Option (List ℕ) → O → Type 0) (x y z : O) (fs gs : List (List ℕ))
    (os ps : List Outcome) → AreTold t x fs os y → AreTold t y gs ps z → AreTold t x (fs ++ gs) (os ++ ps) z
told_then {O = O} t x y z fs gs [] ps (none, same) later =
    subst (λ (u : List (List ℕ)). AreTold t x (u ++ gs) ps z) (sym none)
    (subst (λ (u : O). AreTold t u gs ps z) same later)
told_then t x y z fs gs (o ∷ os) ps (here, rest, mid, is, one, more) later = (
  here,
  rest ++ gs,
  mid,
  ap (λ (u : List (List ℕ)). u ++ gs) is ∙ append_assoc here rest gs,
  one,
  told_then t mid y z rest gs os ps more later,
)

-- ---- one connection

-- a frame was handled
hears_frame : {O : Type 0} (t : O → Outcome → Option (List ℕ) → O → Type 0) (old new : Connection) (mid : Scan)
    (piece : List ℕ) (n : ℕ) (o : Outcome) (s : Stream) (handled : List (List ℕ)) (x y : O) → new.number ≡ old.number
    → IsPushed old.scanner mid piece n → HasFrame mid → TellsFrame t mid x y o → IsReleased mid new.scanner
    → ((f : List ℕ) → IsToldOf t x f o y → IsTold t x (f ∷ []) o y) → IsAt old s handled
    → Hears t new (take n piece) (o ∷ []) s handled x y
hears_frame t old new mid piece n o s handled x y number p ready tells r one at =
    let here = open_unless_failed old s handled p.live at in
    let on = (p.reads s.framing 0 s.octets handled here.rest here.reads here.good).reads in
    let f = tells s.framing 0 (s.octets ++ take n piece) handled (here.rest ++ take n piece) on in (
      f.0 ∷ [],
      record {
        number = number ∙ at.number;
        scanner = inl (record {
          rest = [];
          reads = r.reads s.framing 0 (s.octets ++ take n piece) handled (here.rest ++ take n piece) f.0 on f.1;
          good = λ bad. (r.frame ready).0 (inr bad);
        });
      },
      (f.0 ∷ [], [], y, refl, one f.0 f.2, (refl, refl)),
    )

-- what is ready after a push was handled and released
pub hears_advanced : {O : Type 0} (t : O → Outcome → Option (List ℕ) → O → Type 0) (way : FrameReading)
    (old new : Connection) (mid : Scan) (a b : List Entry) (piece : List ℕ) (n m : ℕ) (o : Option Outcome) (s : Stream)
    (handled : List (List ℕ)) (x y : O) → new.number ≡ old.number → IsPushed old.scanner mid piece n
    → HandlesReady way mid a b o → TellsReady t mid x y o → IsReleased mid new.scanner
    → (n < length piece → (n < m) × (m ≤ length piece)) → IsAt old s handled
    → Hears t new (take (accepted_count m n o) piece) (outcomes_of o) s handled x y
hears_advanced t way old new mid a b piece n m None s handled x y number p h tells r bounds at =
    let moves = advanced way old new mid a b piece n m None s handled number p h r bounds at in
    (moves.fresh, moves.now_at, (moves.reported.0, tells))
hears_advanced t way old new mid a b piece n m (Some (BadCount offset)) s handled x y number p h tells r bounds at =
    let moves = advanced way old new mid a b piece n m (Some (BadCount offset)) s handled number p h r bounds at in
    let (here, later, between, is, one, more) = moves.reported in
    (moves.fresh, moves.now_at, (here, later, y, is, (one.0, tells), (more.0, refl)))
hears_advanced t way old new mid a b piece n m (Some New) s handled x y number p h tells r bounds at =
    hears_frame t old new mid piece n New s handled x y number p h.0 tells r (λ f told. (f, refl, told)) at
hears_advanced t way old new mid a b piece n m (Some Held) s handled x y number p h tells r bounds at =
    hears_frame t old new mid piece n Held s handled x y number p h.0 tells r (λ f told. (f, refl, told)) at
hears_advanced t way old new mid a b piece n m (Some (Refused fault)) s handled x y number p h tells r bounds at =
    hears_frame t old new mid piece n (Refused fault) s handled x y number p h.0 tells r (λ f told. (f, refl, told)) at
hears_advanced t way old new mid a b piece n m (Some (RefusedLegacy offset)) s handled x y number p h tells r bounds
    at =
    hears_frame t old new mid piece n (RefusedLegacy offset) s handled x y number p h.0 tells r
    (λ f told. (f, refl, told)) at
hears_advanced t way old new mid a b piece n m (Some TooLong) s handled x y number p h tells r bounds at =
    hears_frame t old new mid piece n TooLong s handled x y number p h.0 tells r (λ f told. (f, refl, told)) at

-- octets were taken, and the memory of the frame that is ready was refused
pub hears_waiting : {O : Type 0} (t : O → Outcome → Option (List ℕ) → O → Type 0) (way : FrameReading)
    (old new : Connection) (a b : List Entry) (piece : List ℕ) (n : ℕ) (s : Stream) (handled : List (List ℕ)) (x y : O)
    → new.number ≡ old.number → IsPushed old.scanner new.scanner piece n → HasFrame new.scanner → b ≡ a → y ≡ x
    → IsAt old s handled → Hears t new (take n piece) [] s handled x y
hears_waiting t way old new a b piece n s handled x y number p frame kept silent at =
    let moves = moved_waiting way old new a b piece n s handled number p frame kept at in
    (moves.fresh, moves.now_at, (moves.reported.0, silent))

-- nothing was taken, as room was refused
pub hears_no_room : {O : Type 0} (t : O → Outcome → Option (List ℕ) → O → Type 0) (way : FrameReading)
    (old new : Connection) (a b : List Entry) (piece : List ℕ) (s : Stream) (handled : List (List ℕ)) (x y : O)
    → new ≡ old → IsReading old.scanner → old.scanner.position + length piece ≤ POSITION_MAX → b ≡ a → y ≡ x
    → IsAt old s handled → Hears t new (take 0 piece) [] s handled x y
hears_no_room t way old new a b piece s handled x y same reading fits kept silent at =
    let moves = moved_none way old new a b piece s handled same reading fits kept at in
    (moves.fresh, moves.now_at, (moves.reported.0, silent))

-- ---- octets, one after the other

-- nothing came
pub hears_nothing : {O : Type 0} (t : O → Outcome → Option (List ℕ) → O → Type 0) (a : Connection)
    (l m : List Outcome) (s : Stream) (d : List (List ℕ)) (x y : O) → m ≡ l → y ≡ x → IsAt a s d
    → HearsLog t a [] l m s d x y
hears_nothing t a l m s d x y log silent at = (
  [],
  log ∙ sym (append-nil l),
  (
    [],
    subst (λ (fs : List (List ℕ)). IsAt a (with_octets s []) fs) (sym (append-nil d))
        (subst (λ (u : List ℕ). let w : Stream =
        record { number = s.number; framing = s.framing; octets = u } in IsAt a w d) (sym (append-nil s.octets)) at),
    (refl, silent),
  ),
)

-- more came
pub hears_on : {O : Type 0} (t : O → Outcome → Option (List ℕ) → O → Type 0) (b c : Connection)
    (o p whole : List ℕ) (l m n : List Outcome) (s : Stream) (d : List (List ℕ)) (x y z : O) → o ++ p ≡ whole
    → HearsLog t b o l m s d x y
    → ((w : Stream) (e : List (List ℕ)) → IsAt b w e → HearsLog t c p m n w e y z)
    → HearsLog t c whole l n s d x z
hears_on t b c o p whole l m n s d x y z is (os, log, (fresh, at, told)) next =
    let (ps, more, (fresher, now_at, later)) = next (with_octets s o) (d ++ fresh) at in (
      os ++ ps,
      more ∙ ap (λ (u : List Outcome). u ++ ps) log ∙ append_assoc l os ps,
      (
        fresh ++ fresher,
        subst (λ (w : Stream). IsAt c w (d ++ (fresh ++ fresher)))
            (with_octets_twice s o p ∙ ap (λ (u : List ℕ). with_octets s u) is)
            (subst (λ (fs : List (List ℕ)). IsAt c (with_octets (with_octets s o) p) fs)
            (append_assoc d fresh fresher) now_at),
        told_then t x y z fresh fresher os ps told later,
      ),
    )

-- an advance that was refused
pub hears_refused : {O : Type 0} (t : O → Outcome → Option (List ℕ) → O → Type 0) (a b : Connection)
    (rest : List ℕ) (l m : List Outcome) (fault : CollectFault) (n : ℕ) (s : Stream) (d : List (List ℕ)) (x y : O)
    → n ≡ used_before fault → m ≡ l → IsAt a s d → HearsBy t (dropped_octets rest (Err fault)) a b [] s d x y
    → HearsLog t b (take n rest) l m s d x y
hears_refused {O = O} t a b rest l m fault n s d x y is log at hears = rw is (stays fault hears)
  where
    none : (b ≡ a) × (y ≡ x) → HearsLog t b [] l m s d x y
    none (same, silent) = subst (λ (w : Connection). HearsLog t w [] l m s d x y) (sym same)
        (hears_nothing t a l m s d x y log silent at)

    stays : (f : CollectFault) → HearsBy t (dropped_octets rest (Err f)) a b [] s d x y
        → HearsLog t b (take (used_before f) rest) l m s d x y
    stays (Memory k) h = ([], log ∙ sym (append-nil l), h)
    stays AlreadyOpen h = none h
    stays TooManyOpen h = none h
    stays NotOpen h = none h
    stays ConnFailed h = none h
    stays StreamTooLong h = none h
    stays Unreleased h = none h
    stays (Unterminated start) h = none h

pub hears_ended : {O : Type 0} (t : O → Outcome → Option (List ℕ) → O → Type 0) (b : Connection)
    (rest : List ℕ) (l m : List Outcome) (n : ℕ) (o : Option Outcome) (s : Stream) (d : List (List ℕ)) (x y : O)
    → m ≡ l ++ outcomes_of o → IsBadCount o ⊎ (length rest ≤ n)
    → Hears t b (take (accepted_count (length rest) n o) rest) (outcomes_of o) s d x y
    → HearsLog t b rest l m s d x y
hears_ended t b rest l m n o s d x y log ends hears = (
  outcomes_of o,
  log,
  subst (λ (u : List ℕ). Hears t b u (outcomes_of o) s d x y) (accepted_whole rest n o ends) hears,
)

pub hears_step : {O : Type 0} (t : O → Outcome → Option (List ℕ) → O → Type 0) (b : Connection)
    (rest : List ℕ) (l m : List Outcome) (n : ℕ) (o : Option Outcome) (s : Stream) (d : List (List ℕ)) (x y : O)
    → m ≡ l ++ outcomes_of o → ¬ (IsBadCount o)
    → Hears t b (take (accepted_count (length rest) n o) rest) (outcomes_of o) s d x y
    → HearsLog t b (take n rest) l m s d x y
hears_step t b rest l m n o s d x y log good hears = (
  outcomes_of o,
  log,
  subst (λ (k : ℕ). Hears t b (take k rest) (outcomes_of o) s d x y) (accepted_used (length rest) n o good) hears,
)

-- ---- a piece

-- of a number that is not open
pub hears_none : {O : Type 0} (t : O → Outcome → Option (List ℕ) → O → Type 0) (q : Option Stream)
    (o : List ℕ) (waited waits : ℕ) (l : List Outcome) (x : O) → q ≡ None → HearsPiece t q o waited waits l l x x
hears_none t q o waited waits l x none =
    subst (λ (p : Option Stream). HearsPiece t p o waited waits l l x x) (sym none) (refl, refl)

hears_octets : {O : Type 0} (t : O → Outcome → Option (List ℕ) → O → Type 0) (a b : Connection) (o : List ℕ)
    (l m : List Outcome) (s : Stream) (d : List (List ℕ)) (x y : O) → IsAt a s d → HearsLog t b o l m s d x y
    → HearsPiece t (Some s) o (ready_count a.scanner.phase) (ready_count b.scanner.phase) l m x y
hears_octets t a b o l m s d x y at (os, log, (fresh, now_at, told)) =
    let before = frames_waiting a s d at in
    let now = frames_waiting b (with_octets s o) (d ++ fresh) now_at in (
      os,
      log,
      record {
        handled = d;
        waiting_before = before.left;
        fresh = fresh;
        waiting_now = now.left;
        before = before.frames;
        count_before = before.count;
        now = subst (λ (fs : List (List ℕ)). IsFramesOf (with_octets s o) fs) (append_assoc d fresh now.left)
            now.frames;
        count_now = now.count;
        told = told;
      },
    )

here_waits : (c : ℕ) (b : Connection) (cs ds : Connections) → Becomes cs ds c b
    → waiting ds c ≡ ready_count b.scanner.phase
here_waits c b cs ds becomes =
    waits_become c (ready_count b.scanner.phase) b cs ds becomes refl c ∙ elim (eqb_tells c c) [
      | inl (same, eq) ↦ rw same refl
      | inr (other, ne) ↦ absurd (ne refl)
    ]

-- of one that is
pub hears_piece : {O : Type 0} (t : O → Outcome → Option (List ℕ) → O → Type 0) (way : FrameReading) (c : ℕ)
    (a b : Connection) (cs ds : Connections) (kept first : List Entry) (es : List AcceptedEvent) (o : List ℕ)
    (l m : List Outcome) (x y : O) → connection_in cs c ≡ Some a → Becomes cs ds c b
    → ((s : Stream) (d : List (List ℕ)) → IsAt a s d → HearsLog t b o l m s d x y)
    → Stands way cs kept first es
    → HearsPiece t (stream_of c (history_of es).streams) o (waiting cs c) (waiting ds c) l m x y
hears_piece t way c a b cs ds kept first es o l m x y is becomes hears was =
    let f = found_in way c a cs kept first es is was in
    let stands = in_order way cs kept first es was in
    let there = opening_at c f.place a was.stands_at.order (history_of es).streams stands.stands_at.handled
    stands.stands_at.follow (found_here c f.place a was.stands_at.order f.is f.item) in
    let waited : ready_count a.scanner.phase ≡ waiting cs c = sym (ap ready_in is) in
    subst (λ (q : Option Stream). HearsPiece t q o (waiting cs c) (waiting ds c) l m x y) (sym there.is)
    (subst (λ (k : ℕ). HearsPiece t (Some there.opening) o k (waiting ds c) l m x y) waited
    (subst (λ (k : ℕ). HearsPiece t (Some there.opening) o (ready_count a.scanner.phase) k l m x y)
    (sym (here_waits c b cs ds becomes))
    (hears_octets t a b o l m there.opening there.handled x y there.at
    (hears there.opening there.handled there.at))))
