-- Frames that wait, of each number, and that numbers of open connections are distinct.
use Rattle.std.proofs.Common.{◌≡◌, ◌≢◌, ℕ, ◌+◌, zero, suc, true, false, cond, List, [], ◌∷◌, ◌++◌, length, get_or}
use Rattle.std.proofs.Common.{set as set_at, eqb, refl, sym, ◌∙◌, ap, subst, inl, inr}
use Rattle.std.specs.Prelude.{Some, None}
use Rattle.std.specs.List.{remove}
use Rattle.std.proofs.lemmas.Bool.{both_ways, eq-eqb, eqb-true}
use Rattle.std.proofs.lemmas.Bool.Decides.{eqb_tells}
use Rattle.std.proofs.lemmas.List.{append-nil}
use Rattle.syslog_frame.specs.declared.limits.TheConstants.{FRAME_MAX}
use Rattle.syslog_frame.specs.declared.phase.Phase.{Phase}
use Rattle.syslog_frame.specs.declared.phase.Phase.TheVariants.{Counting, Inside, Ended as phase_Ended}
use Rattle.syslog_frame.specs.declared.phase.Phase.TheVariants.{BadCount as phase_BadCount, Failed}
use Rattle.syslog_frame.proofs.Calls.{none_unless_frame}
use Rattle.syslog_frame.proofs.Reading.{frames_read, frames_with}
use Rattle.syslog_frame.proofs.Standing.{whole_ended}
use Rattle.archive_text.specs.Entries.{Entry}
use Rattle.syslog_legacy.specs.declared.frame_reading.FrameReading.{FrameReading}
use Rattle.syslog_collect.specs.declared.connection.Connection.{Connection}
use Rattle.syslog_collect.specs.Frames.{IsFramesOf}
use Rattle.syslog_collect.specs.History.{AcceptedEvent, Datagram, Ended, History, MayAcceptAll, Opened, Piece, Stream}
use Rattle.syslog_collect.specs.History.{accept, history_after, history_of, initial, stream_of, with_octets, with_piece}
use Rattle.syslog_collect.specs.History.{without}
use Rattle.syslog_collect.specs.Logs.{ready_count}
use Rattle.syslog_collect.specs.Standing.{AreAt, IsAt}
use Rattle.syslog_collect.proofs.Moving.{ended_or_not}
use Rattle.syslog_collect.proofs.Ordered.{StandsOrdered as Stands, waiting_in as waiting}
use Rattle.syslog_collect.proofs.Places.{AtPlace, IsHandled, found_here, place_from}
use Rattle.syslog_collect.proofs.Steps.{close_found, history_after-push}

-- ---- one connection

pub ready_some : (phase : Phase) → phase ≡ phase_Ended → ready_count phase ≡ 1
ready_some phase e = rw e refl

pub ready_none : (phase : Phase) → phase ≢ phase_Ended → ready_count phase ≡ 0
ready_none phase_Ended h = absurd (h refl)
ready_none Counting h = refl
ready_none Inside h = refl
ready_none phase_BadCount h = refl
ready_none Failed h = refl

-- the frames of an opening are those that were handled, and the one that waits
pub record HasWaiting (c : Connection) (s : Stream) (handled : List (List ℕ)) : Type 0 where
  pub left : List (List ℕ)
  pub frames : IsFramesOf s (handled ++ left)
  pub count : length left ≡ ready_count c.scanner.phase

pub frames_waiting : (c : Connection) (s : Stream) (d : List (List ℕ)) → IsAt c s d → HasWaiting c s d
frames_waiting c s d at = elim at.scanner [
  | inl here ↦ elim (ended_or_not c.scanner.phase) [
    | inl ended ↦
        let whole = whole_ended FRAME_MAX s.framing c.scanner.count c.scanner.size c.scanner.kept here.rest
        (rw ended at here.reads.stands.holds) in
        record {
          left = whole.0 ∷ [];
          frames = ([], frames_with FRAME_MAX c.scanner s.framing 0 s.octets d here.rest whole.0 here.reads whole.1);
          count = sym (ready_some c.scanner.phase ended);
        }
    | inr other ↦ record {
      left = [];
      frames = rw append-nil (
        here.rest,
        frames_read FRAME_MAX c.scanner s.framing 0 s.octets d here.rest here.reads
            (none_unless_frame FRAME_MAX c.scanner s.framing (0 + length s.octets) here.rest other here.reads.stands),
      );
      count = sym (ready_none c.scanner.phase other);
    }
  ]
  | inr broken ↦ record {
    left = [];
    frames = rw append-nil (broken.rest, broken.bad.frames_are);
    count = rw broken.failed refl;
  }
]

-- ---- one connection among all

pub waiting_at : (c i : ℕ) (x : Connection) (ls : List Connection) → AtPlace c ls i x
    → waiting ls c ≡ ready_count x.scanner.phase
waiting_at c i x [] at = absurd at
waiting_at c zero x (l ∷ ls) at = rw at.1 (ap (λ (z : Connection). ready_count z.scanner.phase) at.0)
waiting_at c (suc i) x (l ∷ ls) at = rw at.0 (waiting_at c i x ls at.1)

pub number_at : (c i : ℕ) (x : Connection) (ls : List Connection) → AtPlace c ls i x → x.number ≡ c
number_at c i x [] at = absurd at
number_at c zero x (l ∷ ls) at = ap (λ (z : Connection). z.number) (sym at.0) ∙ eqb-true l.number c at.1
number_at c (suc i) x (l ∷ ls) at = number_at c i x ls at.1

pub place_set : (c i : ℕ) (x y : Connection) (ls : List Connection) → y.number ≡ x.number → AtPlace c ls i x
    → AtPlace c (set_at ls i y) i y
place_set c i x y [] e at = absurd at
place_set c zero x y (l ∷ ls) e at = (
  refl,
  eq-eqb y.number c (e ∙ ap (λ (z : Connection). z.number) (sym at.0) ∙ eqb-true l.number c at.1),
)
place_set c (suc i) x y (l ∷ ls) e at = (at.0, place_set c i x y ls e at.1)

pub other_false : (a b d : ℕ) → a ≡ b → ¬ (b ≡ d) → eqb a d ≡ false
other_false a b d e ne = elim (eqb_tells a d) [ inl h ↦ absurd (ne (sym e ∙ h.1)) | inr h ↦ h.0 ]

pub waiting_other : (c i d : ℕ) (x y : Connection) (ls : List Connection) → y.number ≡ x.number → AtPlace c ls i x
    → ¬ (c ≡ d) → waiting (set_at ls i y) d ≡ waiting ls d
waiting_other c i d x y [] e at ne = absurd at
waiting_other c zero d x y (l ∷ ls) e at ne =
    let n : l.number ≡ c = eqb-true l.number c at.1 in
    rw (
      other_false y.number c d (e ∙ ap (λ (z : Connection). z.number) (sym at.0) ∙ n) ne,
      other_false l.number c d n ne,
    ) refl
waiting_other c (suc i) d x y (l ∷ ls) e at ne =
    ap (λ (m : ℕ). cond (eqb l.number d) (ready_count l.scanner.phase) m) (waiting_other c i d x y ls e at.1 ne)

-- all numbers after one connection has so many frames ready
pub waiting_set : (c i k : ℕ) (x y : Connection) (ls : List Connection) → y.number ≡ x.number → AtPlace c ls i x
    → ready_count y.scanner.phase ≡ k
    → (d : ℕ) → waiting (set_at ls i y) d ≡ cond (eqb c d) k (waiting ls d)
waiting_set c i k x y ls e at is d = elim (eqb_tells c d) [
  | inl (same, eq) ↦ rw same (ap (λ (n : ℕ). waiting (set_at ls i y) n) (sym eq)
      ∙ waiting_at c i y (set_at ls i y) (place_set c i x y ls e at) ∙ is)
  | inr (other, ne) ↦ rw other (waiting_other c i d x y ls e at ne)
]

-- ---- distinct numbers

abbrev pub AreDistinct : List Stream → Type 0
AreDistinct [] = Unit {0}
AreDistinct (s ∷ ss) = (stream_of s.number ss ≡ None) × AreDistinct ss

pub absent_first : (c : ℕ) (s : Stream) (ss : List Stream) → stream_of c (s ∷ ss) ≡ None
    → (eqb s.number c ≡ false) × (stream_of c ss ≡ None)
absent_first c s ss e =
    elim (eqb s.number c) as (λ b. cond b (Some s) (stream_of c ss) ≡ None → (b ≡ false) × (stream_of c ss ≡ None)) [
      | true ↦ λ h. absurd (cc)
      | false ↦ λ h. (refl, h)
    ] e

absent_push : (c : ℕ) (s : Stream) (ss : List Stream) → eqb s.number c ≡ false → stream_of c ss ≡ None
    → stream_of c (ss ++ s ∷ []) ≡ None
absent_push c s [] ne e = rw ne refl
absent_push c s (t ∷ ss) ne e = let h = absent_first c t ss e in rw h.0 (absent_push c s ss ne h.1)

absent_piece : (c d : ℕ) (o : List ℕ) (ss : List Stream) → stream_of d ss ≡ None
    → stream_of d (with_piece c o ss) ≡ None
absent_piece c d o [] e = refl
absent_piece c d o (s ∷ ss) e =
    let h = absent_first d s ss e in
    elim (eqb s.number c) as (λ b. stream_of d (cond b (with_octets s o ∷ ss) (s ∷ with_piece c o ss)) ≡ None) [
      | true ↦ rw h.0 h.1
      | false ↦ rw h.0 (absent_piece c d o ss h.1)
    ]

absent_without : (c d : ℕ) (ss : List Stream) → stream_of d ss ≡ None → stream_of d (without c ss) ≡ None
absent_without c d [] e = refl
absent_without c d (s ∷ ss) e =
    let h = absent_first d s ss e in
    elim (eqb s.number c) as (λ b. stream_of d (cond b ss (s ∷ without c ss)) ≡ None) [
      | true ↦ h.1
      | false ↦ rw h.0 (absent_without c d ss h.1)
    ]

flipped : (a b : ℕ) → eqb a b ≡ false → eqb b a ≡ false
flipped a b e = elim (eqb_tells b a) [ inl h ↦ absurd (both_ways (eqb a b) e (eq-eqb a b (sym h.1))) | inr h ↦ h.0 ]

distinct_push : (s : Stream) (ss : List Stream) → AreDistinct ss → stream_of s.number ss ≡ None
    → AreDistinct (ss ++ s ∷ [])
distinct_push s [] d e = (refl, tt)
distinct_push s (t ∷ ss) d e =
    let h = absent_first s.number t ss e in
    (absent_push t.number s ss (flipped t.number s.number h.0) d.0, distinct_push s ss d.1 h.1)

distinct_piece : (c : ℕ) (o : List ℕ) (ss : List Stream) → AreDistinct ss → AreDistinct (with_piece c o ss)
distinct_piece c o [] d = tt
distinct_piece c o (s ∷ ss) d =
    elim (eqb s.number c) as (λ b. AreDistinct (cond b (with_octets s o ∷ ss) (s ∷ with_piece c o ss))) [
      | true ↦ d
      | false ↦ (absent_piece c s.number o ss d.0, distinct_piece c o ss d.1)
    ]

distinct_without : (c : ℕ) (ss : List Stream) → AreDistinct ss → AreDistinct (without c ss)
distinct_without c [] d = tt
distinct_without c (s ∷ ss) d =
    elim (eqb s.number c) as (λ b. AreDistinct (cond b ss (s ∷ without c ss))) [
      | true ↦ d.1
      | false ↦ (absent_without c s.number ss d.0, distinct_without c ss d.1)
    ]

pub distinct_after : (h : History) (es : List AcceptedEvent) → AreDistinct h.streams → MayAcceptAll h es
    → AreDistinct (history_after h es).streams
distinct_after h [] d may = d
distinct_after h (Opened c k ∷ es) d may =
    distinct_after (accept h (Opened c k)) es
    (distinct_push (record { number = c; framing = k; octets = [] }) h.streams d may.0.0) may.1
distinct_after h (Piece c o ∷ es) d may = distinct_after (accept h (Piece c o)) es (distinct_piece c o h.streams d)
    may.1
distinct_after h (Ended c ∷ es) d may = distinct_after (accept h (Ended c)) es (distinct_without c h.streams d) may.1
distinct_after h (Datagram o ∷ es) d may = distinct_after (accept h (Datagram o)) es d may.1

pub absent_once : (c : ℕ) (ss : List Stream) → AreDistinct ss → stream_of c (without c ss) ≡ None
absent_once c [] d = refl
absent_once c (s ∷ ss) d = elim (eqb_tells s.number c) [
  | inl (same, eq) ↦ rw same (subst (λ (n : ℕ). stream_of n ss ≡ None) eq d.0)
  | inr (other, ne) ↦ rw (other, other) (absent_once c ss d.1)
]

waiting_absent : (c : ℕ) (ls : List Connection) (ss : List Stream) (ds : List (List (List ℕ))) → AreAt ls ss ds
    → stream_of c ss ≡ None → waiting ls c ≡ 0
waiting_absent c [] [] [] f e = refl
waiting_absent c (l ∷ ls) (s ∷ ss) (d ∷ ds) f e =
    let h = absent_first c s ss e in
    let not_here : eqb l.number c ≡ false = ap (λ (m : ℕ). eqb m c) f.0.number ∙ h.0 in
    rw not_here (waiting_absent c ls ss ds f.1 h.1)
waiting_absent c [] [] (d ∷ ds) f e = absurd f
waiting_absent c [] (s ∷ ss) [] f e = absurd f
waiting_absent c [] (s ∷ ss) (d ∷ ds) f e = absurd f
waiting_absent c (l ∷ ls) [] [] f e = absurd f
waiting_absent c (l ∷ ls) [] (d ∷ ds) f e = absurd f
waiting_absent c (l ∷ ls) (s ∷ ss) [] f e = absurd f

waiting_removed : (c i d : ℕ) (x : Connection) (ls : List Connection) → AtPlace c ls i x → ¬ (c ≡ d)
    → waiting (remove ls i) d ≡ waiting ls d
waiting_removed c i d x [] at ne = absurd at
waiting_removed c zero d x (l ∷ ls) at ne = rw (other_false l.number c d (eqb-true l.number c at.1) ne) refl
waiting_removed c (suc i) d x (l ∷ ls) at ne =
    ap (λ (m : ℕ). cond (eqb l.number d) (ready_count l.scanner.phase) m) (waiting_removed c i d x ls at.1 ne)

-- no frame waits of a connection that was closed, and the others wait as before
pub waiting_closed : (way : FrameReading) (c n : ℕ) (x : Connection) (ls : List Connection) (kept first : List Entry)
    (es : List AcceptedEvent) → place_from c 0 ls ≡ Some n → x ≡ get_or ls n x → ready_count x.scanner.phase ≡ 0
    → IsHandled x → Stands way ls kept first es → (d : ℕ) → waiting (remove ls n) d ≡ waiting ls d
waiting_closed way c n x ls kept first es is item none handled was d =
    let at = found_here c n x ls is item in
    let gone = absent_once c (history_of es).streams (distinct_after initial es tt was.acceptable) in
    let h = (close_found way c n x ls kept first es is item handled was).stands_at in
    let absent = subst (λ (g : History). stream_of c g.streams ≡ None) (sym (history_after-push initial es (Ended c)))
    gone in
    elim (eqb_tells c d) [
      | inl (same, eq) ↦ subst (λ (m : ℕ). waiting (remove ls n) m ≡ waiting ls m) eq
          (waiting_absent c (remove ls n) (history_of (es ++ Ended c ∷ [])).streams h.handled h.follow absent
          ∙ sym (waiting_at c n x ls at ∙ none))
      | inr (other, ne) ↦ waiting_removed c n d x ls at ne
    ]
