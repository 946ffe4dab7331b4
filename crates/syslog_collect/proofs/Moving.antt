-- What a connection does with octets, over what the scanner's calls ensure.
use Rattle.std.proofs.Common.{◌≡◌, ◌≢◌, ℕ, ◌+◌, ◌-◌, ◌<◌, ◌≤◌, List, [], ◌∷◌, ◌++◌, length, take, drop, inl, inr, refl}
use Rattle.std.proofs.Common.{sym, ap, ◌∙◌, subst, append_assoc, arith}
use Rattle.std.specs.Prelude.{◌⊎◌, ◌↔◌, Option, Some, None, Result, Ok, Err, Bool, true, false, IsTrue}
use Rattle.std.proofs.lemmas.List.{append-nil, length-take}
use Rattle.octet_language.specs.Language.{Begins}
use Rattle.syslog_frame.specs.Frames.{Frame, Frames, IsBadAt, Whole, framed}
use Rattle.syslog_frame.specs.Reads.{Reads, ReadsOn}
use Rattle.syslog_frame.specs.Scan.{Scan, HasBadCount, HasFrame, HasReady, IsFailed, IsReading, Stands}
use Rattle.syslog_frame.specs.declared.fault.GrowFault.{GrowFault}
use Rattle.syslog_frame.specs.declared.fault.GrowFault.TheVariants.{Failed as fault_Failed, StreamTooLong}
use Rattle.syslog_frame.specs.Takes.{Takes}
use Rattle.syslog_frame.specs.declared.framing.Framing.{Framing}
use Rattle.syslog_frame.specs.declared.framing.Framing.TheVariants.{Counted, Lf}
use Rattle.syslog_frame.specs.declared.limits.TheConstants.{FRAME_MAX, POSITION_MAX}
use Rattle.syslog_frame.specs.declared.phase.Phase.{Phase}
use Rattle.syslog_frame.specs.declared.phase.Phase.TheVariants.{Counting, Inside, Ended, BadCount as phase_BadCount}
use Rattle.syslog_frame.specs.declared.phase.Phase.TheVariants.{Failed}
use Rattle.syslog_frame.proofs.Calls.{bad_not_frame, begins_reading, none_unless_frame, open_reading, reading_standing}
use Rattle.syslog_frame.proofs.Calls.{stands_not_failed}
use Rattle.syslog_frame.proofs.Cuts.{take_add}
use Rattle.syslog_frame.proofs.FrameLaws.{unique_frames}
use Rattle.syslog_frame.proofs.Reading.{frames_read, frames_with}
use Rattle.syslog_frame.proofs.Standing.{whole_ended}
use Rattle.archive_text.specs.Entries.{Entry}
use Rattle.syslog_legacy.specs.declared.frame_reading.FrameReading.{FrameReading}
use Rattle.syslog_collect.specs.declared.connection.Connection.{Connection}
use Rattle.syslog_collect.specs.declared.outcome.Outcome.{Outcome}
use Rattle.syslog_collect.specs.declared.outcome.Outcome.TheVariants.{New, Held, Refused, RefusedLegacy, TooLong}
use Rattle.syslog_collect.specs.declared.outcome.Outcome.TheVariants.{BadCount}
use Rattle.syslog_collect.specs.Answers.{EndsInRecord, ReportsBadCount, Advances, accepted_count}
use Rattle.syslog_collect.specs.History.{HoldsBadCount, Stream, with_octets}
use Rattle.syslog_collect.specs.Outcomes.{HandlesFrame, HandlesReady, HasRecord, IsOutcome, IsReported, outcomes_of}
use Rattle.syslog_collect.specs.Standing.{IsAt, IsOpenAt}

-- some frame begins with nothing
begins_nothing : (kind : Framing) → Begins (Whole kind) []
begins_nothing Counted = (framed Counted (0 ∷ []), (0 ∷ [], ((omega arith, omega arith), refl)))
begins_nothing Lf = (framed Lf [], ([], (tt, refl)))

-- where a stream's rest begins a frame, it holds no bad count
not_bad : (s : Stream) (frames : List (List ℕ)) (rest : List ℕ) → Frames s.framing s.octets frames rest
    → Begins (Whole s.framing) rest → ¬ (HoldsBadCount s)
not_bad s frames rest are begins (fs, q, at, bad) =
    bad.none (subst (Begins (Whole s.framing)) (unique_frames s.framing s.octets frames fs rest q are bad.frames_are).1
    begins)

pub ended_or_not : (phase : Phase) → (phase ≡ Ended) ⊎ (phase ≢ Ended)
ended_or_not Ended = inl refl
ended_or_not Counting = inr (λ e. absurd (cc))
ended_or_not Inside = inr (λ e. absurd (cc))
ended_or_not phase_BadCount = inr (λ e. absurd (cc))
ended_or_not Failed = inr (λ e. absurd (cc))

-- the octets that an open connection has taken hold no bad count
pub good_open : (scanner : Scan) (s : Stream) (handled : List (List ℕ)) → IsOpenAt scanner s handled
    → ¬ (HoldsBadCount s)
good_open scanner s handled at =
    elim (ended_or_not scanner.phase) [
      | inl ended ↦
          let whole = whole_ended FRAME_MAX s.framing scanner.count scanner.size scanner.kept at.rest
          (rw ended at at.reads.stands.holds) in
          not_bad s (handled ++ whole.0 ∷ []) [] (frames_with FRAME_MAX scanner s.framing 0 s.octets handled at.rest
          whole.0 at.reads whole.1) (begins_nothing s.framing)
      | inr other ↦
          let reading = reading_standing FRAME_MAX scanner s.framing (0 + length s.octets) at.rest other at.good
          at.reads.stands in
          not_bad s handled at.rest (frames_read FRAME_MAX scanner s.framing 0 s.octets handled at.rest at.reads
          (none_unless_frame FRAME_MAX scanner s.framing (0 + length s.octets) at.rest other at.reads.stands))
          (begins_reading FRAME_MAX scanner s.framing (0 + length s.octets) at.rest (open_reading scanner reading)
          at.reads.stands)
    ]

-- a connection that has not failed is open
pub open_unless_failed : (c : Connection) (s : Stream) (handled : List (List ℕ)) → ¬ (IsFailed c.scanner)
    → IsAt c s handled → IsOpenAt c.scanner s handled
open_unless_failed c s handled live at = elim at.scanner [ inl here ↦ here | inr broken ↦ absurd (live broken.failed) ]

-- one that has, holds a bad count
pub bad_where_failed : (c : Connection) (s : Stream) (handled : List (List ℕ)) → IsFailed c.scanner → IsAt c s handled
    → HoldsBadCount s
bad_where_failed c s handled failed at = elim at.scanner [
  | inl here ↦ absurd (stands_not_failed FRAME_MAX c.scanner s.framing (0 + length s.octets) here.rest here.reads.stands
      failed)
  | inr broken ↦ (handled, broken.rest, broken.offset, broken.bad)
]

-- what a push of a piece ensures, of which n octets were taken
pub record IsPushed (old new : Scan) (piece : List ℕ) (n : ℕ) : Type 0 where
  pub live : ¬ (IsFailed old)
  pub within : n ≤ length piece
  pub position : new.position ≡ old.position + n
  pub bound : new.position ≤ POSITION_MAX
  pub room : ¬ (IsReading old × (POSITION_MAX < old.position + length piece))
  pub waits : HasReady old → new ≡ old
  pub reads : (kind : Framing) (first : ℕ) (octets : List ℕ) (frames : List (List ℕ)) (rest : List ℕ)
      → Reads FRAME_MAX old kind first octets frames rest → ¬ (HasBadCount old)
      → ReadsOn FRAME_MAX new kind first octets frames rest piece n
  pub takes : HasBadCount new → (kind : Framing) (first : ℕ) (octets : List ℕ) (frames : List (List ℕ)) (rest : List ℕ)
      → Reads FRAME_MAX old kind first octets frames rest → ¬ (HasBadCount old) → n < length piece

-- what a release ensures
pub record IsReleased (old new : Scan) : Type 0 where
  pub same : ¬ (HasReady old) → new ≡ old
  pub frame : HasFrame old → IsReading new
  pub failed : HasBadCount old → IsFailed new
  pub reads : (kind : Framing) (first : ℕ) (octets : List ℕ) (frames : List (List ℕ)) (rest f : List ℕ)
      → Reads FRAME_MAX old kind first octets frames rest → Frame kind f rest
      → Reads FRAME_MAX new kind first octets (frames ++ f ∷ []) []

-- a bad count is met inside a piece
bad_within : (kind : Framing) (p piece : List ℕ) (n : ℕ) (s : Scan) → HasBadCount s → Takes kind p piece n s
    → n < length piece
bad_within kind p piece n s bad takes = elim takes [
  | inl (_, frame) ↦ absurd (bad_not_frame s bad frame)
  | inr (inl (breaks, _)) ↦ breaks.within
  | inr (inr (_, reading)) ↦ absurd (reading.0 (inr bad))
]

-- a push that took octets, by its clauses
pub pushed : (old new : Scan) (piece : List ℕ) (n : ℕ)
    → ◌≡◌ {A = Result ℕ GrowFault} (Ok n) (Err fault_Failed) ↔ IsFailed old
    → ◌≡◌ {A = Result ℕ GrowFault} (Ok n) (Err StreamTooLong)
    ↔ (IsReading old × (POSITION_MAX < old.position + length piece))
    → (HasReady old → ◌≡◌ {A = Result ℕ GrowFault} (Ok n) (Ok 0) × (new ≡ old))
    → n ≤ length piece → new.position ≡ old.position + n → new.position ≤ POSITION_MAX
    → ((kind : Framing) (first : ℕ) (octets : List ℕ) (frames : List (List ℕ)) (rest : List ℕ)
    → Reads FRAME_MAX old kind first octets frames rest → ¬ (HasBadCount old)
    → ReadsOn FRAME_MAX new kind first octets frames rest piece n)
    → ((kind : Framing) (position : ℕ) (p : List ℕ) → Stands FRAME_MAX old kind position p → ¬ (HasBadCount old)
    → Takes kind p piece n new)
    → IsPushed old new piece n
pushed old new piece n failed too_long waits within position bound reads takes = record {
  live = λ f. let e = failed.1 f in absurd (cc);
  within = within;
  position = position;
  bound = bound;
  room = λ h. let e = too_long.1 h in absurd (cc);
  waits = λ h. (waits h).1;
  reads = reads;
  takes = λ bad kind first octets frames rest r good.
      bad_within kind rest piece n new bad (takes kind (first + length octets) rest r.stands good);
}

not_true : (b : Bool) → ¬ (IsTrue b) → b ≡ false
not_true true h = absurd (h refl)
not_true false h = refl

-- a release, by its clauses
pub released : (old new : Scan) (b : Bool) → IsTrue b ↔ HasReady old → (b ≡ false → new ≡ old)
    → (HasFrame old → IsReading new) → (HasBadCount old → IsFailed new)
    → ((kind : Framing) (first : ℕ) (octets : List ℕ) (frames : List (List ℕ)) (rest f : List ℕ)
    → Reads FRAME_MAX old kind first octets frames rest → Frame kind f rest
    → Reads FRAME_MAX new kind first octets (frames ++ f ∷ []) [])
    → IsReleased old new
released old new b value same frame failed reads = record {
  same = λ none. same (not_true b (λ t. none (value.0 t)));
  frame = frame;
  failed = failed;
  reads = reads;
}

-- fewer octets than the position of a scanner allows
few : (s : Stream) (octets : List ℕ) (k : ℕ) → length s.octets + k ≤ POSITION_MAX
    → length s.octets + length (take k octets) ≤ POSITION_MAX
few s octets k h = omega (arith, h, length-take k octets)

-- the position of a scanner that has taken the octets
pub position_of : (scanner : Scan) (s : Stream) (handled : List (List ℕ)) → IsOpenAt scanner s handled
    → scanner.position ≡ length s.octets
position_of scanner s handled at = omega (arith, at.reads.stands.position_is)

-- m octets, of which the first n + 1 are known
take_past : (octets piece : List ℕ) (n m : ℕ) → n < m
    → (octets ++ take (n + 1) piece) ++ take (m - (n + 1)) (drop (n + 1) piece) ≡ octets ++ take m piece
take_past octets piece n m lt =
    let e : m ≡ (n + 1) + (m - (n + 1)) = omega arith in
    append_assoc octets (take (n + 1) piece) (take (m - (n + 1)) (drop (n + 1) piece))
    ∙ ap (λ (u : List ℕ). octets ++ u) (sym (take_add (n + 1) (m - (n + 1)) piece)
    ∙ ap (λ (k : ℕ). take k piece) (sym e))

module _ (way : FrameReading) (old new : Connection) (kept_old kept_new : List Entry) (s : Stream) (handled : List
    (List ℕ))
    (piece : List ℕ) (n : ℕ) (number : new.number ≡ s.number) (at : IsOpenAt old.scanner s handled) where
  within_bound : (mid : Scan) → IsPushed old.scanner mid piece n → length s.octets + n ≤ POSITION_MAX
  within_bound mid p = omega (arith, position_of old.scanner s handled at, p.position, p.bound)

  -- octets were taken, and no frame was handled
  pub takes_octets : IsPushed old.scanner new.scanner piece n → ¬ (HasBadCount new.scanner) → kept_new ≡ kept_old
      → Advances way old new kept_old kept_new (take n piece) [] s handled
  takes_octets p good kept = record {
    may = (good_open old.scanner s handled at, few s piece n (within_bound new.scanner p));
    fresh = [];
    now_at = record {
      number = number;
      scanner = inl (record {
        rest = at.rest ++ take n piece;
        reads = rw append-nil (p.reads s.framing 0 s.octets handled at.rest at.reads at.good).reads;
        good = good;
      });
    };
    reported = (refl, kept);
    marks = good_open new.scanner (with_octets s (take n piece)) handled (record {
      rest = at.rest ++ take n piece;
      reads = (p.reads s.framing 0 s.octets handled at.rest at.reads at.good).reads;
      good = good;
    });
  }

  -- a frame was handled
  pub handles_frame : (mid : Scan) (o : Outcome) → IsPushed old.scanner mid piece n → IsReleased mid new.scanner
      → HandlesFrame way mid kept_old kept_new o
      → ((f : List ℕ) → IsOutcome way kept_old kept_new f o → IsReported way kept_old kept_new (f ∷ []) o)
      → ((t : Stream) → ¬ (HoldsBadCount t) → ReportsBadCount (o ∷ []) t)
      → Advances way old new kept_old kept_new (take n piece) (o ∷ []) s handled
  handles_frame mid o p r (ready, h) reports unmarked =
      let on = (p.reads s.framing 0 s.octets handled at.rest at.reads at.good).reads in
      let f = h s.framing 0 (s.octets ++ take n piece) handled (at.rest ++ take n piece) on in
      record {
        may = (good_open old.scanner s handled at, few s piece n (within_bound mid p));
        fresh = f.0 ∷ [];
        now_at = record {
          number = number;
          scanner = inl (record {
            rest = [];
            reads = r.reads s.framing 0 (s.octets ++ take n piece) handled (at.rest ++ take n piece) f.0 on f.1;
            good = λ bad. (r.frame ready).0 (inr bad);
          });
        };
        reported = (f.0 ∷ [], [], kept_new, refl, reports f.0 f.2, (refl, refl));
        marks = unmarked (with_octets s (take n piece))
            (good_open new.scanner (with_octets s (take n piece)) (handled ++ f.0 ∷ []) (record {
              rest = [];
              reads = r.reads s.framing 0 (s.octets ++ take n piece) handled (at.rest ++ take n piece) f.0 on f.1;
              good = λ bad. (r.frame ready).0 (inr bad);
            }));
      }

  -- a bad count was met, and released; m octets are accepted
  pub breaks : (mid : Scan) (offset m : ℕ) → offset ≡ mid.position → IsPushed old.scanner mid piece n
      → IsReleased mid new.scanner → HasBadCount mid → n < m → m ≤ length piece → kept_new ≡ kept_old
      → Advances way old new kept_old kept_new (take m piece) (BadCount offset ∷ []) s handled
  breaks mid offset m at_is p r bad lt le kept =
      let on = p.reads s.framing 0 s.octets handled at.rest at.reads at.good in
      let more = take (m - (n + 1)) (drop (n + 1) piece) in
      let none_ready : ¬ (HasReady old.scanner) = λ ready. elim ready [
        | inl frame ↦ bad_not_frame mid bad (subst HasFrame (sym (p.waits (inl frame))) frame)
        | inr count ↦ at.good count
      ] in
      let reading : IsReading old.scanner = (none_ready, p.live) in
      let rest = (at.rest ++ take (n + 1) piece) ++ more in
      let here : offset ≡ length (s.octets ++ take n piece) = omega (arith, at_is, on.reads.stands.position_is) in
      let broken = subst (λ (u : List ℕ). IsBadAt s.framing u handled rest (length (s.octets ++ take n piece)))
      (take_past s.octets piece n m lt) (on.bad bad more) in
      let past : ¬ (POSITION_MAX < old.scanner.position + length piece) = λ lt. p.room (reading, lt) in
      let room : length s.octets + length piece ≤ POSITION_MAX =
      omega (arith, position_of old.scanner s handled at, past) in
      record {
        may = (good_open old.scanner s handled at, few s piece m (omega arith));
        fresh = [];
        now_at = record {
          number = number;
          scanner = inr (record {
            rest = rest;
            offset = length (s.octets ++ take n piece);
            bad = rw append-nil broken;
            failed = r.failed bad;
          });
        };
        reported = ([], [], kept_new, refl, (refl, kept), (refl, refl));
        marks = (
          (
            handled,
            rest,
            subst (λ (k : ℕ). IsBadAt s.framing (s.octets ++ take m piece) handled rest k)
                (sym here) broken,
          ),
          refl,
        );
      }

-- nothing is taken of a piece, where room was refused
none_pushed : (scanner : Scan) (piece : List ℕ) → IsReading scanner → scanner.position + length piece ≤ POSITION_MAX
    → IsPushed scanner scanner piece 0
none_pushed scanner piece reading fits = record {
  live = reading.1;
  within = omega arith;
  position = omega arith;
  bound = omega (arith, fits);
  room = λ h. omega (arith, fits, h.1);
  waits = λ h. refl;
  reads = λ kind first octets frames rest r good. record {
    reads = simp append-nil r;
    bad = λ bad. absurd (reading.0 (inr bad));
  };
  takes = λ bad. absurd (reading.0 (inr bad));
}

pub moved_none : (way : FrameReading) (old new : Connection) (kept_old kept_new : List Entry) (piece : List ℕ) (s : Stream)
    (handled : List (List ℕ)) → new ≡ old → IsReading old.scanner → old.scanner.position + length piece ≤ POSITION_MAX
    → kept_new ≡ kept_old → IsAt old s handled → Advances way old new kept_old kept_new (take 0 piece) [] s handled
moved_none way old new kept_old kept_new piece s handled same reading fits kept at =
    subst (λ (z : Connection). Advances way old z kept_old kept_new (take 0 piece) [] s handled) (sym same)
    (takes_octets way old old kept_old kept_new s handled piece 0 at.number
    (open_unless_failed old s handled reading.1 at) (none_pushed old.scanner piece reading fits)
    (λ bad. reading.0 (inr bad)) kept)

-- what is ready after a push was handled and released
pub advanced : (way : FrameReading) (old new : Connection) (mid : Scan) (kept_old kept_new : List Entry)
    (piece : List ℕ)
    (n m : ℕ) (o : Option Outcome) (s : Stream) (handled : List (List ℕ))
    → new.number ≡ old.number → IsPushed old.scanner mid piece n → HandlesReady way mid kept_old kept_new o
    → IsReleased mid new.scanner → (n < length piece → (n < m) × (m ≤ length piece))
    → IsAt old s handled → Advances way old new kept_old kept_new (take (accepted_count m n o) piece) (outcomes_of o)
    s handled
advanced way old new mid kept_old kept_new piece n m None s handled number p (quiet, same) r bounds at =
    let here = open_unless_failed old s handled p.live at in
    let unready : ¬ (HasReady mid) = λ ready. elim quiet [
      | inl reading ↦ reading.0 ready
      | inr failed ↦ elim ready [
        | inl frame ↦ absurd (apart mid.phase frame failed)
        | inr bad ↦ absurd
            (apart_bad mid.phase bad failed)
      ]
    ] in
    takes_octets way old new kept_old kept_new s handled piece n (number ∙ at.number) here
    (subst (λ (z : Scan). IsPushed old.scanner z piece n) (sym (r.same unready)) p)
    (λ z. unready (inr (subst HasBadCount (r.same unready) z))) same
  where
    apart : (phase : Phase) → phase ≡ Ended → phase ≡ Failed → ⊥
    apart phase a b = absurd cc

    apart_bad : (phase : Phase) → phase ≡ phase_BadCount → phase ≡ Failed → ⊥
    apart_bad phase a b = absurd cc
advanced way old new mid kept_old kept_new piece n m (Some (BadCount offset)) s handled number p (bad, at_is, same) r
    bounds at =
    let here = open_unless_failed old s handled p.live at in
    let some = bounds (p.takes bad s.framing 0 s.octets handled here.rest here.reads here.good) in
    breaks way old new kept_old kept_new s handled piece n (number ∙ at.number) here mid offset m at_is p r bad some.0
    some.1 same
advanced way old new mid kept_old kept_new piece n m (Some New) s handled number p h r bounds at =
    handles_frame way old new kept_old kept_new s handled piece n (number ∙ at.number)
    (open_unless_failed old s handled p.live at) mid New p r h (λ f out. (f, refl, out)) (λ t good. good)
advanced way old new mid kept_old kept_new piece n m (Some Held) s handled number p h r bounds at =
    handles_frame way old new kept_old kept_new s handled piece n (number ∙ at.number)
    (open_unless_failed old s handled p.live at) mid Held p r h (λ f out. (f, refl, out)) (λ t good. good)
advanced way old new mid kept_old kept_new piece n m (Some (Refused fault)) s handled number p h r bounds at =
    handles_frame way old new kept_old kept_new s handled piece n (number ∙ at.number)
    (open_unless_failed old s handled p.live at) mid (Refused fault) p r h (λ f out. (f, refl, out))
    (λ t good. good)
advanced way old new mid kept_old kept_new piece n m (Some (RefusedLegacy offset)) s handled number p h r bounds at =
    handles_frame way old new kept_old kept_new s handled piece n (number ∙ at.number)
    (open_unless_failed old s handled p.live at) mid (RefusedLegacy offset) p r h (λ f out. (f, refl, out))
    (λ t good. good)
advanced way old new mid kept_old kept_new piece n m (Some TooLong) s handled number p h r bounds at =
    handles_frame way old new kept_old kept_new s handled piece n (number ∙ at.number)
    (open_unless_failed old s handled p.live at) mid TooLong p r h (λ f out. (f, refl, out)) (λ t good. good)

-- octets were taken, and the memory of the frame that is ready was refused
pub waiting : (way : FrameReading) (old new : Connection) (kept_old kept_new : List Entry) (piece : List ℕ) (n : ℕ)
    (s : Stream) (handled : List (List ℕ))
    → new.number ≡ old.number → IsPushed old.scanner new.scanner piece n → HasFrame new.scanner → kept_new ≡ kept_old
    → IsAt old s handled
    → Advances way old new kept_old kept_new (take n piece) [] s handled
waiting way old new kept_old kept_new piece n s handled number p frame kept at =
    takes_octets way old new kept_old kept_new s handled piece n (number ∙ at.number)
    (open_unless_failed old s handled p.live at) p (λ bad. bad_not_frame new.scanner bad frame) kept

-- why a piece is too long
pub too_long : (c : Connection) (s : Stream) (handled : List (List ℕ)) (piece : List ℕ) → IsReading c.scanner
    → POSITION_MAX < c.scanner.position + length piece → IsAt c s handled
    → ¬ (HoldsBadCount s) × (POSITION_MAX < length s.octets + length piece)
too_long c s handled piece reading lt at =
    let here = open_unless_failed c s handled reading.1 at in
    (good_open c.scanner s handled here, omega (arith, position_of c.scanner s handled here, lt))

-- a connection that has not failed holds no bad count
pub good_unless_failed : (c : Connection) (s : Stream) (handled : List (List ℕ)) → ¬ (IsFailed c.scanner)
    → IsAt c s handled → ¬ (HoldsBadCount s)
good_unless_failed c s handled live at = good_open c.scanner s handled (open_unless_failed c s handled live at)

-- memory was refused for a record
pub waiting_record : (way : FrameReading) (c : Connection) (mid : Scan) (s : Stream) (handled : List (List ℕ))
    (piece : List ℕ) (n : ℕ) → IsPushed c.scanner mid piece n → HasRecord way mid → IsAt c s handled
    → ¬ (HoldsBadCount s) × EndsInRecord way s (take n piece)
waiting_record way c mid s handled piece n p record_ready at =
    let here = open_unless_failed c s handled p.live at in
    let on = (p.reads s.framing 0 s.octets handled here.rest here.reads here.good).reads in
    let f = record_ready s.framing 0 (s.octets ++ take n piece) handled (here.rest ++ take n piece) on in (
      good_open c.scanner s handled here,
      (
        handled,
        f.0,
        frames_with FRAME_MAX mid s.framing 0 (s.octets ++ take n piece) handled (here.rest ++ take n piece) f.0 on f.1,
        f.2,
      ),
    )
