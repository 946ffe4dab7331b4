-- Octets of one connection, one after the other, and what was logged of them.
use Rattle.std.proofs.Common.{◌≡◌, ℕ, ◌+◌, ◌-◌, ◌<◌, ◌≤◌, List, [], ◌∷◌, ◌++◌, length, take, drop, inl, inr, refl, sym}
use Rattle.std.proofs.Common.{◌∙◌, ap, subst, append_assoc, arith}
use Rattle.std.specs.Prelude.{◌⊎◌, Option, Some, None, Err}
use Rattle.std.proofs.lemmas.List.{append-nil, length-append, length-drop, length-take, take-append-drop, take_all}
use Rattle.std.proofs.lemmas.List.{take_rest}
use Rattle.syslog_frame.specs.Scan.{HasBadCount, HasReady, IsFailed, IsReading, Scan}
use Rattle.syslog_frame.specs.declared.phase.Phase.{Phase}
use Rattle.syslog_frame.specs.declared.phase.Phase.TheVariants.{Counting, Inside, Ended as phase_Ended}
use Rattle.syslog_frame.specs.declared.phase.Phase.TheVariants.{BadCount as phase_BadCount, Failed}
use Rattle.syslog_frame.proofs.Cuts.{take_add}
use Rattle.archive_text.specs.Entries.{Entry}
use Rattle.syslog_legacy.specs.declared.frame_reading.FrameReading.{FrameReading}
use Rattle.syslog_collect.specs.declared.connection.Connection.{Connection}
use Rattle.syslog_collect.specs.declared.fault.CollectFault.{CollectFault}
use Rattle.syslog_collect.specs.declared.fault.CollectFault.TheVariants.{AlreadyOpen, TooManyOpen, NotOpen, ConnFailed}
use Rattle.syslog_collect.specs.declared.fault.CollectFault.TheVariants.{StreamTooLong, Unreleased, Unterminated}
use Rattle.syslog_collect.specs.declared.fault.CollectFault.TheVariants.{Memory}
use Rattle.syslog_collect.specs.declared.outcome.Outcome.{Outcome}
use Rattle.syslog_collect.specs.declared.outcome.Outcome.TheVariants.{New, Held, Refused, RefusedLegacy, TooLong}
use Rattle.syslog_collect.specs.declared.outcome.Outcome.TheVariants.{BadCount}
use Rattle.syslog_collect.specs.Answers.{IsBadCount, IsUsedWithin, ReportsBadCount, Advances, AdvancesBy}
use Rattle.syslog_collect.specs.Answers.{accepted_count, dropped_octets}
use Rattle.syslog_collect.specs.History.{HoldsBadCount, Stream, with_octets}
use Rattle.syslog_collect.specs.Outcomes.{AreReported, HandlesReady, outcomes_of}
use Rattle.syslog_collect.specs.Runs.{Logs, LogsAdvance, AdvancesOrStays, pending, used_before}
use Rattle.syslog_collect.specs.Standing.{IsAt}

-- ---- reports, one after the other

pub reported_then : (way : FrameReading) (a b c : List Entry) (fs gs : List (List ℕ)) (os ps : List Outcome)
    → AreReported way a b fs os → AreReported way b c gs ps → AreReported way a c (fs ++ gs) (os ++ ps)
reported_then way a b c fs gs [] ps (none, same) later =
    subst (λ (z : List (List ℕ)). AreReported way a c (z ++ gs) ps) (sym none)
    (subst (λ (z : List Entry). AreReported way z c gs ps) same later)
reported_then way a b c fs gs (o ∷ os) ps (here, rest, mid, is, one, more) later = (
  here,
  rest ++ gs,
  mid,
  ap (λ (z : List (List ℕ)). z ++ gs) is
      ∙ append_assoc here rest gs,
  one,
  reported_then way mid b c rest gs os ps more later,
)

-- ---- moves, one after the other

pub with_octets_twice : (s : Stream) (o p : List ℕ) → with_octets (with_octets s o) p ≡ with_octets s (o ++ p)
with_octets_twice s o p = ap (λ (z : List ℕ). let t : Stream =
    record { number = s.number; framing = s.framing; octets = z } in t) (append_assoc s.octets o p)

-- outcomes of octets that hold no bad count, and of more octets
marks_then : (os ps : List Outcome) (s t : Stream) → ¬ (HoldsBadCount s) → ReportsBadCount os s → ReportsBadCount ps t
    → ReportsBadCount (os ++ ps) t
marks_then [] ps s t good h k = k
marks_then (BadCount at ∷ os) ps s t good h k = absurd (good (h.0.0, h.0.1, at, h.0.2))
marks_then (New ∷ os) ps s t good h k = marks_then os ps s t good h k
marks_then (Held ∷ os) ps s t good h k = marks_then os ps s t good h k
marks_then (Refused fault ∷ os) ps s t good h k = marks_then os ps s t good h k
marks_then (RefusedLegacy offset ∷ os) ps s t good h k = marks_then os ps s t good h k
marks_then (TooLong ∷ os) ps s t good h k = marks_then os ps s t good h k

moves_then : (way : FrameReading) (x y z : Connection) (a b c : List Entry) (o p : List ℕ) (os ps : List Outcome)
    (s : Stream) (d : List (List ℕ)) → (m : Advances way x y a b o os s d)
    → Advances way y z b c p ps (with_octets s o) (d ++ m.fresh) → Advances way x z a c (o ++ p) (os ++ ps) s d
moves_then way x y z a b c o p os ps s d m n = record {
  may = (m.may.0, omega (arith, n.may.1, length-append s.octets o, length-append o p));
  fresh = m.fresh ++ n.fresh;
  now_at = subst (λ (t : Stream). IsAt z t (d ++ (m.fresh ++ n.fresh))) (with_octets_twice s o p)
      (subst (λ (fs : List (List ℕ)). IsAt z (with_octets (with_octets s o) p) fs) (append_assoc d m.fresh n.fresh)
      n.now_at);
  reported = reported_then way a b c m.fresh n.fresh os ps m.reported n.reported;
  marks = subst (λ (t : Stream). ReportsBadCount (os ++ ps) t) (with_octets_twice s o p)
      (marks_then os ps (with_octets s o) (with_octets (with_octets s o) p) n.may.0 m.marks n.marks);
}

-- what was logged of octets, and then of more that moved it
logs_then_advance : (way : FrameReading) (x y z : Connection) (a b c : List Entry) (o p : List ℕ) (l m n : List Outcome)
    (s : Stream) (d : List (List ℕ)) → IsAt x s d → Logs way x y a b o l m s d
    → ((t : Stream) (e : List (List ℕ)) → IsAt y t e → LogsAdvance way y z b c p m n t e)
    → LogsAdvance way x z a c (o ++ p) l n s d
logs_then_advance way x y z a b c o p l m n s d at (os, log, inl (none, same, kept, quiet)) next =
    let second = next s d (subst (λ (w : Connection). IsAt w s d) (sym same) at) in (
      second.0,
      second.1 ∙ ap (λ (u : List Outcome). u ++ second.0)
          (log ∙ ap (λ (u : List Outcome). l ++ u) quiet ∙ append-nil l),
      subst (λ (u : List ℕ). Advances way x z a c (u ++ p) second.0 s d) (sym none)
          (subst (λ (w : Connection). Advances way w z a c p second.0 s d) same
          (subst (λ (w : List Entry). Advances way y z w c p second.0 s d) kept second.2)),
    )
logs_then_advance way x y z a b c o p l m n s d at (os, log, inr moved) next =
    let second = next (with_octets s o) (d ++ moved.fresh) moved.now_at in (
      os ++ second.0,
      second.1 ∙ ap (λ (u : List Outcome). u ++ second.0) log ∙ append_assoc l os second.0,
      moves_then way x y z a b c o p os second.0 s d moved second.2,
    )

pub logs_on_advance : (way : FrameReading) (x y z : Connection) (a b c : List Entry) (o p whole : List ℕ)
    (l m n : List Outcome) (s : Stream) (d : List (List ℕ)) → o ++ p ≡ whole → IsAt x s d → Logs way x y a b o l m s d
    → ((t : Stream) (e : List (List ℕ)) → IsAt y t e → LogsAdvance way y z b c p m n t e)
    → LogsAdvance way x z a c whole l n s d
logs_on_advance way x y z a b c o p whole l m n s d is at first next =
    subst (λ (u : List ℕ). LogsAdvance way x z a c u l n s d) is
    (logs_then_advance way x y z a b c o p l m n s d at first next)

-- what was logged of octets, and then of more
pub logs_then : (way : FrameReading) (x y z : Connection) (a b c : List Entry) (o p : List ℕ) (l m n : List Outcome)
    (s : Stream) (d : List (List ℕ)) → IsAt x s d → Logs way x y a b o l m s d
    → ((t : Stream) (e : List (List ℕ)) → IsAt y t e → Logs way y z b c p m n t e)
    → Logs way x z a c (o ++ p) l n s d
logs_then way x y z a b c o p l m n s d at (os, log, inl (none, same, kept, quiet)) next =
    let second = next s d (subst (λ (w : Connection). IsAt w s d) (sym same) at) in (
      second.0,
      second.1 ∙ ap (λ (u : List Outcome). u ++ second.0)
          (log ∙ ap (λ (u : List Outcome). l ++ u) quiet ∙ append-nil l),
      subst (λ (u : List ℕ). AdvancesOrStays way x z a c (u ++ p) second.0 s d) (sym none)
          (subst (λ (w : Connection). AdvancesOrStays way w z a c p second.0 s d) same
          (subst (λ (w : List Entry). AdvancesOrStays way y z w c p second.0 s d) kept second.2)),
    )
logs_then way x y z a b c o p l m n s d at (os, log, inr moved) next =
    let second = next (with_octets s o) (d ++ moved.fresh) moved.now_at in (
      os ++ second.0,
      second.1 ∙ ap (λ (u : List Outcome). u ++ second.0) log ∙ append_assoc l os second.0,
      elim second.2 [
        | inl (none, same, kept, quiet) ↦
            subst (λ (u : List ℕ). AdvancesOrStays way x z a c u (os ++ second.0) s d)
            (sym (ap (λ (v : List ℕ). o ++ v) none ∙ append-nil o))
            (subst (λ (u : List Outcome). AdvancesOrStays way x z a c o u s d)
            (sym (ap (λ (v : List Outcome). os ++ v) quiet ∙ append-nil os))
            (subst (λ (w : Connection). AdvancesOrStays way x w a c o os s d) (sym same)
            (subst (λ (w : List Entry). AdvancesOrStays way x y a w o os s d) (sym kept) (inr moved))))
        | inr more ↦ inr (moves_then way x y z a b c o p os second.0 s d moved more)
      ],
    )

pub logs_on : (way : FrameReading) (x y z : Connection) (a b c : List Entry) (o p whole : List ℕ) (l m n : List Outcome)
    (s : Stream) (d : List (List ℕ)) → o ++ p ≡ whole → IsAt x s d → Logs way x y a b o l m s d
    → ((t : Stream) (e : List (List ℕ)) → IsAt y t e → Logs way y z b c p m n t e) → Logs way x z a c whole l n s d
logs_on way x y z a b c o p whole l m n s d is at first next =
    subst (λ (u : List ℕ). Logs way x z a c u l n s d) is (logs_then way x y z a b c o p l m n s d at first next)

pub logs_of : (way : FrameReading) (x y : Connection) (a b : List Entry) (o : List ℕ) (l m : List Outcome) (s : Stream)
    (d : List (List ℕ)) → LogsAdvance way x y a b o l m s d → Logs way x y a b o l m s d
logs_of way x y a b o l m s d (os, log, moves) = (os, log, inr moves)

-- nothing came, and nothing changed
pub logs_nothing : (way : FrameReading) (x : Connection) (a : List Entry) (l m : List Outcome) (s : Stream)
    (d : List (List ℕ)) → m ≡ l → Logs way x x a a [] l m s d
logs_nothing way x a l m s d same = ([], same ∙ sym (append-nil l), inl (refl, refl, refl, refl))

-- ---- one step

-- an advance that was refused
pub refused : (way : FrameReading) (x y : Connection) (a b : List Entry) (rest : List ℕ) (l m : List Outcome)
    (fault : CollectFault) (n : ℕ) (s : Stream) (d : List (List ℕ)) → n ≡ used_before fault → m ≡ l
    → AdvancesBy way (dropped_octets rest (Err fault)) x y a b [] s d → Logs way x y a b (take n rest) l m s d
refused way x y a b rest l m fault n s d is log moves = ([], log ∙ sym (append-nil l), rw is (stays fault moves))
  where
    stays : (f : CollectFault) → AdvancesBy way (dropped_octets rest (Err f)) x y a b [] s d
        → AdvancesOrStays way x y a b (take (used_before f) rest) [] s d
    stays (Memory k) h = inr h
    stays AlreadyOpen h = inl (refl, h.0, h.1, refl)
    stays TooManyOpen h = inl (refl, h.0, h.1, refl)
    stays NotOpen h = inl (refl, h.0, h.1, refl)
    stays ConnFailed h = inl (refl, h.0, h.1, refl)
    stays StreamTooLong h = inl (refl, h.0, h.1, refl)
    stays Unreleased h = inl (refl, h.0, h.1, refl)
    stays (Unterminated start) h = inl (refl, h.0, h.1, refl)

pub used_within : (rest : List ℕ) (fault : CollectFault) → IsUsedWithin rest (Err fault)
    → used_before fault ≤ length rest
used_within rest (Memory n) h = h
used_within rest AlreadyOpen h = omega arith
used_within rest TooManyOpen h = omega arith
used_within rest NotOpen h = omega arith
used_within rest ConnFailed h = omega arith
used_within rest StreamTooLong h = omega arith
used_within rest Unreleased h = omega arith
used_within rest (Unterminated start) h = omega arith

take_whole : (rest : List ℕ) (n : ℕ) → length rest ≤ n → take n rest ≡ rest
take_whole rest n le = take_all n rest le

-- at the end of the rest, all of it was accepted
pub accepted_whole : (rest : List ℕ) (n : ℕ) (o : Option Outcome) → IsBadCount o ⊎ (length rest ≤ n)
    → take (accepted_count (length rest) n o) rest ≡ rest
accepted_whole rest n (Some (BadCount at)) h = take_whole rest (length rest) (omega arith)
accepted_whole rest n None (inr le) = take_whole rest n le
accepted_whole rest n (Some New) (inr le) = take_whole rest n le
accepted_whole rest n (Some Held) (inr le) = take_whole rest n le
accepted_whole rest n (Some (Refused fault)) (inr le) = take_whole rest n le
accepted_whole rest n (Some (RefusedLegacy offset)) (inr le) = take_whole rest n le
accepted_whole rest n (Some TooLong) (inr le) = take_whole rest n le
accepted_whole rest n None (inl bad) = absurd bad
accepted_whole rest n (Some New) (inl bad) = absurd bad
accepted_whole rest n (Some Held) (inl bad) = absurd bad
accepted_whole rest n (Some (Refused fault)) (inl bad) = absurd bad
accepted_whole rest n (Some (RefusedLegacy offset)) (inl bad) = absurd bad
accepted_whole rest n (Some TooLong) (inl bad) = absurd bad

pub accepted_used : (m n : ℕ) (o : Option Outcome) → ¬ (IsBadCount o) → accepted_count m n o ≡ n
accepted_used m n None h = refl
accepted_used m n (Some New) h = refl
accepted_used m n (Some Held) h = refl
accepted_used m n (Some (Refused fault)) h = refl
accepted_used m n (Some (RefusedLegacy offset)) h = refl
accepted_used m n (Some TooLong) h = refl
accepted_used m n (Some (BadCount at)) h = absurd (h tt)

pub step_ended : (way : FrameReading) (x y : Connection) (a b : List Entry) (rest : List ℕ) (l m : List Outcome) (n : ℕ)
    (o : Option Outcome) (s : Stream) (d : List (List ℕ)) → m ≡ l ++ outcomes_of o → IsBadCount o ⊎ (length rest ≤ n)
    → Advances way x y a b (take (accepted_count (length rest) n o) rest) (outcomes_of o) s d
    → LogsAdvance way x y a b rest l m s d
step_ended way x y a b rest l m n o s d log ends moves = (
  outcomes_of o,
  log,
  subst (λ (u : List ℕ). Advances way x y a b u (outcomes_of o) s d)
      (accepted_whole rest n o ends) moves,
)

pub step_on : (way : FrameReading) (x y : Connection) (a b : List Entry) (rest : List ℕ) (l m : List Outcome) (n : ℕ)
    (o : Option Outcome) (s : Stream) (d : List (List ℕ)) → m ≡ l ++ outcomes_of o → ¬ (IsBadCount o)
    → Advances way x y a b (take (accepted_count (length rest) n o) rest) (outcomes_of o) s d
    → LogsAdvance way x y a b (take n rest) l m s d
step_on way x y a b rest l m n o s d log good moves = (
  outcomes_of o,
  log,
  subst (λ (k : ℕ). Advances way x y a b (take k rest) (outcomes_of o) s d)
      (accepted_used (length rest) n o good) moves,
)

-- ---- the pieces of a piece

pub taken_on : (piece : List ℕ) (n m : ℕ) → take n piece ++ take m (take (length piece - n) (drop n piece))
    ≡ take (n + m) piece
taken_on piece n m = ap (λ (u : List ℕ). take n piece ++ take m u) (take_rest piece n) ∙ sym (take_add n m piece)

pub taken_all : (piece : List ℕ) (n : ℕ) → take n piece ++ take (length piece - n) (drop n piece) ≡ piece
taken_all piece n = ap (λ (u : List ℕ). take n piece ++ u) (take_rest piece n) ∙ take-append-drop n piece

-- where nothing is ready, a step that reads on uses octets
ready_or_not : (phase : Phase) → ((phase ≡ phase_Ended) ⊎ (phase ≡ phase_BadCount))
    ⊎ ¬ ((phase ≡ phase_Ended) ⊎ (phase ≡ phase_BadCount))
ready_or_not phase_Ended = inl (inl refl)
ready_or_not phase_BadCount = inl (inr refl)
ready_or_not Counting = inr (λ h. elim h [ inl e ↦ absurd (cc) | inr e ↦ absurd (cc) ])
ready_or_not Inside = inr (λ h. elim h [ inl e ↦ absurd (cc) | inr e ↦ absurd (cc) ])
ready_or_not Failed = inr (λ h. elim h [ inl e ↦ absurd (cc) | inr e ↦ absurd (cc) ])

pub goes_on : (scanner : Scan) (used whole : ℕ) (B : Type 0)
    → (¬ (HasReady scanner) → 0 < whole → used ≡ 0 → B) → ¬ B → used < whole → (0 < used) ⊎ HasReady scanner
goes_on scanner used whole B stops none lt =
    elim (ready_or_not scanner.phase) [
      | inl ready ↦ inr ready
      | inr unready ↦
          let some : 0 < whole = omega arith in
          let never : ¬ (used ≡ 0) = λ e. none (stops unready some e) in
          inl (omega (arith, never))
    ]

-- what is met where no octets of a piece are used
pub met_at_once : (way : FrameReading) (old new : Scan) (a b : List Entry) (used whole : ℕ) (o : Option Outcome)
    → ¬ (IsFailed old) → (IsReading old → 0 < whole → ¬ (HasBadCount new) → 0 < used) → HandlesReady way new a b o
    → ¬ (HasReady old) → 0 < whole → used ≡ 0 → IsBadCount o
met_at_once way old new a b used whole (Some (BadCount at)) live moves handles unready some none = tt
met_at_once way old new a b used whole None live moves handles unready some none =
    let lt = moves (unready, live) some (λ (bad : HasBadCount new). elim handles.0 [
      | inl reading ↦ reading.0 (inr bad)
      | inr failed ↦ absurd (cc)
    ]) in absurd (omega (arith, lt, none))
met_at_once way old new a b used whole (Some New) live moves handles unready some none =
    let frame = handles.0 in let lt = moves (unready, live) some (λ (bad : HasBadCount new). absurd (cc)) in
    absurd (omega (arith, lt, none))
met_at_once way old new a b used whole (Some Held) live moves handles unready some none =
    let frame = handles.0 in let lt = moves (unready, live) some (λ (bad : HasBadCount new). absurd (cc)) in
    absurd (omega (arith, lt, none))
met_at_once way old new a b used whole (Some (Refused fault)) live moves handles unready some none =
    let frame = handles.0 in let lt = moves (unready, live) some (λ (bad : HasBadCount new). absurd (cc)) in
    absurd (omega (arith, lt, none))
met_at_once way old new a b used whole (Some (RefusedLegacy offset)) live moves handles unready some none =
    let frame = handles.0 in let lt = moves (unready, live) some (λ (bad : HasBadCount new). absurd (cc)) in
    absurd (omega (arith, lt, none))
met_at_once way old new a b used whole (Some TooLong) live moves handles unready some none =
    let frame = handles.0 in let lt = moves (unready, live) some (λ (bad : HasBadCount new). absurd (cc)) in
    absurd (omega (arith, lt, none))

-- what is used of a rest is used of the piece
pub within_rest : (piece : List ℕ) (n m : ℕ) → n ≤ length piece → m < length (take (length piece - n) (drop n piece))
    → n + m < length piece
within_rest piece n m le lt = omega (arith, le, lt, length-take (length piece - n) (drop n piece), length-drop n piece)

-- where something is ready, that counts
pub pending_ready : (phase : Phase) → (phase ≡ phase_Ended) ⊎ (phase ≡ phase_BadCount) → pending phase ≡ 1
pending_ready phase (inl e) = rw e refl
pending_ready phase (inr e) = rw e refl

pub pending_none : (phase : Phase) → ¬ ((phase ≡ phase_Ended) ⊎ (phase ≡ phase_BadCount)) → pending phase ≡ 0
pending_none phase_Ended h = absurd (h (inl refl))
pending_none phase_BadCount h = absurd (h (inr refl))
pending_none Counting h = refl
pending_none Inside h = refl
pending_none Failed h = refl

-- a step that goes on comes closer to the end
pub measure_falls : (old new : Phase) (whole taken used : ℕ) → ¬ ((new ≡ phase_Ended) ⊎ (new ≡ phase_BadCount))
    → (0 < used) ⊎ ((old ≡ phase_Ended) ⊎ (old ≡ phase_BadCount)) → taken + used < whole
    → pending new + (whole - (taken + used)) < pending old + (whole - taken)
measure_falls old new whole taken used none (inl some) lt = omega (arith, pending_none new none, some, lt)
measure_falls old new whole taken used none (inr ready) lt =
    omega (arith, pending_none new none, pending_ready old ready, lt)
