-- Where no frame waits, and where no more of them do than before.
use Rattle.std.proofs.Common.{◌≡◌, ℕ, ◌+◌, ◌≤◌, true, false, cond, List, [], ◌∷◌, ◌++◌, length, eqb, refl, sym}
use Rattle.std.proofs.Common.{◌∙◌, ap, subst, inl, inr, arith}
use Rattle.std.specs.Prelude.{IsSomeAnd, Some, None, Option}
use Rattle.std.proofs.lemmas.List.{append-nil, length-append}
use Rattle.archive_text.specs.Entries.{Entry}
use Rattle.syslog_frame.specs.Frames.{Frames}
use Rattle.syslog_frame.proofs.FrameLaws.{unique_frames}
use Rattle.syslog_legacy.specs.declared.frame_reading.FrameReading.{FrameReading}
use Rattle.syslog_collect.specs.History.{AcceptedEvent, History, HoldsBadCount, Stream, history_of, stream_of}
use Rattle.syslog_collect.specs.Logs.{LogsOctets, LogsPart, ready_count, waiting}
use Rattle.syslog_collect.specs.Standing.{AreAt, IsAt, Stands}
use Rattle.syslog_collect.specs.declared.connection.Connection.{Connection}
use Rattle.syslog_collect.specs.declared.connections.Connections.{Connections}
use Rattle.syslog_collect.specs.declared.outcome.Outcome.{Outcome}
use Rattle.syslog_collect.proofs.Moving.{good_open}
use Rattle.syslog_collect.proofs.Ordered.{waiting_in, waits_in_order}

-- ---- a connection whose octets hold a bad count has no frame that waits

broken_one : (x : Connection) (s : Stream) (d : List (List ℕ)) → IsAt x s d → HoldsBadCount s
    → ready_count x.scanner.phase ≡ 0
broken_one x s d at bad = elim at.scanner [
  | inl good ↦ absurd (good_open x.scanner s d good bad)
  | inr broken ↦ rw broken.failed refl
]

broken_at : (c : ℕ) (cs : List Connection) (ss : List Stream) (ds : List (List (List ℕ))) → AreAt cs ss ds
    → IsSomeAnd (stream_of c ss) HoldsBadCount → waiting_in cs c ≡ 0
broken_at c [] [] [] f h = absurd h
broken_at c [] [] (d ∷ ds) f h = absurd f
broken_at c [] (s ∷ ss) [] f h = absurd f
broken_at c [] (s ∷ ss) (d ∷ ds) f h = absurd f
broken_at c (x ∷ xs) [] [] f h = absurd f
broken_at c (x ∷ xs) [] (d ∷ ds) f h = absurd f
broken_at c (x ∷ xs) (s ∷ ss) [] f h = absurd f
broken_at c (x ∷ xs) (s ∷ ss) (d ∷ ds) f h =
    subst (λ (n : ℕ). cond (eqb n c) (ready_count x.scanner.phase) (waiting_in xs c) ≡ 0) (sym f.0.number)
    (elim (eqb s.number c) as (λ b. IsSomeAnd (cond b (Some s) (stream_of c ss)) HoldsBadCount
    → cond b (ready_count x.scanner.phase) (waiting_in xs c) ≡ 0) [
      | true ↦ λ bad. broken_one x s d f.0 bad
      | false ↦ λ bad. broken_at c xs ss ds f.1 bad
    ] h)

pub broken_quiet : (way : FrameReading) (c : ℕ) (cs : Connections) (kept first : List Entry) (es : List AcceptedEvent)
    → Stands way cs kept first es → IsSomeAnd (stream_of c (history_of es).streams) HoldsBadCount → waiting cs c ≡ 0
broken_quiet way c cs kept first es was bad =
    let o = was.stands_at in
    waits_in_order cs o.order o.all c
    ∙ broken_at c o.order (history_of es).streams o.in_order.handled o.in_order.follow bad

-- ---- where no octets came, no more frames wait than before

counts : (a b c d : List (List ℕ)) → a ++ b ≡ a ++ (c ++ d) → length d ≤ length b
counts a b c d e =
    let lengths : length a + length b ≡ length a + (length c + length d) =
    sym (length-append a b) ∙ ap length e ∙ length-append a (c ++ d) ∙ ap (λ n. length a + n) (length-append c d) in
    omega (arith, lengths)

no_octets : (way : FrameReading) (s : Stream) (waited waits : ℕ) (a b : List Entry) (os : List Outcome)
    → LogsOctets way s [] waited waits a b os → waits ≤ waited
no_octets way s waited waits a b os l =
    let now = subst (λ o. Frames s.framing o (l.handled ++ (l.logged ++ l.waiting_now)) l.now.0) (append-nil s.octets)
    l.now.1 in
    let same = (unique_frames s.framing s.octets (l.handled ++ l.waiting_before)
    (l.handled ++ (l.logged ++ l.waiting_now)) l.before.0 l.now.0 l.before.1 now).0 in
    omega (arith, counts l.handled l.waiting_before l.logged l.waiting_now same, l.count_before, l.count_now)

some_fact : {A : Type 0} (o : Option A) (P : A → Type 0) (C : Type 0) → ((x : A) → P x → C) → IsSomeAnd o P → C
some_fact None P C f h = absurd h
some_fact (Some x) P C f h = f x h

-- of a piece without octets
pub part_quiet : (way : FrameReading) (h : History) (w v : ℕ → ℕ) (c : ℕ) (a b : List Entry) (os : List Outcome)
    → LogsPart way h w v c [] a b os → (v c ≤ w c) × ((d : ℕ) → ¬ (c ≡ d) → v d ≡ w d)
part_quiet way h w v c a b os (inl (none, (still, same, is))) = (omega (arith, is c), λ d other. is d)
part_quiet way h w v c a b os (inr (some, others)) = (
  some_fact (stream_of c h.streams) (λ s. LogsOctets way s [] (w c) (v c) a b os) (v c ≤ w c)
      (λ s l. no_octets way s (w c) (v c) a b os l) some,
  others,
)
