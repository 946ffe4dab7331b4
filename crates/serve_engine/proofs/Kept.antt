-- Frames that are kept, or dropped behind their first octets.
use Rattle.std.proofs.Common.{◌≡◌, ◌∙◌, ◌⊎◌, inl, inr, ℕ, ◌-◌, ◌^◌, ◌<◌, ◌≤◌, List, [], ◌++◌, take, ap, arith, subst, sym}
use Rattle.std.specs.Prelude.{Option}
use Rattle.std.specs.Io.KnownBytes.{Appends}
use Rattle.std.proofs.KnownBytes.{Appends-nil}
use Rattle.std.proofs.lemmas.Bool.{cases_lt}
use Rattle.std.proofs.Math.Nat.{min-eq_left, min-eq_right}
use Rattle.octet_devices.specs.Device.{OutputState}
use Rattle.serve_engine.specs.Counts.{count_up}
use Rattle.serve_engine.specs.Refusals.{KeepsFrame, counted_text, refusal_text}

-- a count goes up, or stays at the largest value
dropped_more : (m n : ℕ) → n ≡ count_up m 1 → (m < n) ⊎ (n ≡ 2 ^ 64 - 1)
dropped_more m n is = by (cases_lt m (2 ^ 64 - 1))
  where
    by : (m < 2 ^ 64 - 1) ⊎ (2 ^ 64 - 1 ≤ m) → (m < n) ⊎ (n ≡ 2 ^ 64 - 1)
    by (inl less) = inl (omega (arith, less, is ∙ min-eq_left (omega (arith, less))))
    by (inr more) = inr (is ∙ min-eq_right (omega (arith, more)))

-- nothing of a frame was written
pub kept_none : (a b : OutputState) (frame : Option (List ℕ)) (m n : ℕ) → b ≡ a → n ≡ count_up m 1
    → KeepsFrame a b frame m n
kept_none a b frame m n same is = (
  [],
  inr (
    (
      0,
      subst (λ (o : OutputState). Appends a.taken o.taken []) (sym same)
          (Appends-nil a.taken),
    ),
    dropped_more m n is,
  ),
)

-- its first octets were
pub kept_part : (a mid b : OutputState) (frame : Option (List ℕ)) (m n : ℕ) (line front text : List ℕ) (sent : ℕ)
    → b ≡ mid → front ≡ [] → text ≡ front ++ counted_text (refusal_text line frame)
    → Appends a.taken mid.taken (take sent text) → n ≡ count_up m 1 → KeepsFrame a b frame m n
kept_part a mid b frame m n line front text sent same none is part counts = (
  line,
  inr (
    (
      sent,
      subst (λ (o : OutputState). Appends a.taken o.taken (take sent (counted_text (refusal_text line frame)))) (sym same)
          (subst (λ (t : List ℕ). Appends a.taken mid.taken (take sent t)) whole part),
    ),
    dropped_more m n counts,
  ),
)
  where
    whole : text ≡ counted_text (refusal_text line frame)
    whole = is ∙ ap (λ (x : List ℕ). x ++ counted_text (refusal_text line frame)) none

-- behind a line, for which more may have been dropped
kept_later : (a b : OutputState) (frame : Option (List ℕ)) (m k n : ℕ) → m ≤ k → KeepsFrame a b frame k n
    → KeepsFrame a b frame m n
kept_later a b frame m k n within (line, inl kept) = (line, inl kept)
kept_later a b frame m k n within (line, inr (part, inl more)) = (line, inr (part, inl (omega (arith, within, more))))
kept_later a b frame m k n within (line, inr (part, inr most)) = (line, inr (part, inr most))

pub kept_behind : {R : Type 0} (state : R → OutputState) (x y : R) (b : OutputState) (frame : Option (List ℕ))
    (m k n : ℕ)
    → y ≡ x → m ≤ k → KeepsFrame (state y) b frame k n → KeepsFrame (state x) b frame m n
kept_behind {R = R} state x y b frame m k n same within kept =
    kept_later (state x) b frame m k n within (subst (λ (z : R). KeepsFrame (state z) b frame k n) same kept)
