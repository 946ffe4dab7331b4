-- Seals, and batches that are hidden.
use Rattle.std.proofs.Common.{◌≡◌, ◌≢◌, ◌⊎◌, inl, inr, ℕ, ◌+◌, ◌-◌, ◌<◌, ◌≤◌, List, [], ◌∷◌, ◌++◌, length, take, drop, refl, sym, ap}
use Rattle.std.proofs.Common.{subst, ◌∙◌, arith, length-append, take-append-drop}
use Rattle.std.proofs.lemmas.List.{take_at, drop_at}
use Rattle.journal.specs.Batches.{BeginsWithBatch, IsBody, IsClosed, open_batch}
use Rattle.journal.proofs.Readings.{body_is, same_batch}
use Rattle.record_store.specs.Seals.{BeginsSealed, HidesBatches, HidesFirst, HidesNext, IsNoGate, IsSealed, seal_of, sealed}

-- ---- a seal

pub ends_sealed : (body text behind : List ℕ) (at : ℕ) → text ≡ take at body → behind ≡ drop at body
    → behind ≡ seal_of text → IsSealed body
ends_sealed body text behind at text_is behind_is seal = record {
  text = text;
  text_is = sym (take-append-drop at body) ∙ ap (λ (l : List ℕ). take at body ++ l) (sym behind_is ∙ seal)
      ∙ ap (λ (l : List ℕ). l ++ seal_of text) (sym text_is);
}

sealed_len : (body : List ℕ) (s : IsSealed body) → length body ≡ length s.text + 9
sealed_len body s = ap length s.text_is ∙ length-append s.text (seal_of s.text)

pub sealed_long : (body : List ℕ) → IsSealed body → 9 ≤ length body
sealed_long body s = omega (arith, sealed_len body s)

pub sealed_ends : (body text behind : List ℕ) (at : ℕ) → at ≡ length body - 9 → text ≡ take at body
    → behind ≡ drop at body → IsSealed body → behind ≡ seal_of text
sealed_ends body text behind at at_is text_is behind_is s =
    let size : at ≡ length s.text = omega (arith, at_is, sealed_len body s) in
    let front : text ≡ s.text =
    text_is ∙ ap (λ (l : List ℕ). take at l) s.text_is ∙ take_at s.text (seal_of s.text) at (sym size) in
    behind_is ∙ ap (λ (l : List ℕ). drop at l) s.text_is ∙ drop_at s.text (seal_of s.text) at (sym size)
    ∙ ap seal_of (sym front)

-- ---- the first batch

-- its octets and what is behind them, as they are found
pub first_parts : (octets behind body after : List ℕ) (len : ℕ) (b : BeginsWithBatch octets len)
    → behind ≡ drop 5 octets → body ≡ take len behind → after ≡ drop len behind → (body ≡ b.body) × (after ≡ b.rest)
first_parts octets behind body after len b behind_is front_is after_is =
    let is : behind ≡ b.body ++ b.rest =
    behind_is ∙ ap (λ (l : List ℕ). drop 5 l) b.text ∙ body_is b.body b.rest in (
      front_is ∙ ap (λ (l : List ℕ). take len l) is ∙ take_at b.body b.rest len (sym b.len_is),
      after_is ∙ ap (λ (l : List ℕ). drop len l) is ∙ drop_at b.body b.rest len (sym b.len_is),
    )

pub first_fits : (octets behind : List ℕ) (len : ℕ) → BeginsWithBatch octets len → behind ≡ drop 5 octets
    → len ≤ length behind
first_fits octets behind len b behind_is =
    omega (
      arith,
      ap length (behind_is ∙ ap (λ (l : List ℕ). drop 5 l) b.text ∙ body_is b.body b.rest),
      length-append b.body b.rest,
      b.len_is,
    )

pub first_sealed : (octets : List ℕ) (len : ℕ) (b : BeginsWithBatch octets len) → IsSealed b.body
    → BeginsSealed octets
first_sealed octets len b is =
    record { body = b.body; rest = b.rest; text = b.text; sized = b.sized; sealed = is }

pub only_first : (octets : List ℕ) (len : ℕ) (b : BeginsWithBatch octets len) → BeginsSealed octets
    → IsSealed b.body
only_first octets len b s =
    let same = same_batch s.body b.body s.rest b.rest s.sized b.sized (sym s.text ∙ b.text) in
    subst IsSealed same.0 s.sealed

pub none_sealed : (octets : List ℕ) → IsClosed octets → ¬ (BeginsSealed octets)
none_sealed octets closed s = closed s.body s.rest s.sized s.text

-- ---- what is behind the batches

pub nothing_hides : ¬ (HidesBatches [])
nothing_hides h = absurd (cc h.parts)

module _ (gate : ℕ) (behind : List ℕ) where
  pub alone_shows : behind ≡ [] → ¬ (HidesBatches (gate ∷ behind))
  alone_shows none h = h.more (cc (h.parts, none))

  pub no_gate_hides : behind ≢ [] → gate ≢ 254 → gate ≢ 0 → HidesBatches (gate ∷ behind)
  no_gate_hides some not_closed not_older =
      record { gate = gate; behind = behind; parts = refl; more = some; way = inl (not_closed, not_older) }

  -- the octet is one that stands before a batch that is not open
  module _ (is_gate : (gate ≡ 254) ⊎ (gate ≡ 0)) where
    gate_is : IsNoGate gate → ⊥
    gate_is none = elim is_gate [ inl closed ↦ none.0 closed | inr older ↦ none.1 older ]

    pub cut_shows : IsClosed (1 ∷ behind) → ¬ (HidesBatches (gate ∷ behind))
    cut_shows closed h = of h.way
      where
        same : h.behind ≡ behind
        same = cc h.parts

        here : h.gate ≡ gate
        here = cc h.parts

        of : IsNoGate h.gate ⊎ (HidesFirst h.gate h.behind ⊎ HidesNext h.behind) → ⊥
        of (inl none) = gate_is (subst IsNoGate here none)
        of (inr (inl first)) =
            none_sealed (1 ∷ behind) closed (subst (λ (l : List ℕ). BeginsSealed (1 ∷ l)) same first.first)
        of (inr (inr next)) =
            closed next.skipped next.rest next.sized (ap (λ (l : List ℕ). 1 ∷ l) (sym same) ∙ next.text)

    module _ (len : ℕ) (b : BeginsWithBatch (1 ∷ behind) len) where
      pub whole_shows : ¬ ((gate ≡ 0) × IsSealed b.body) → ¬ (BeginsSealed b.rest) → ¬ (HidesBatches (gate ∷ behind))
      whole_shows not_first not_next h = of h.way
        where
          same : h.behind ≡ behind
          same = cc h.parts

          here : h.gate ≡ gate
          here = cc h.parts

          of : IsNoGate h.gate ⊎ (HidesFirst h.gate h.behind ⊎ HidesNext h.behind) → ⊥
          of (inl none) = gate_is (subst IsNoGate here none)
          of (inr (inl first)) = not_first (
            sym here ∙ first.older,
            only_first (1 ∷ behind) len b (subst (λ (l : List ℕ). BeginsSealed (1 ∷ l)) same first.first),
          )
          of (inr (inr next)) =
              let one = same_batch next.skipped b.body next.rest b.rest next.sized b.sized
              (sym next.text ∙ ap (λ (l : List ℕ). 1 ∷ l) same ∙ b.text) in
              not_next (subst BeginsSealed one.1 next.next)

  module _ (some : behind ≢ []) (len : ℕ) (b : BeginsWithBatch (1 ∷ behind) len) where
    pub first_hides : gate ≡ 0 → IsSealed b.body → HidesBatches (gate ∷ behind)
    first_hides older is = record {
      gate = gate;
      behind = behind;
      parts = refl;
      more = some;
      way = inr (inl (record { older = older; first = first_sealed (1 ∷ behind) len b is }));
    }

    pub next_hides : BeginsSealed b.rest → HidesBatches (gate ∷ behind)
    next_hides next = record {
      gate = gate;
      behind = behind;
      parts = refl;
      more = some;
      way = inr (inr (record { skipped = b.body; sized = b.sized; rest = b.rest; text = b.text; next = next }));
    }
