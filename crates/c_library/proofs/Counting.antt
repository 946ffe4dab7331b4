-- Counted frames by the count that comes first.
use Rattle.std.proofs.Common.{◌≡◌, ℕ, ◌+◌, ◌-◌, ◌<◌, ◌≤◌, List, [], ◌∷◌, ◌++◌, length, take, drop, refl, sym, ap, subst}
use Rattle.std.proofs.Common.{◌∙◌, append_assoc, arith, inl, inr, ◌⊎◌}
use Rattle.std.specs.Fmt.{decimal}
use Rattle.std.specs.Prelude.{replicate}
use Rattle.std.proofs.lemmas.List.{append-nil, length-append, length-drop, length-replicate, length-take, take-append-drop}
use Rattle.octet_language.specs.Language.{AnyOf, Begins, IsFaultOffset, NoPrefix}
use Rattle.syslog_frame.specs.Frames.{Whole}
use Rattle.syslog_frame.specs.MsgLen.{MsgLen}
use Rattle.syslog_frame.specs.declared.framing.Framing.TheVariants.{Counted}
use Rattle.syslog_frame.proofs.Borrowing.{counted_borrowed}
use Rattle.syslog_frame.proofs.Standing.{none_inside}
use Rattle.c_library.specs.Frames.{IsComplete}

-- of two fronts of the same octets one is a front of the other
fronts : (a c p m : List ℕ) → a ++ c ≡ p ++ m
    → ((z : List ℕ) × (a ≡ p ++ z)) ⊎ ((z : List ℕ) × (p ≡ a ++ z))
fronts [] c p m e = inr (p, refl)
fronts (x ∷ a) c [] m e = inl (x ∷ a, refl)
fronts (x ∷ a) c (y ∷ p) m e = go (fronts a c p m (ap tail e))
  where
    tail : List ℕ → List ℕ
    tail [] = []
    tail (_ ∷ s) = s

    head : List ℕ → ℕ
    head [] = 0
    head (w ∷ _) = w

    same : x ≡ y
    same = ap head e

    go : ((z : List ℕ) × (a ≡ p ++ z)) ⊎ ((z : List ℕ) × (p ≡ a ++ z))
        → ((z : List ℕ) × (x ∷ a ≡ y ∷ (p ++ z))) ⊎ ((z : List ℕ) × (y ∷ p ≡ x ∷ (a ++ z)))
    go (inl (z, f)) = inl (z, ap (λ (w : ℕ). w ∷ a) same ∙ ap (λ (u : List ℕ). y ∷ u) f)
    go (inr (z, f)) = inr (z, ap (λ (w : ℕ). w ∷ p) (sym same) ∙ ap (λ (u : List ℕ). x ∷ u) f)

-- octets behind a count, and as many more as it asks for
filled : (n : ℕ) (p rest more : List ℕ) → MsgLen n p → length rest + length more ≡ n
    → Whole Counted ((p ++ rest) ++ more)
filled n p rest more h e =
    let f : List ℕ = rest ++ more in
    let len : length f ≡ n = omega (arith, e, length-append rest more) in (
      f,
      (
        (omega (arith, len, h.0), omega (arith, len, h.1)),
        append_assoc p rest more ∙ ap (λ (u : List ℕ). u ++ f) h.2 ∙ append_assoc (decimal n) (32 ∷ []) f
            ∙ ap (λ (k : ℕ). decimal k ++ 32 ∷ f) (sym len),
      ),
    )

pub begins_counted : (b : List ℕ) → Begins (AnyOf MsgLen) b → Begins (Whole Counted) b
begins_counted b (more, (n, h)) =
    let zeros : List ℕ = replicate n 0 in
    let w = filled n (b ++ more) [] zeros h (omega (arith, length-replicate {A = ℕ} n 0)) in (
      more ++ zeros,
      subst (Whole Counted) (ap (λ (u : List ℕ). u ++ zeros) (append-nil (b ++ more)) ∙ append_assoc b more zeros) w,
    )

-- the count of a frame comes first
counted_front : (s : List ℕ) → Whole Counted s → (p : List ℕ) × (f : List ℕ) × AnyOf MsgLen p × (s ≡ p ++ f)
counted_front s (f, (carries, e)) = (
  decimal (length f) ++ 32 ∷ [],
  f,
  (length f, (carries.0, carries.1, refl)),
  e ∙ sym (append_assoc (decimal (length f)) (32 ∷ []) f),
)

pub none_counted : (b : List ℕ) → NoPrefix (AnyOf MsgLen) b → NoPrefix (Whole Counted) b
none_counted b none x y e whole =
    let w = counted_front x whole in
    none w.0 (w.1 ++ y) (e ∙ ap (λ (u : List ℕ). u ++ y) w.3 ∙ append_assoc w.0 w.1 y) w.2

count_begun : (b : List ℕ) → NoPrefix (AnyOf MsgLen) b → Begins (Whole Counted) b → Begins (AnyOf MsgLen) b
count_begun b none (more, whole) = go (counted_front (b ++ more) whole)
  where
    go : ((p : List ℕ) × (f : List ℕ) × AnyOf MsgLen p × (b ++ more ≡ p ++ f)) → Begins (AnyOf MsgLen) b
    go (p, f, h, e) = cases (fronts b more p f e)
      where
        cases : ((z : List ℕ) × (b ≡ p ++ z)) ⊎ ((z : List ℕ) × (p ≡ b ++ z)) → Begins (AnyOf MsgLen) b
        cases (inl (z, g)) = absurd (none p z g h)
        cases (inr (z, g)) = (z, subst (AnyOf MsgLen) g h)

pub not_begun : (b : List ℕ) → NoPrefix (AnyOf MsgLen) b → ¬ (Begins (AnyOf MsgLen) b) → ¬ (Begins (Whole Counted) b)
not_begun b none not begins = not (count_begun b none begins)

none_in_front : (b : List ℕ) (m : ℕ) → NoPrefix (AnyOf MsgLen) b → NoPrefix (AnyOf MsgLen) (take m b)
none_in_front b m none x y e h =
    none x (y ++ drop m b)
    (sym (take-append-drop m b) ∙ ap (λ (u : List ℕ). u ++ drop m b) e ∙ append_assoc x y (drop m b)) h

pub offset_counted : (b : List ℕ) (at : ℕ) → NoPrefix (AnyOf MsgLen) b → IsFaultOffset (AnyOf MsgLen) b at
    → IsFaultOffset (Whole Counted) b at
offset_counted b at none h = record {
  within = h.within;
  begins = begins_counted (take at b) h.begins;
  longest = λ m le begins. h.longest m le (count_begun (take m b) (none_in_front b m none) begins);
}

-- ---- a count that was read

count_then : (b : List ℕ) (m n : ℕ) → MsgLen m (take n b) → b ≡ decimal m ++ 32 ∷ drop n b
count_then b m n h =
    sym (take-append-drop n b) ∙ ap (λ (u : List ℕ). u ++ drop n b) h.2 ∙ append_assoc (decimal m) (32 ∷ []) (drop n b)

pub awaited_none : (b : List ℕ) (m n : ℕ) → MsgLen m (take n b) → length (drop n b) < m → NoPrefix (Whole Counted) b
awaited_none b m n h short = none_inside m (drop n b) b h.1 short (count_then b m n h)

pub awaited_begins : (b : List ℕ) (m n : ℕ) → MsgLen m (take n b) → length (drop n b) < m → Begins (Whole Counted) b
awaited_begins b m n h short =
    let more : List ℕ = replicate (m - length (drop n b)) 0 in
    let w = filled m (take n b) (drop n b) more h
    (omega (arith, short, length-replicate {A = ℕ} (m - length (drop n b)) 0)) in
    (more, subst (Whole Counted) (ap (λ (u : List ℕ). u ++ more) (take-append-drop n b)) w)

pub complete : (b : List ℕ) (m n : ℕ) → n ≤ length b → MsgLen m (take n b) → n + m ≤ length b
    → IsComplete Counted b n (n + m) (n + m)
complete b m n within h fits =
    let le : m ≤ length (drop n b) = omega (arith, fits, within, length-drop n b) in
    record {
      frame = take m (drop n b);
      within = fits;
      whole = counted_borrowed m n b h.0 h.1 within h.2 le;
      lies = record {
        before = take n b;
        behind = drop m (drop n b);
        parts = sym (take-append-drop n b) ∙ ap (λ (u : List ℕ). take n b ++ u) (sym (take-append-drop m (drop n b)));
        at_is = omega (arith, within, length-take n b);
      };
      end_is = omega (arith, le, length-take m (drop n b));
    }
