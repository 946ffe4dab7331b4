-- One list split in two ways, and what comes before a delimiter.
use Rattle.std.proofs.Common.{◌≡◌, ◌≢◌, ℕ, List, [], ◌∷◌, ◌++◌, length, take, refl, sym, ap, ◌∙◌, append_assoc, inl}
use Rattle.std.proofs.Common.{inr, ◌⊎◌}
use Rattle.std.specs.List.{AllByRecursion}
use Rattle.std.proofs.lemmas.List.{append_cancel_left, take_at}

pub heads : (a b : ℕ) (s t : List ℕ) → a ∷ s ≡ b ∷ t → a ≡ b
heads a b s t e = cc

pub tails : (a b : ℕ) (s t : List ℕ) → a ∷ s ≡ b ∷ t → s ≡ t
tails a b s t e = cc

-- two ways to split a list: the first prefix reaches past p, or ends within it
pub parted : (a c p : List ℕ) (x : ℕ) (m : List ℕ) → a ++ c ≡ p ++ x ∷ m
    → ((z : List ℕ) × (a ≡ p ++ x ∷ z)) ⊎ ((w : List ℕ) × (p ≡ a ++ w) × (c ≡ w ++ x ∷ m))
parted [] c p x m e = inr (p, refl, e)
parted (a ∷ an) c [] x m e = inl (an, ap (λ (h : ℕ). h ∷ an) (heads a x (an ++ c) m e))
parted (a ∷ an) c (q ∷ qs) x m e =
    elim (parted an c qs x m (tails a q (an ++ c) (qs ++ x ∷ m) e)) [
      | inl h ↦ inl (
        h.0,
        (ap (λ (k : ℕ). k ∷ an) (heads a q (an ++ c) (qs ++ x ∷ m) e))
            ∙ ap (λ (s : List ℕ). q ∷ s) h.1,
      )
      | inr h ↦ inr (
        h.0,
        (ap (λ (k : ℕ). k ∷ qs) (sym (heads a q (an ++ c) (qs ++ x ∷ m) e)))
            ∙ ap (λ (s : List ℕ). a ∷ s) h.1,
        h.2,
      )
    ]

-- a list with one more octet, then more
pub one_more : (p : List ℕ) (x : ℕ) (m : List ℕ) → (p ++ x ∷ []) ++ m ≡ p ++ x ∷ m
one_more p x m = append_assoc p (x ∷ []) m

-- ---- what holds of each octet

pub AllByRecursion-append : (P : ℕ → Type 0) (a b : List ℕ) → AllByRecursion P a → AllByRecursion P b
    → AllByRecursion P (a ++ b)
AllByRecursion-append P [] b p q = q
AllByRecursion-append P (x ∷ a) b p q = (p.0, AllByRecursion-append P a b p.1 q)

pub AllByRecursion-left : (P : ℕ → Type 0) (a b : List ℕ) → AllByRecursion P (a ++ b) → AllByRecursion P a
AllByRecursion-left P [] b p = tt
AllByRecursion-left P (x ∷ a) b p = (p.0, AllByRecursion-left P a b p.1)

pub AllByRecursion-right : (P : ℕ → Type 0) (a b : List ℕ) → AllByRecursion P (a ++ b) → AllByRecursion P b
AllByRecursion-right P [] b p = p
AllByRecursion-right P (x ∷ a) b p = AllByRecursion-right P a b p.1

-- ---- up to a delimiter

-- what comes before the first delimiter is one list
pub same_until : (x : ℕ) (a b s t : List ℕ) → AllByRecursion (λ y. y ≢ x) a → AllByRecursion (λ y. y ≢ x) b
    → a ++ x ∷ s ≡ b ++ x ∷ t → a ≡ b
same_until x [] [] s t p q e = refl
same_until x [] (d ∷ b) s t p q e = absurd (q.0 (sym (heads x d s (b ++ x ∷ t) e)))
same_until x (c ∷ a) [] s t p q e = absurd (p.0 (heads c x (a ++ x ∷ s) t e))
same_until x (c ∷ a) (d ∷ b) s t p q e =
    ap (λ (k : ℕ). k ∷ a) (heads c d (a ++ x ∷ s) (b ++ x ∷ t) e)
    ∙ ap (λ (k : List ℕ). d ∷ k) (same_until x a b s t p.1 q.1 (tails c d (a ++ x ∷ s) (b ++ x ∷ t) e))

pub AllByRecursion-weaker : (P Q : ℕ → Type 0) → ((x : ℕ) → P x → Q x) → (s : List ℕ) → AllByRecursion P s
    → AllByRecursion Q s
AllByRecursion-weaker P Q w [] h = tt
AllByRecursion-weaker P Q w (x ∷ s) h = (w x h.0, AllByRecursion-weaker P Q w s h.1)

-- a list free of a delimiter does not contain it
pub not_free : (x : ℕ) (a b c : List ℕ) → AllByRecursion (λ y. y ≢ x) a → a ≡ b ++ x ∷ c → ⊥
not_free x [] [] c p e = absurd cc
not_free x [] (d ∷ b) c p e = absurd cc
not_free x (h ∷ a) [] c p e = p.0 (heads h x a c e)
not_free x (h ∷ a) (d ∷ b) c p e = not_free x a b c p.1 (tails h d a (b ++ x ∷ c) e)

-- prefixes of the same length are the same
pub same_prefix : (f g s t : List ℕ) → length f ≡ length g → f ++ s ≡ g ++ t → f ≡ g
same_prefix f g s t n e = sym (take_at f s (length f) refl) ∙ ap (take (length f)) e ∙ take_at g t (length f) (sym n)

-- the two parts of a text, by the length of the first
pub by_length : (f g s t : List ℕ) → length f ≡ length g → f ++ s ≡ g ++ t → (f ≡ g) × (s ≡ t)
by_length f g s t n e =
    let same = same_prefix f g s t n e in
    (same, append_cancel_left f s t (e ∙ ap (λ (u : List ℕ). u ++ t) (sym same)))
