-- Words in their order, and the text of them.
use Rattle.std.proofs.Common.{◌≡◌, ℕ, List, [], ◌∷◌, ◌++◌, length, refl, subst, inl, inr, arith}
use Rattle.std.specs.Prelude.{◌⊎◌}
use Rattle.std.specs.List.{AllByRecursion}
use Rattle.syslog_value.specs.Order.{OctetsBelow}
use Rattle.syslog_value.proofs.Octets.{below_itself}
use Rattle.archive_text.proofs.Orders.{octets_asymmetric}
use Rattle.archive_counts.specs.Lines.{AreWordsBelow}
use Rattle.archive_counts.specs.Words.{IsFree, spaced}

-- what decides of two words, each with a text of further ones behind it
first_words : (w v : List ℕ) (ws vs : List (List ℕ)) → AllByRecursion IsFree w
    → OctetsBelow (w ++ spaced ws) (v ++ spaced vs)
    → OctetsBelow w v ⊎ ((w ≡ v) × OctetsBelow (spaced ws) (spaced vs))
first_words [] [] ws vs free h = inr (refl, h)
first_words [] (y ∷ v) ws vs free h = inl tt
first_words (x ∷ w) [] ws [] free h = absurd h
first_words (x ∷ w) [] ws (u ∷ vs) free (inl less) = absurd (omega (arith, free.0, less))
first_words (x ∷ w) [] ws (u ∷ vs) free (inr (same, more)) = absurd (omega (arith, free.0, same))
first_words (x ∷ w) (y ∷ v) ws vs free (inl less) = inl (inl less)
first_words (x ∷ w) (y ∷ v) ws vs free (inr (same, more)) = behind (first_words w v ws vs free.1 more)
  where
    behind : OctetsBelow w v ⊎ ((w ≡ v) × OctetsBelow (spaced ws) (spaced vs))
        → OctetsBelow (x ∷ w) (y ∷ v) ⊎ ((x ∷ w ≡ y ∷ v) × OctetsBelow (spaced ws) (spaced vs))
    behind (inl below) = inl (inr (same, below))
    behind (inr (equal, others)) =
        let whole : x ∷ w ≡ y ∷ v = cc in inr (whole, others)

-- words whose text is below are below
pub words_below : (ws vs : List (List ℕ)) → AllByRecursion (AllByRecursion IsFree) ws → length ws ≡ length vs
    → OctetsBelow (spaced ws) (spaced vs) → AreWordsBelow ws vs
words_below [] [] free size h = absurd h
words_below [] (v ∷ vs) free size h = tt
words_below (w ∷ ws) [] free size h = absurd h
words_below (w ∷ ws) (v ∷ vs) free size (inl less) = absurd (omega (arith, less))
words_below (w ∷ ws) (v ∷ vs) free size (inr (space, more)) =
    by_first (words_below ws vs free.1 (omega (arith, size))) (first_words w v ws vs free.0 more)
  where
    by_first : (OctetsBelow (spaced ws) (spaced vs) → AreWordsBelow ws vs)
        → OctetsBelow w v ⊎ ((w ≡ v) × OctetsBelow (spaced ws) (spaced vs)) → AreWordsBelow (w ∷ ws) (v ∷ vs)
    by_first later (inl below) = inl below
    by_first later (inr (same, others)) = inr (same, later others)

pub words_asymmetric : (ws vs : List (List ℕ)) → AreWordsBelow ws vs → ¬ (AreWordsBelow vs ws)
words_asymmetric [] [] h k = h
words_asymmetric [] (v ∷ vs) h k = k
words_asymmetric (w ∷ ws) [] h k = h
words_asymmetric (w ∷ ws) (v ∷ vs) (inl h) (inl k) = octets_asymmetric w v h k
words_asymmetric (w ∷ ws) (v ∷ vs) (inl h) (inr (same, k)) = below_itself w (subst (OctetsBelow w) same h)
words_asymmetric (w ∷ ws) (v ∷ vs) (inr (same, h)) (inl k) = below_itself v (subst (OctetsBelow v) same k)
words_asymmetric (w ∷ ws) (v ∷ vs) (inr (same, h)) (inr (back, k)) = words_asymmetric ws vs h k
