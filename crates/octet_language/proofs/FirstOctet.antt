-- What a language refuses, where its texts with one first octet are known.
use Rattle.std.proofs.Common.{◌≡◌, ℕ, List, [], ◌∷◌, ◌++◌, sym, subst}
use Rattle.octet_language.specs.Language.{Language, Refuses}
use Rattle.octet_language.proofs.Lists.{heads}

-- the texts of M that begin with x go on as those of L
pub refuses_behind : (L M : Language) (x : ℕ) (p rest : List ℕ) → ((s : List ℕ) → M (x ∷ s) → L s) → Refuses L p rest
    → Refuses M (x ∷ p) rest
refuses_behind L M x p [] from r = tt
refuses_behind L M x p (y ∷ rest) from r = λ (more, m). r (more, from ((p ++ y ∷ []) ++ more) m)

-- the texts of M that begin with x are texts of L
pub refuses_alike : (L M : Language) (x : ℕ) (b p rest : List ℕ) → ((s : List ℕ) → M (x ∷ s) → L (x ∷ s))
    → x ∷ b ≡ p ++ rest → Refuses L p rest → Refuses M p rest
refuses_alike L M x b p [] from e r = tt
refuses_alike L M x b [] (y ∷ rest) from e r =
    λ (more, m). r (
      more,
      subst (λ (n : ℕ). L (n ∷ more)) (heads x y b rest e)
          (from more (subst (λ (n : ℕ). M (n ∷ more)) (sym (heads x y b rest e)) m)),
    )
refuses_alike L M x b (z ∷ p) (y ∷ rest) from e r =
    λ (more, m). r (
      more,
      subst (λ (n : ℕ). L (n ∷ (p ++ y ∷ []) ++ more)) (heads x z b (p ++ y ∷ rest) e)
          (from ((p ++ y ∷ []) ++ more) (subst (λ (n : ℕ). M (n ∷ (p ++ y ∷ []) ++ more))
          (sym (heads x z b (p ++ y ∷ rest) e)) m)),
    )
