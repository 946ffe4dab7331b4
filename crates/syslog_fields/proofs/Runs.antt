-- The octets at the start that a test holds of.
use Rattle.std.proofs.Common.{◌≡◌, ℕ, zero, suc, ◌+◌, ◌<◌, List, [], ◌∷◌, ◌++◌, length, take, drop, get_or, refl, subst}
use Rattle.std.proofs.Common.{sym, add-one, arith}
use Rattle.std.specs.List.{AllByRecursion}
use Rattle.octet_language.specs.Language.{Language, Only, ◌⋅◌, IfFirst}
use Rattle.octet_language.specs.Reading.{Follows}
use Rattle.octet_language.proofs.Lists.{one_more}

run_suc : (P : ℕ → Type 0) (i : ℕ) (s : List ℕ) → i < length s → AllByRecursion P (take i s) → P (get_or s i 0)
    → AllByRecursion P (take (suc i) s)
run_suc P i [] low h p = absurd (omega arith)
run_suc P zero (x ∷ s) low h p = (p, tt)
run_suc P (suc i) (x ∷ s) low h p = (h.0, run_suc P i s (omega arith) h.1 p)

-- one more octet
pub run_more : (P : ℕ → Type 0) (i : ℕ) (s : List ℕ) → i < length s → AllByRecursion P (take i s) → P (get_or s i 0)
    → AllByRecursion P (take (i + 1) s)
run_more P i s low h p = rw add-one (run_suc P i s low h p)

-- what holds of the octet at i holds of the prefix of what is left there
pub prefix_at : (P : ℕ → Type 0) (i : ℕ) (s : List ℕ) → P (get_or s i 0) → IfFirst P (drop i s)
prefix_at P zero [] p = tt
prefix_at P (suc i) [] p = tt
prefix_at P zero (x ∷ s) p = p
prefix_at P (suc i) (x ∷ s) p = prefix_at P i s p

-- nothing is left at the end
pub prefix_end : (P : ℕ → Type 0) (s : List ℕ) → IfFirst P (drop (length s) s)
prefix_end P [] = tt
prefix_end P (x ∷ s) = prefix_end P s

pub IfFirst-empty : (P : ℕ → Type 0) (b : List ℕ) → b ≡ [] → IfFirst P b
IfFirst-empty P b e = subst (IfFirst P) (sym e) tt

pub IfFirst-cons : (P : ℕ → Type 0) (b : List ℕ) (x : ℕ) (rest : List ℕ) → b ≡ x ∷ rest → P x → IfFirst P b
IfFirst-cons P b x rest e p = subst (IfFirst P) (sym e) p

-- a text, and a delimiter after it
pub escaped_rest : (L : Language) (b p behind rest : List ℕ) (x y : ℕ) → L p → b ≡ p ++ behind → behind ≡ x ∷ rest
    → x ≡ y → Follows (L ⋅ Only (y ∷ [])) b rest
escaped_rest L b p behind rest x y h e f g =
    subst (λ (k : List ℕ). Follows (L ⋅ Only (y ∷ [])) k rest) (sym (e'))
    (p ++ y ∷ [], sym (one_more p y rest), (p, y ∷ [], refl', h, refl'))
  where
    refl' : {s : List ℕ} → s ≡ s
    refl' = refl

    e' : b ≡ p ++ y ∷ rest
    e' = cc
