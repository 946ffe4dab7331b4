-- Where the texts of words stop.
use Rattle.std.proofs.Common.{◌≡◌, ◌≢◌, ℕ, ◌<◌, ◌≤◌, List, [], ◌∷◌, ◌++◌, length, refl, ap, arith, inl, inr, ◌⊎◌}
use Rattle.std.specs.Prelude.{Some, None}
use Rattle.std.specs.List.{AllByRecursion}
use Rattle.std.proofs.lemmas.Bool.{cases_eq}
use Rattle.std.proofs.lemmas.List.{length-append}
use Rattle.octet_language.specs.Language.{Only, ◌⋅◌, AnyOf, Refuses, IsPrefixFree, IfFirst}
use Rattle.octet_language.specs.Reading.{Fails}
use Rattle.octet_language.proofs.Lists.{heads, AllByRecursion-append, AllByRecursion-left, AllByRecursion-right}
use Rattle.octet_language.proofs.Lists.{AllByRecursion-weaker}
use Rattle.octet_language.proofs.Delimited.{Fails-delimited, IsPrefixFree-delimited}
use Rattle.octet_language.proofs.Chain.{Fails-first_value, IsPrefixFree-same}
use Rattle.syslog_value.specs.Parts.{IsPrintable}
use Rattle.syslog_fields.specs.Grammar.{Nilable, Word, Spaced}

-- ---- the texts of a word or of none

any_word : (n : ℕ) (b : List ℕ) → 0 < n → AnyOf (Nilable (Word n)) b
    → (0 < length b) × (length b ≤ n) × AllByRecursion IsPrintable b
any_word n b positive (None, e) = rw e (omega arith, omega arith, ((omega arith, omega arith), tt))
any_word n b positive (Some w, h) = rw h.1 (h.0.some, h.0.fits, h.0.printable)

-- the one octet "-" or not
cases_nil : (b : List ℕ) → (b ≡ 45 ∷ []) ⊎ (b ≢ 45 ∷ [])
cases_nil [] = inr (λ e. absurd cc)
cases_nil (x ∷ y ∷ b) = inr (λ e. absurd cc)
cases_nil (x ∷ []) = elim (cases_eq x 45) [
  | inl e ↦ inl (ap (λ (k : ℕ). k ∷ []) e)
  | inr ne ↦ inr (λ e. ne (heads x 45 [] [] e))
]

word_any : (n : ℕ) (b : List ℕ) → 0 < length b → length b ≤ n → AllByRecursion IsPrintable b
    → AnyOf (Nilable (Word n)) b
word_any n b some fits printable = elim (cases_nil b) [
  | inl e ↦ (None, e)
  | inr ne ↦ (Some b, (record { some = some; fits = fits; printable = printable; not_nil = ne }, refl))
]

free_word : (n : ℕ) → 0 < n → (a : List ℕ) → AnyOf (Nilable (Word n)) a → AllByRecursion (λ y. y ≢ 32) a
free_word n positive a h = AllByRecursion-weaker IsPrintable (λ y. y ≢ 32) (λ y p. λ e. omega (arith, p.0, e)) a
    (any_word n a positive h).2

pub IsPrefixFree-word : (n : ℕ) → 0 < n → IsPrefixFree (AnyOf (Nilable (Word n)) ⋅ Only (32 ∷ []))
IsPrefixFree-word n positive = IsPrefixFree-delimited (AnyOf (Nilable (Word n))) 32 (free_word n positive)

Refuses-word : (n : ℕ) (p rest : List ℕ) → 0 < n → (length p < n → IfFirst (λ x. IsPrintable x → ⊥) rest)
    → Refuses (AnyOf (Nilable (Word n))) p rest
Refuses-word n p [] positive ends = tt
Refuses-word n p (x ∷ rest) positive ends = λ (more, h).
    let a = any_word n ((p ++ x ∷ []) ++ more) positive h in
    let far : length p < n = omega (arith, a.1, length-append (p ++ x ∷ []) more, length-append p (x ∷ [])) in
    ends far (AllByRecursion-right IsPrintable p (x ∷ []) (AllByRecursion-left IsPrintable (p ++ x ∷ []) more a.2)).0

-- how a word goes on
goes_on_word : (n : ℕ) (p : List ℕ) → 0 < n → length p ≤ n → AllByRecursion IsPrintable p
    → (m : List ℕ) × AnyOf (Nilable (Word n)) (p ++ m)
goes_on_word n [] positive fits printable = (45 ∷ [], (None, refl))
goes_on_word n (x ∷ p) positive fits printable = (
  [],
  word_any n ((x ∷ p) ++ []) (omega arith) (omega (arith, length-append (x ∷ p) []))
      (AllByRecursion-append IsPrintable (x ∷ p) [] printable tt),
)

early : (n : ℕ) (p rest : List ℕ) → 0 < n → IfFirst (λ y. y ≡ 32 → length p ≡ 0) rest
    → IfFirst (λ y. y ≡ 32 → ¬ (AnyOf (Nilable (Word n)) p)) rest
early n p [] positive h = tt
early n p (x ∷ rest) positive h = λ e w. omega (arith, h e, (any_word n p positive w).0)

-- after printable octets, nothing that goes on the word or ends it
pub no_word : (n : ℕ) (b p rest : List ℕ) → 0 < n → b ≡ p ++ rest → length p ≤ n → AllByRecursion IsPrintable p
    → (length p < n → IfFirst (λ x. IsPrintable x → ⊥) rest)
    → IfFirst (λ y. y ≡ 32 → length p ≡ 0) rest
    → Fails (AnyOf (λ w. Spaced (Nilable (Word n) w))) b (length rest)
no_word n b p rest positive e fits printable ends space =
    let m = goes_on_word n p positive fits printable in
    Fails-first_value (Nilable (Word n)) (Only (32 ∷ [])) b (length rest)
    (Fails-delimited (AnyOf (Nilable (Word n))) 32 b p rest m.0 (free_word n positive) e m.1
    (Refuses-word n p rest positive ends) (early n p rest positive space))

-- with no printable octet at the start
pub no_first : (n : ℕ) (b p rest : List ℕ) → 0 < n → b ≡ p ++ rest → length p ≡ 0
    → (length p < n → IfFirst (λ x. IsPrintable x → ⊥) rest)
    → Fails (AnyOf (λ w. Spaced (Nilable (Word n) w))) b (length b)
no_first n b [] rest positive e empty ends =
    rw e (no_word n rest [] rest positive refl (omega arith) tt ends (all_empty rest))
  where
    all_empty : (s : List ℕ) → IfFirst (λ y. y ≡ 32 → length {A = ℕ} [] ≡ 0) s
    all_empty [] = tt
    all_empty (x ∷ s) = λ f. refl
no_first n b (x ∷ p) rest positive e empty ends = absurd (omega arith)

pub IsPrefixFree-any_word : (n : ℕ) → 0 < n → IsPrefixFree (AnyOf (λ w. Spaced (Nilable (Word n) w)))
IsPrefixFree-any_word n positive =
    IsPrefixFree-same (AnyOf (Nilable (Word n)) ⋅ Only (32 ∷ [])) (AnyOf (λ w. Spaced (Nilable (Word n) w)))
    (λ s (w, (x, y, e, h, k)). (x, y, e, (w, h), k))
    (IsPrefixFree-word n positive)
