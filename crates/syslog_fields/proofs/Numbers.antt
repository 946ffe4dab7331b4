-- PRI and VERSION: where their texts end and stop.
use Rattle.std.proofs.Common.{◌≡◌, ◌≢◌, ℕ, ◌+◌, ◌-◌, ◌*◌, ◌^◌, ◌<◌, ◌≤◌, List, [], ◌∷◌, ◌++◌, length, refl, sym, ap}
use Rattle.std.proofs.Common.{subst, ◌∙◌, arith}
use Rattle.std.specs.List.{AllByRecursion}
use Rattle.std.specs.Fmt.{decimal}
use Rattle.std.proofs.lemmas.Fmt.{decimal_nonempty}
use Rattle.std.proofs.lemmas.List.{append-nil}
use Rattle.octet_language.specs.Digits.{IsDigit}
use Rattle.octet_language.specs.Language.{Only, ◌⋅◌, AnyOf, Refuses, IsPrefixFree, IfFirst}
use Rattle.octet_language.specs.Reading.{Fails, Follows}
use Rattle.octet_language.proofs.Lists.{one_more, AllByRecursion-weaker}
use Rattle.octet_language.proofs.Sequence.{IsPrefixFree-then}
use Rattle.octet_language.proofs.Decimal.{goes_on, digits_decimal, next_digit}
use Rattle.octet_language.proofs.Delimited.{Fails-delimited, IsPrefixFree-delimited}
use Rattle.octet_language.proofs.Chain.{IsPrefixFree-only, IsPrefixFree-same}
use Rattle.syslog_fields.specs.Grammar.{Number, Priority, Spaced, Version}

small : (v : ℕ) → v ≤ 191 → v < 2 ^ 64
small v h = omega arith

free_number : (a : List ℕ) → AnyOf Number a → AllByRecursion (λ y. y ≢ 62) a
free_number a (v, h) = subst (AllByRecursion (λ y. y ≢ 62)) (sym h.1)
    (AllByRecursion-weaker IsDigit (λ y. y ≢ 62) (λ y d. λ e. omega (arith, d.0, d.1, e)) (decimal v)
    (digits_decimal v (small v h.0)))

pub IsPrefixFree-number : IsPrefixFree (AnyOf Number ⋅ Only (62 ∷ []))
IsPrefixFree-number = IsPrefixFree-delimited (AnyOf Number) 62 free_number

Refuses-first_digit : (rest : List ℕ) → IfFirst (λ x. ¬ (IsDigit x)) rest → Refuses (AnyOf Number) [] rest
Refuses-first_digit [] not_digit = tt
Refuses-first_digit (x ∷ rest) not_digit =
    λ (more, h). not_digit (subst (AllByRecursion IsDigit) (sym h.1.1) (digits_decimal h.0 (small h.0 h.1.0))).0

no_empty : (rest : List ℕ) → IfFirst (λ y. y ≡ 62 → ¬ (AnyOf Number [])) rest
no_empty [] = tt
no_empty (x ∷ rest) = λ e h. omega (arith, ap length h.1.1, decimal_nonempty h.0 (small h.0 h.1.0))

-- no number begins without a digit
pub no_number : (b : List ℕ) → IfFirst (λ x. ¬ (IsDigit x)) b → Fails (AnyOf Number ⋅ Only (62 ∷ [])) b (length b)
no_number b not_digit = Fails-delimited (AnyOf Number) 62 b [] b (decimal 0) free_number refl (0, (omega arith, refl))
    (Refuses-first_digit b not_digit) (no_empty b)

-- the digit x goes on after those of n
abbrev pub GoesOn : ℕ → ℕ → Type 0
GoesOn n x = (0 < n) × (48 ≤ x) × (x ≤ 57) × (10 * n + (x - 48) ≤ 191)

Refuses-next_digit : (n : ℕ) (rest : List ℕ) → n ≤ 191 → IfFirst (λ x. (x ≢ 62) × ¬ (GoesOn n x)) rest
    → Refuses (AnyOf Number) (decimal n) rest
Refuses-next_digit n [] low ends = tt
Refuses-next_digit n (x ∷ rest) low ends = λ (more, h).
    let g = goes_on h.0 n x more (small h.0 h.1.0) (small n low) (sym h.1.1 ∙ one_more (decimal n) x more) in
    ends.1 (g.0, g.1.0, g.1.1, omega (arith, g.2, h.1.0))

no_bom : (n : ℕ) (rest : List ℕ) → IfFirst (λ x. (x ≢ 62) × ¬ (GoesOn n x)) rest
    → IfFirst (λ y. y ≡ 62 → ¬ (AnyOf Number (decimal n))) rest
no_bom n [] ends = tt
no_bom n (x ∷ rest) ends = λ e h. ends.0 e

-- after a number neither the bracket nor a digit that keeps it below 192
pub no_digit : (b : List ℕ) (n : ℕ) (rest : List ℕ) → n ≤ 191 → b ≡ decimal n ++ rest
    → IfFirst (λ x. (x ≢ 62) × ¬ (GoesOn n x)) rest → Fails (AnyOf Number ⋅ Only (62 ∷ [])) b (length rest)
no_digit b n rest low e ends =
    Fails-delimited (AnyOf Number) 62 b (decimal n) rest [] free_number e (n, (low, append-nil (decimal n)))
    (Refuses-next_digit n rest low ends) (no_bom n rest ends)

-- a number and the bracket that follows it
pub closed : (b : List ℕ) (n : ℕ) (rest : List ℕ) (x : ℕ) (after : List ℕ) → n ≤ 191 → b ≡ decimal n ++ rest
    → rest ≡ x ∷ after → x ≡ 62 → Follows (Number n ⋅ Only (62 ∷ [])) b after
closed b n rest x after low e f g = (
  decimal n ++ 62 ∷ [],
  e ∙ ap (λ (k : List ℕ). decimal n ++ k) (f ∙ ap (λ (k : ℕ). k ∷ after) g)
      ∙ sym (one_more (decimal n) 62 after),
  (decimal n, 62 ∷ [], refl, (low, refl), refl),
)

-- one more digit is read
pub one_more_digit : (b : List ℕ) (n : ℕ) (rest : List ℕ) (x : ℕ) (after : List ℕ) → GoesOn n x → b ≡ decimal n ++ rest
    → rest ≡ x ∷ after → b ≡ decimal (10 * n + (x - 48)) ++ after
one_more_digit b n rest x after g e f =
    e ∙ ap (λ (k : List ℕ). decimal n ++ k) f ∙ sym (one_more (decimal n) x after)
    ∙ ap (λ (k : List ℕ). k ++ after) (sym (next_digit n x g.0 (g.1, g.2) (omega (arith, g.3))))

-- some number and bracket
pub some_number : AnyOf (λ v. Number v ⋅ Only (62 ∷ [])) (decimal 0 ++ 62 ∷ [])
some_number = (0, (decimal 0, 62 ∷ [], refl, (omega arith, refl), refl))

pub IsPrefixFree-version : IsPrefixFree (Spaced Version)
IsPrefixFree-version = IsPrefixFree-then (Only (49 ∷ [])) (Only (32 ∷ [])) (IsPrefixFree-only (49 ∷ []))
    (IsPrefixFree-only (32 ∷ []))

pub IsPrefixFree-priority : IsPrefixFree (AnyOf Priority)
IsPrefixFree-priority =
    IsPrefixFree-same (Only (60 ∷ []) ⋅ AnyOf Number ⋅ Only (62 ∷ [])) (AnyOf Priority)
    (λ s (v, (x, y, e, m, (x2, y2, e2, n, k))). (x, y, e, m, (x2, y2, e2, (v, n), k)))
    (IsPrefixFree-then (Only (60 ∷ [])) (AnyOf Number ⋅ Only (62 ∷ [])) (IsPrefixFree-only (60 ∷ []))
    IsPrefixFree-number)
