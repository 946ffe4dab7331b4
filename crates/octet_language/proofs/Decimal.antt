-- What a decimal text begins with.
use Rattle.std.proofs.Common.{◌≡◌, ℕ, ◌+◌, ◌-◌, ◌*◌, ◌^◌, ◌%◌, ◌/◌, ◌<◌, ◌≤◌, List, [], ◌∷◌, ◌++◌, length, get_or, refl}
use Rattle.std.proofs.Common.{sym, ap, subst, ◌∙◌, arith, rules, inl, inr}
use Rattle.std.specs.Fmt.{decimal}
use Rattle.std.specs.List.{AllByRecursion}
use Rattle.std.proofs.lemmas.Fmt.{decimal_by_steps, decimal_step, decimal_digit, first_decimal, digits_value-decimal}
use Rattle.std.proofs.lemmas.Str.Parse.{IsNumeralModel, numerals_by_fold, tells_digits}
use Rattle.std.specs.Str.Parse.{AllDigits}
use Rattle.std.proofs.lemmas.Bool.{cases_lt}
use Rattle.octet_language.specs.Digits.{IsDigit, read_on}
use Rattle.octet_language.proofs.Lists.{AllByRecursion-append, AllByRecursion-right}

own : IsNumeralModel (AllDigits 10) (read_on 0)
own = numerals_by_fold _ tells_digits read_on (search rules)

pub value_decimal : (n : ℕ) → n < 2 ^ 64 → read_on 0 (decimal n) ≡ n
value_decimal n small = digits_value-decimal own n small

pub read_on-append : (n : ℕ) (a b : List ℕ) → read_on n (a ++ b) ≡ read_on (read_on n a) b
read_on-append n [] b = refl
read_on-append n (c ∷ a) b = read_on-append (10 * n + (c - 48)) a b

pub read_on-ge : (n : ℕ) (ds : List ℕ) → n ≤ read_on n ds
read_on-ge n [] = omega arith
read_on-ge n (c ∷ ds) = omega (arith, read_on-ge (10 * n + (c - 48)) ds)

pub digits_decimal : (n : ℕ) → n < 2 ^ 64 → AllByRecursion IsDigit (decimal n)
digits_decimal n small =
    decimal_by_steps (λ n ds. AllByRecursion IsDigit ds)
    (λ n low. ((omega arith, omega arith), tt))
    (λ n ds high h. AllByRecursion-append IsDigit ds ((48 + n % 10) ∷ []) h ((omega arith, omega arith), tt))
    n small

no_zero : (v y : ℕ) (z : List ℕ) → v < 2 ^ 64 → decimal v ≡ 48 ∷ y ∷ z → ⊥
no_zero v y z vs e =
    elim (cases_lt 0 v) [
      | inl lt ↦ omega (arith, first_decimal v lt vs, ap (λ (s : List ℕ). get_or s 0 0) e)
      | inr le ↦ omega (arith, ap length (sym (decimal_digit v (omega arith)) ∙ e))
    ]

-- a decimal text that continues that of n: n is not 0, a digit follows, and the number is at least that large
pub goes_on : (v n y : ℕ) (z : List ℕ) → v < 2 ^ 64 → n < 2 ^ 64 → decimal v ≡ decimal n ++ y ∷ z
    → (0 < n) × IsDigit y × (10 * n + (y - 48) ≤ v)
goes_on v n y z vs ns e =
    let digits = AllByRecursion-right IsDigit (decimal n) (y ∷ z)
    (subst (AllByRecursion IsDigit) e (digits_decimal v vs)) in
    let far : read_on 0 (decimal v) ≡ read_on n (y ∷ z) =
    ap (read_on 0) e ∙ read_on-append 0 (decimal n) (y ∷ z) ∙ ap (λ (k : ℕ). read_on k (y ∷ z)) (value_decimal n ns)
    in
    let least : 10 * n + (y - 48) ≤ v = omega (arith, value_decimal v vs, far, read_on-ge (10 * n + (y - 48)) z) in
    let positive : 0 < n = elim (cases_lt 0 n) [
      | inl lt ↦ lt
      | inr le ↦
          let zero-is : n ≡ 0 = omega arith in
          absurd (no_zero v y z vs (e ∙ ap (λ (k : ℕ). decimal k ++ y ∷ z) zero-is
          ∙ ap (λ (s : List ℕ). s ++ y ∷ z) (decimal_digit 0 (omega arith))))
    ] in
    (positive, digits.0, least)

-- the number of one digit
pub one_digit : (x : ℕ) → IsDigit x → decimal (x - 48) ≡ x ∷ []
one_digit x d =
    let back : 48 + (x - 48) ≡ x = omega arith in
    decimal_digit (x - 48) (omega arith) ∙ ap (λ (k : ℕ). k ∷ []) back

-- one more digit after a number
pub next_digit : (n x : ℕ) → 0 < n → IsDigit x → 10 * n + (x - 48) < 2 ^ 64
    → decimal (10 * n + (x - 48)) ≡ decimal n ++ x ∷ []
next_digit n x positive d fits =
    let m = 10 * n + (x - 48) in
    let prefix : m / 10 ≡ n = omega arith in
    let last : 48 + m % 10 ≡ x = omega arith in
    decimal_step m (omega arith) fits ∙ ap (λ (k : ℕ). decimal k ++ (48 + m % 10) ∷ []) prefix
    ∙ ap (λ (k : ℕ). decimal n ++ k ∷ []) last
