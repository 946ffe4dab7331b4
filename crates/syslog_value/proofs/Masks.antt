-- The sets of severities that numbers of eight bits encode.
use Rattle.std.proofs.Common.{◌≡◌, ◌↔◌, ◌⊎◌, ◌<◌, ◌^◌, ◌*◌, ℕ, zero, suc, sym, subst, ap, ◌∙◌, refl, inl, inr, arith}
use Rattle.std.proofs.Common.{IsBitSet, IsTrue, ◌==◌, bit_and, bit_or}
use Rattle.std.specs.Int.{bit_at}
use Rattle.std.specs.Int.Bits.{and_zero_l}
use Rattle.std.proofs.Math.Pow.{pow_pos}
use Rattle.std.proofs.lemmas.Bool.{cases_lt, eqb-true, eq-eqb}
use Rattle.std.proofs.lemmas.Nat.Bits.{and_pow, bit_at-lt, bit_at_or, bit_at-zero, same_from_bits_below}
use Rattle.syslog_value.specs.declared.severity.Severity.{Severity}
use Rattle.syslog_value.specs.declared.severity.Severity.TheVariants.{Emergency, Alert, Critical, Error, Warning}
use Rattle.syslog_value.specs.declared.severity.Severity.TheVariants.{Notice, Informational, Debug}
use Rattle.syslog_value.specs.Severities.{severity_code}
use Rattle.syslog_value.specs.Masks.{Holds}

bit_of_set : (m k : ℕ) → IsBitSet m k → bit_at m k ≡ 1
bit_of_set m k is_set =
    elim (cases_lt 0 (bit_at m k)) [
      | inl some ↦ omega (arith, bit_at-lt m k)
      | inr nothing ↦
          let clear : bit_at m k ≡ 0 = omega arith in
          absurd (is_set (and_pow m k ∙ ap (λ b. b * 2 ^ k) clear ∙ omega arith))
    ]

set_of_bit : (m k : ℕ) → bit_at m k ≡ 1 → IsBitSet m k
set_of_bit m k one none = omega (arith, and_pow m k, ap (λ b. b * 2 ^ k) one, pow_pos k)

bit_of_clear : (m k : ℕ) → ¬ IsBitSet m k → bit_at m k ≡ 0
bit_of_clear m k is_clear =
    elim (cases_lt 0 (bit_at m k)) [
      | inl some ↦ absurd (is_clear (set_of_bit m k (omega (arith, bit_at-lt m k))))
      | inr nothing ↦ omega arith
    ]

-- a bit of a union
pub set_in_union : (a b k : ℕ) → IsBitSet (bit_or a b) k ↔ (IsBitSet a k ⊎ IsBitSet b k)
set_in_union a b k = (
  (λ is_set.
      elim (cases_lt 0 (bit_at a k)) [
        | inl some ↦ inl (set_of_bit a k (omega (arith, bit_at-lt a k)))
        | inr nothing ↦ inr (set_of_bit b k (omega
            (arith, bit_at-lt b k, bit_at_or a b k, bit_of_set (bit_or a b) k is_set)))
      ]),
  (λ either. elim either [
    | inl left ↦ set_of_bit (bit_or a b) k (omega (arith, bit_at_or a b k, bit_of_set a k left, bit_at-lt b k))
    | inr right ↦ set_of_bit (bit_or a b) k (omega (arith, bit_at_or a b k, bit_of_set b k right, bit_at-lt a k))
  ]),
)

severity_with_code : (k : ℕ) → k < 8 → (s : Severity) × (severity_code s ≡ k)
severity_with_code zero below = (Emergency, refl)
severity_with_code (suc zero) below = (Alert, refl)
severity_with_code (suc (suc zero)) below = (Critical, refl)
severity_with_code (suc (suc (suc zero))) below = (Error, refl)
severity_with_code (suc (suc (suc (suc zero)))) below = (Warning, refl)
severity_with_code (suc (suc (suc (suc (suc zero))))) below = (Notice, refl)
severity_with_code (suc (suc (suc (suc (suc (suc zero)))))) below = (Informational, refl)
severity_with_code (suc (suc (suc (suc (suc (suc (suc zero))))))) below = (Debug, refl)
severity_with_code (suc (suc (suc (suc (suc (suc (suc (suc k)))))))) below = absurd (omega arith)

-- a number without a severity is zero
empty_is_zero : (m : ℕ) → m < 256 → ((s : Severity) → ¬ Holds m s) → m ≡ 0
empty_is_zero m small none =
    same_from_bits_below 8 m 0 small (omega arith)
    (λ k below. let (s, is) = severity_with_code k below in
    bit_of_clear m k (subst (λ k. ¬ IsBitSet m k) is (none s)) ∙ sym (bit_at-zero k))

pub is_empty_mask : (m : ℕ) → m < 256 → IsTrue (m == 0) ↔ ((s : Severity) → ¬ Holds m s)
is_empty_mask m small = (
  (λ zero s held. held (ap (λ n. bit_and n (2 ^ severity_code s)) (eqb-true m 0 zero)
      ∙ and_zero_l (2 ^ severity_code s))),
  (λ none. eq-eqb m 0 (empty_is_zero m small none)),
)

-- a bit of the one mask is that of the other
same_bit : (m n k : ℕ) → IsBitSet m k ↔ IsBitSet n k → bit_at m k ≡ bit_at n k
same_bit m n k same =
    elim (cases_lt 0 (bit_at m k)) [
      | inl some ↦
          let one : bit_at m k ≡ 1 = omega (arith, bit_at-lt m k) in
          one ∙ sym (bit_of_set n k (same.0 (set_of_bit m k one)))
      | inr nothing ↦
          elim (cases_lt 0 (bit_at n k)) [
            | inl some ↦
                let one : bit_at n k ≡ 1 = omega (arith, bit_at-lt n k) in
                bit_of_set m k (same.1 (set_of_bit n k one)) ∙ sym one
            | inr nothing' ↦ omega arith
          ]
    ]

pub same_mask : (m n : ℕ) → m < 256 → n < 256 → ((s : Severity) → Holds m s ↔ Holds n s) → m ≡ n
same_mask m n small small' same =
    same_from_bits_below 8 m n small small'
    (λ k below. let (s, is) = severity_with_code k below in
    same_bit m n k (subst (λ k. IsBitSet m k ↔ IsBitSet n k) is (same s)))
