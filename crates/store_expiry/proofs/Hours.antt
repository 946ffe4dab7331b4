-- Hours.
use Rattle.std.proofs.Common.{◌≡◌, ℕ, ◌+◌, ◌-◌, ◌*◌, ◌/◌, ◌%◌, ◌<◌, refl, subst, ◌∙◌, arith, inr}
use Rattle.std.proofs.Common.{ℤ, pos, negsuc, neg_ℤ, ◌+ℤ◌, ◌-ℤ◌, ◌<ℤ◌, ◌≤ℤ◌}
use Rattle.std.specs.Prelude.{◌↔◌, Bool, Option, None, Some}
use Rattle.std.specs.Int.{int_rem_euclid}
use Rattle.std.proofs.lemmas.Int.{int_rem_euclid_is, ints}
use Rattle.jiff_core.proofs.SignedLemmas.{signed_arith}
use Rattle.archive_sets.specs.Conditions.{IsInRange}
use Rattle.store_expiry.specs.Expired.{IsBefore, IsBeforeHour, IsHourOf}

-- ---- the hour of an instant

from_least : (z : ℤ) (c : ℕ) → neg_ℤ (pos c) ≤ℤ z → (m : ℕ) × (z +ℤ pos c ≡ pos m)
from_least (pos a) c least = (a + c, refl)
from_least (negsuc a) c least = (c - (a + 1), omega (arith, ints, least))

pub record HourFound (z hour : ℤ) : Type 0 where
  pub is : IsHourOf z hour
  pub least : neg_ℤ (pos 62_167_219_200_000_000) ≤ℤ hour

found_hour : (z within hour : ℤ) (m q r : ℕ) → z +ℤ pos 62_167_219_200_000_000 ≡ pos m → within ≡ pos r
    → m ≡ q * 3_600_000_000 + r → r < 3_600_000_000 → hour ≡ z -ℤ within → HourFound z hour
found_hour z within hour m q r shifted rest parts small is = record {
  is = record {
    number = pos q -ℤ pos 17_268_672;
    whole = omega (arith, signed_arith, shifted, rest, parts, is);
    begun = omega (arith, signed_arith, shifted, rest, parts, is);
    lasts = omega (arith, signed_arith, shifted, rest, parts, small, is);
  };
  least = omega (arith, signed_arith, shifted, rest, parts, is);
}

pub hour_found : (z within hour : ℤ) → neg_ℤ (pos 62_167_219_200_000_000) ≤ℤ z
    → within ≡ int_rem_euclid z (pos 3_600_000_000) → hour ≡ z -ℤ within → HourFound z hour
hour_found z within hour least rest is =
    let shift = from_least z 62_167_219_200_000_000 least in
    let m = shift.0 in
    let rem : int_rem_euclid z (pos 3_600_000_000) ≡ pos (m % 3_600_000_000) =
    int_rem_euclid_is z (pos 3_600_000_000) 3_600_000_000 17_268_672 m (omega arith) refl shift.1 in
    found_hour z within hour m (m / 3_600_000_000) (m % 3_600_000_000) shift.1 (rest ∙ rem) (omega arith) (omega arith) is

-- ---- what is before it

same_hour : (t a b : ℤ) → IsHourOf t a → IsHourOf t b → a ≡ b
same_hour t a b h k =
    omega (arith, signed_arith, h.whole, h.begun, h.lasts, k.whole, k.begun, k.lasts)

pub before_hour : (time hour : ℤ) (undated : Bool) (i : Option ℤ) → IsHourOf time hour
    → IsBefore hour undated i ↔ IsBeforeHour time undated i
before_hour time hour undated None h = (λ is. is, λ is. is)
before_hour time hour undated (Some i) h = (
  λ before. (hour, h, before),
  λ before. subst (λ (z : ℤ). i <ℤ z) (same_hour time before.0 hour before.1 h) before.2,
)

-- what is before an instant is in the range of what is
pub before_in_range : (before : ℤ) (undated : Bool) (i : Option ℤ) → IsBefore before undated i
    → IsInRange None (Some before) undated i
before_in_range before undated None is = inr is
before_in_range before undated (Some i) is = (tt, is)
