use Rattle.std.proofs.Common.{◌≡◌, ◌<◌, ◌^◌, ◌+ℤ◌, ◌-ℤ◌, ◌*ℤ◌, ℕ, pos, ℤ, arith, rules, w64, w16, FitsSigned, to_z}
use Rattle.std.proofs.Common.{of_z, ◌∙◌, true, false}
use Rattle.std.proofs.lemmas.Int.{ints}
use Rattle.syslog_value.specs.Instants.{instant_of, IsOffset}
use Rattle.syslog_value.proofs.instant.Instant.from_civil.Goals as goal

joined-is : (r day number offset : ℤ) (s seconds m : ℕ) → FitsSigned w64 day → FitsSigned w16 offset → s < 2 ^ 32
    → m < 2 ^ 32 → r ≡ (to_z w64 (of_z w64 day) *ℤ pos 86400 +ℤ to_z w64 s -ℤ to_z w64
    (of_z w64 (to_z w16 (of_z w16 offset))) *ℤ pos 60) *ℤ pos 1000000 +ℤ to_z w64 m → day ≡ number → s ≡ seconds
    → r ≡ (number *ℤ pos 86400 +ℤ pos seconds -ℤ offset *ℤ pos 60) *ℤ pos 1000000 +ℤ pos m
joined-is r day number offset s seconds m fd fo fs fm e ed es =
    let a : to_z w64 (of_z w64 day) ≡ day = omega (arith, ints) in
    let b : to_z w64 s ≡ pos s = omega (arith, ints) in
    let d : to_z w64 (of_z w64 (to_z w16 (of_z w16 offset))) ≡ offset = omega (arith, ints) in
    let k : to_z w64 m ≡ pos m = omega (arith, ints) in
    rw (← ed, ← es) (e ∙ rw (a, b, d, k))

pub returns-in-Some-from_micros-clause-ok : goal.returns-in-Some-from_micros-clause-ok
returns-in-Some-from_micros-clause-ok c =
    let day : FitsSigned w64 c.in-Some.day = search rules in
    let value : c.joined-micros.result ≡ instant_of c.args.civil c.args.offset_minutes =
    joined-is _ _ _ _ _ _ _ day c.ranges.offset_minutes (omega arith) (search rules) c.joined-micros.ensures
    c.in-Some.ensures.value c.in-Some-second_of_day.ensures.value in
    let same : c.in-Some-from_micros.instant ≡ c.joined-micros.result =
    omega (arith, ints, c.in-Some-from_micros.ensures.value) in
    let offset : IsOffset c.args.offset_minutes = (omega (arith, ints), omega (arith, ints)) in (
      (c.in-Some.ensures.exists.0 (search rules), c.in-Some-second_of_day.ensures.exists.0 (search rules)),
      offset,
      same
          ∙ value,
    )

pub returns-in-None-clause-err : goal.returns-in-None-clause-err
returns-in-None-clause-err c =
    let day : FitsSigned w64 c.in-Some.day = search rules in
    let value : c.joined-micros.result ≡ instant_of c.args.civil c.args.offset_minutes =
    joined-is _ _ _ _ _ _ _ day c.ranges.offset_minutes (omega arith) (search rules) c.joined-micros.ensures
    c.in-Some.ensures.value c.in-Some-second_of_day.ensures.value in
    let offset : IsOffset c.args.offset_minutes = (omega (arith, ints), omega (arith, ints)) in
    let back : to_z w64 (of_z w64 c.joined-micros.result) ≡ c.joined-micros.result = omega (arith, ints) in (
      (c.in-Some.ensures.exists.0 (search rules), c.in-Some-second_of_day.ensures.exists.0 (search rules)),
      offset,
      rw (← value, ← back) (λ h. let never : false ≡ true = c.in-None.ensures.valid.1 h in cc),
    )
