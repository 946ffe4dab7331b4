use Rattle.std.proofs.Common.{◌≡◌, pos, neg_ℤ, arith, ◌∙◌, sym, w16, to_z, of_z}
use Rattle.std.specs.Int.RustNames.{unsigned_abs}
use Rattle.jiff_core.specs.Date.{epoch_day}
use Rattle.jiff_core.proofs.SignedLemmas.{signed_casts}
use Rattle.syslog_value.proofs.DayNumbers.{day_number-same, first_day-number, year-from_zero}
use Rattle.syslog_value.proofs.civil.date_at.Goals as goal

pub unwrap-date-requires : goal.unwrap-date-requires
unwrap-date-requires c =
    let zero : epoch_day c.to_plain.result ≡ neg_ℤ (pos 719_528) =
    rw c.to_plain.ensures (day_number-same 0 1 1 (omega arith) ∙ first_day-number) in
    c.checked_add.ensures.succeeds.1 (omega (arith, signed_casts), omega (arith, signed_casts))

pub overflow_cast-result : goal.overflow_cast-result
overflow_cast-result c =
    let zero : epoch_day c.to_plain.result ≡ neg_ℤ (pos 719_528) =
    rw c.to_plain.ensures (day_number-same 0 1 1 (omega arith) ∙ first_day-number) in
    let value = rw c.unwrap-date.ensures at c.checked_add.ensures.value in
    let number : epoch_day c.unwrap-date.result ≡ c.args.day = omega (arith, signed_casts, value) in
    let year = year-from_zero c.unwrap-date.result (omega (arith, signed_casts)) in
    (omega (arith, signed_casts), omega (arith, signed_casts))

pub returns-clause-value : goal.returns-clause-value
returns-clause-value c =
    let zero : epoch_day c.to_plain.result ≡ neg_ℤ (pos 719_528) =
    rw c.to_plain.ensures (day_number-same 0 1 1 (omega arith) ∙ first_day-number) in
    let value = rw c.unwrap-date.ensures at c.checked_add.ensures.value in
    let number : epoch_day c.unwrap-date.result ≡ c.args.day = omega (arith, signed_casts, value) in
    let year = year-from_zero c.unwrap-date.result (omega (arith, signed_casts)) in
    let y = unsigned_abs (to_z w16 (of_z w16 c.unwrap-date.result.year)) in
    let same : c.unwrap-date.result.year ≡ pos y = omega (arith, signed_casts) in
    sym (day_number-same y c.unwrap-date.result.month c.unwrap-date.result.day c.unwrap-date.result.day_in.0)
    ∙ rw (← same) number
