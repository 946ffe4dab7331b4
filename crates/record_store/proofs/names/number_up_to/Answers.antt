use Rattle.std.proofs.Common.{◌≡◌, ◌<◌, ◌^◌, arith, sym, ◌∙◌}
use Rattle.record_store.proofs.Named.{other_number}
use Rattle.record_store.proofs.names.number_up_to.Goals as goal

pub returns-in_default-clause-none : goal.returns-in_default-clause-none
returns-in_default-clause-none c n up is =
    let number = c.in-Some.number in
    let small : number < 2 ^ 64 = omega arith in
    let same : n ≡ number = other_number n number (omega (arith, up, c.ranges.last.fits)) small
    (sym is ∙ c.in-Some.ensures.some) in
    absurd (omega (arith, same, up, c.if-number-last.false))
