use Rattle.std.proofs.Common.{◌≡◌}
use Rattle.std.specs.Prelude.{Some, decimal}
use Rattle.std.proofs.lemmas.Option.{none-some}
use Rattle.archive_proof.proofs.Readings.{no_end}
use Rattle.archive_proof.proofs.reading.number.Goals as goal

pub returns-in_err-digits : goal.returns-in_err-digits
returns-in_err-digits c =
    λ n rest low small is. absurd (c.in_err-digits.ensures (decimal n) rest is (no_end n c.args.end small low))

pub returns-in_err-number : goal.returns-in_err-number
returns-in_err-number c =
    λ n rest low small is.
    let parts = c.in_ok-digits.ensures (decimal n) rest is (no_end n c.args.end small low) in
    absurd (none-some n (c.in_err-number.ensures n small parts.0))

pub returns : goal.returns
returns c =
    λ n rest low small is.
    let parts = c.in_ok-digits.ensures (decimal n) rest is (no_end n c.args.end small low) in
    let found : Some c.in_ok-number.number ≡ Some n = c.in_ok-number.ensures n small parts.0 in
    let same : c.in_ok-number.number ≡ n = cc in
    (same, parts.1)
