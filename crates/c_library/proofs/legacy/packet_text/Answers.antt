use Rattle.std.proofs.Common.{inr}
use Rattle.std.proofs.lemmas.Int.{to_z-of_z}
use Rattle.std.proofs.lemmas.Result.{MatchResult-weaker}
use mir.Syntax.{w32}
use Rattle.c_library.proofs.legacy.packet_text.Goals as goal

pub returns-in-Some : goal.returns-in-Some
returns-in-Some c =
    let number = rw (to_z-of_z w32 c.args.dialect c.ranges.dialect) at c.in-Some.ensures in
    let h =
    rw (
      to_z-of_z w32 c.args.year c.ranges.year,
      to_z-of_z w32 c.args.offset_minutes c.ranges.offset_minutes,
    )
    at c.legacy_text.ensures in
    MatchResult-weaker c.legacy_text.result h (λ v text. (c.in-Some.dialect, number, text))
    (λ told why. inr (c.in-Some.dialect, number, why))
