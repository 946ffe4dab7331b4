use Rattle.std.proofs.Common.{rules}
use Rattle.std.proofs.lemmas.Int.{to_z-of_z}
use mir.Syntax.{w32, w64}
use Rattle.syslog_legacy.specs.declared.clock.Dialect.TheVariants.{Bsd}
use Rattle.c_library.specs.Legacies.{IsNoLegacy, LegacyOf}
use Rattle.c_library.proofs.Answering.{answered}
use Rattle.c_library.proofs.legacy.syslogbox_proved_legacy.Goals as goal

pub returns : goal.returns
returns c =
    let h =
    rw (to_z-of_z w32 c.args.year c.ranges.year, to_z-of_z w32 c.args.offset_minutes c.ranges.offset_minutes)
    at c.legacy_text-text.ensures in
    answered (LegacyOf Bsd c.args.year c.args.offset_minutes c.args.packet.now)
    (IsNoLegacy Bsd c.args.year c.args.offset_minutes c.args.packet.now) _ _ _ (λ v. v.items) c.legacy_text-text.result h
    c.answer.ensures _ (to_z-of_z w64 c.answer.result (search rules))
