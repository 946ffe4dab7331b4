use Rattle.std.proofs.Common.{◌++◌}
use Rattle.std.specs.Prelude.{codes}
use Rattle.collect_engine.proofs.Collected.{then_lines, writes_behind, written_behind_part}
use Rattle.collect_engine.proofs.collecting.write_behind.Goals as goal

pub returns-in-Ok : goal.returns-in-Ok
returns-in-Ok g c =
    let made = c.write_archive.ensures in (
      c.args.line.now ++ made.0,
      writes_behind _ c.args.line.now (codes "write fault\n") _ _ _ _ _ made.0 made.1,
      then_lines _ _ _ _ _ _ c.args.line.now made.0 c.in-Ok.ensures.no_failure c.in-Ok.ensures.octets made.2,
    )

pub returns-in-Err : goal.returns-in-Err
returns-in-Err g c =
    written_behind_part _ c.args.line.now (codes "write fault\n") _ _ _ _ _ _ _ _ _ _ c.write_unnoted.ensures.written
    c.write_unnoted.ensures.status c.in-Err.ensures.cause c.in-Err.ensures.some_left c.in-Err.ensures.octets
