use Rattle.std.proofs.Common.{ap, arith, length}
use Rattle.std.proofs.lemmas.List.{length-append}
use Rattle.c_library.proofs.Heading.{priority_end}
use Rattle.c_library.proofs.part_spans.priority_len.Goals as goal

pub returns-in-Ok : goal.returns-in-Ok
returns-in-Ok c = λ v rest first.
    omega (
      arith,
      priority_end c.args.octets.now rest c.in-Ok.behind.now v c.in-Ok._value first c.in-Ok.ensures,
      ap length c.in-Ok.ensures.1,
      length-append c.in-Ok.ensures.0 c.in-Ok.behind.now,
    )

pub returns-in-Err : goal.returns-in-Err
returns-in-Err c = λ v rest first. absurd (c.in-Err.ensures.none first.0 rest first.1 (v, first.2))
