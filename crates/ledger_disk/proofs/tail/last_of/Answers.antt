use Rattle.std.proofs.Common.{take}
use Rattle.ledger_disk.proofs.Behind.{last_is}
use Rattle.ledger_disk.proofs.tail.last_of.Goals as goal

pub returns-clause-last : goal.returns-clause-last
returns-clause-last c whole =
    let rest = c.in_ok-front.front.now in
    let end = c.lines_end.result in
    let cases = c.in_ok-front.ensures.cases in (
      take end rest,
      last_is c.args.lines.now rest c.in_ok-front.field-0-0.now end whole cases.0 cases.1 c.lines_end.ensures,
    )
