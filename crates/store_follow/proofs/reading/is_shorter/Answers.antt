use Rattle.std.proofs.Common.{arith}
use Rattle.store_follow.proofs.Looking.{some_file}
use Rattle.store_follow.proofs.Octets.{ends_before, reaches_to}
use Rattle.store_follow.proofs.reading.is_shorter.Goals as goal

pub returns-in-Ok-clause-shorter : goal.returns-in-Ok-clause-shorter
returns-in-Ok-clause-shorter g c = λ empty tells sound.
    let state = g.D.Disk.state c.args.disk.now in
    let found = some_file (state.entries c.args.name.now) (c.in-Ok.ensures.there (omega arith) tells sound) in (
      found.0,
      found.1,
      ends_before found.0 c.in-Ok.octets.items c.args.at (omega (arith, c.if-at-eq0.false))
          (c.in-Ok.ensures.octets tells sound found.0 found.1) (grind (arith, empty, c.is_empty.ensures)),
    )

pub returns-in-Ok-clause-reaches : goal.returns-in-Ok-clause-reaches
returns-in-Ok-clause-reaches g c = λ some tells sound file shown.
    reaches_to file c.in-Ok.octets.items c.args.at (c.in-Ok.ensures.octets tells sound file shown)
    (grind (arith, some, c.is_empty.ensures))
