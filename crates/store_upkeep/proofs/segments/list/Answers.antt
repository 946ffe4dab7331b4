use Rattle.std.proofs.Common.{ap, subst}
use Rattle.std.specs.Prelude.{IsSome}
use Rattle.std.proofs.lemmas.List.Sorted.{Contains-permutation}
use Rattle.disk.specs.Memory.{shown_now}
use Rattle.store_upkeep.proofs.DayJoins.{some_now}
use Rattle.store_upkeep.proofs.segments.list.Goals as goal

pub returns-in_ok-ordered-in-Ok-clause-names : goal.returns-in_ok-ordered-in-Ok-clause-names
returns-in_ok-ordered-in-Ok-clause-names g c tells sound name some =
    (c.in_ok-ordered-in-Ok.ensures name).1
    (Contains-permutation c.in-Ok.names.items c.sort_by.new.self.items name c.sort_by.ensures.permutation
    ((c.in-Ok.ensures.names tells sound name).1
    (some_now ((g.D.Disk.state c.args.disk.now).entries name).now
    (subst IsSome (ap shown_now ((c.in-Ok.ensures.done tells).entries name)) some))))
