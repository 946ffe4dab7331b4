use Rattle.std.proofs.Common.{inl, ⊎_elim}
use Rattle.record_store.proofs.Compared.{alike_then, same_at_most}
use Rattle.record_store.proofs.keeping.may_take.Goals as goal

pub returns-then-not-branch-clause-may : goal.returns-then-not-branch-clause-may
returns-then-not-branch-clause-may g c _ tells file shows =
    inl (⊎_elim (λ there. absurd (cc (there, c.if-not-branch.true))) (λ absent. absent tells)
    c.in_ok-is_there.ensures.there)

pub returns-clause-may : goal.returns-clause-may
returns-clause-may g c true-is tells file shows =
    let zero = g.D.Disk.state c.args.disk.now in
    let one = g.D.Disk.state c.is_there.new.disk in
    let first = c.is_there.ensures.same (c.are_same.ensures.told tells) in
    same_at_most zero c.args.draft.now c.args.name.now file shows
    (alike_then zero one c.args.draft.now c.args.name.now first (c.in_ok-same.ensures.same_octets true-is tells))
