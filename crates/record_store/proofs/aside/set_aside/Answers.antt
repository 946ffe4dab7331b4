use Rattle.std.proofs.Common.{◌<◌, ◌^◌, List, ℕ, arith, subst}
use Rattle.journal.specs.Journals.{KeepsOrSettlesOthers}
use Rattle.record_store.proofs.Asides.{others_counted}
use Rattle.record_store.proofs.aside.set_aside.Goals as goal

pub returns-in-Ok-clause-counted : goal.returns-in-Ok-clause-counted
returns-in-Ok-clause-counted g c tells =
    let zero = g.D.Disk.state c.args.disk.now in
    let new = g.D.Disk.state c.put_behind.new.disk in
    let small : c.args.number < 2 ^ 64 = omega (arith, c.ranges.number.fits) in
    others_counted zero new c.args.number small
    (subst (λ (n : List ℕ). KeepsOrSettlesOthers zero new n) c.in_ok-name.ensures (c.put_behind.ensures.others tells))

pub returns-clause-counted : goal.returns-clause-counted
returns-clause-counted g c tells =
    let zero = g.D.Disk.state c.args.disk.now in
    let new = g.D.Disk.state c.put_behind.new.disk in
    let small : c.args.number < 2 ^ 64 = omega (arith, c.ranges.number.fits) in
    others_counted zero new c.args.number small
    (subst (λ (n : List ℕ). KeepsOrSettlesOthers zero new n) c.in_ok-name.ensures (c.put_behind.ensures.others tells))
