use Rattle.std.proofs.Common.{inr}
use Rattle.record_store.proofs.Compared.{placed_puts, same_shows}
use Rattle.record_store.proofs.keeping.bring.Goals as goal

pub returns-clause-brought : goal.returns-clause-brought
returns-clause-brought g c _ tells file shows apart =
    let zero = g.D.Disk.state c.args.disk.now in
    let one = g.D.Disk.state c.may_take.new.disk in
    let told = c.place.ensures.told tells in
    let still = same_shows zero one c.args.draft.now file (c.may_take.ensures.same told) shows in
    c.in_ok-place.ensures.placed tells file still apart

pub returns-clause-any_moment : goal.returns-clause-any_moment
returns-clause-any_moment g c tells file shows apart =
    let zero = g.D.Disk.state c.args.disk.now in
    let one = g.D.Disk.state c.may_take.new.disk in
    let two = g.D.Disk.state c.place.new.disk in
    let told = c.place.ensures.told tells in
    let same = c.may_take.ensures.same told in
    let still = same_shows zero one c.args.draft.now file same shows in
    inr (placed_puts zero one two c.args.draft.now c.args.name.now file.shown same
    (c.in_ok-may_take.ensures.may c.if-not-branch.false told file shows)
    (c.place.ensures.any_moment tells file still apart) (c.place.ensures.shows tells file still apart)
    (c.place.ensures.others tells))

pub returns-in_err-place-clause-any_moment : goal.returns-in_err-place-clause-any_moment
returns-in_err-place-clause-any_moment g c tells file shows apart =
    let zero = g.D.Disk.state c.args.disk.now in
    let one = g.D.Disk.state c.may_take.new.disk in
    let two = g.D.Disk.state c.place.new.disk in
    let told = c.place.ensures.told tells in
    let same = c.may_take.ensures.same told in
    let still = same_shows zero one c.args.draft.now file same shows in
    inr (placed_puts zero one two c.args.draft.now c.args.name.now file.shown same
    (c.in_ok-may_take.ensures.may c.if-not-branch.false told file shows)
    (c.place.ensures.any_moment tells file still apart) (c.place.ensures.shows tells file still apart)
    (c.place.ensures.others tells))
