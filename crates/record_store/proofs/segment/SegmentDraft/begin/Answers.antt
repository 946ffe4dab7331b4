use Rattle.std.proofs.Common.{⊎_elim}
use Rattle.record_store.proofs.Drafted.{aside_stands}
use Rattle.record_store.proofs.segment.SegmentDraft.begin.Goals as goal

pub returns-in_err-clear-clause-stands : goal.returns-in_err-clear-clause-stands
returns-in_err-clear-clause-stands g c tells apart store sets stands =
    aside_stands (g.D.Disk.state c.args.disk.now) (g.D.Disk.state c.clear.new.disk) c.args.name
    (c.clear.ensures.others tells) apart (c.clear.ensures.same tells) store sets stands

pub returns-in_err-create-clause-stands : goal.returns-in_err-create-clause-stands
returns-in_err-create-clause-stands g c tells apart store sets stands =
    let told = c.create.ensures.told tells in
    let done = (c.in_err-create.ensures.done tells).0 in
    aside_stands (g.D.Disk.state c.clear.new.disk) (g.D.Disk.state c.create.new.self) c.args.name
    (λ other differs. ⊎_elim (λ same. same.entries other) (λ made. made.entry.others other differs) done) apart
    (⊎_elim (λ same. same.lost) (λ made. made.entry.lost) done) store sets
    (aside_stands (g.D.Disk.state c.args.disk.now) (g.D.Disk.state c.clear.new.disk) c.args.name
    (c.clear.ensures.others told) apart (c.clear.ensures.same told) store sets stands)

pub returns-clause-stands : goal.returns-clause-stands
returns-clause-stands g c tells apart store sets stands =
    let told = c.create.ensures.told tells in
    let made = c.in_ok-create.ensures.done tells in
    aside_stands (g.D.Disk.state c.clear.new.disk) (g.D.Disk.state c.create.new.self) c.args.name made.entry.others apart
    made.entry.lost store sets
    (aside_stands (g.D.Disk.state c.args.disk.now) (g.D.Disk.state c.clear.new.disk) c.args.name
    (c.clear.ensures.others told) apart (c.clear.ensures.same told) store sets stands)
