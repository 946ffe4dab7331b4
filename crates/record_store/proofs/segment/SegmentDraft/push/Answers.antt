use Rattle.std.proofs.Common.{⊎_elim}
use Rattle.record_store.proofs.Drafted.{aside_stands}
use Rattle.record_store.proofs.segment.SegmentDraft.push.Goals as goal

pub returns-in_err-append-clause-stands : goal.returns-in_err-append-clause-stands
returns-in_err-append-clause-stands g c tells apart store sets stands =
    let done = (c.in_err-append.ensures.done tells).done in
    aside_stands (g.D.Disk.state c.args.disk.now) (g.D.Disk.state c.append.new.self) c.args.self.now.name
    (λ other differs. ⊎_elim (λ same. same.entries other) (λ part. part.1.entry.others other differs) done) apart
    (⊎_elim (λ same. same.lost) (λ part. part.1.entry.lost) done) store sets stands

pub returns-clause-stands : goal.returns-clause-stands
returns-clause-stands g c tells apart store sets stands =
    let done = c.in_ok-append.ensures.done tells in
    aside_stands (g.D.Disk.state c.args.disk.now) (g.D.Disk.state c.append.new.self) c.args.self.now.name
    done.entry.others apart done.entry.lost store sets stands
