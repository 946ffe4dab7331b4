use Rattle.store_reading.proofs.Whole.{on_ok_more}
use Rattle.store_backup.proofs.Placing.{free_then, place_then}
use Rattle.store_backup.proofs.draft.place.Goals as goal

pub returns-clause-placed : goal.returns-clause-placed
returns-clause-placed g c tells files text drafted free =
    let zero = g.D.Disk.state c.args.target.now in
    let one = g.D.Disk.state c.settle.new.target in
    let told = c.rename.ensures.told tells in
    let others = c.settle.ensures.others told in
    place_then files zero one (g.D.Disk.state c.rename.new.target) c.args.draft.now c.args.name.now others
    (c.rename.ensures.placed tells files text (c.in_ok-settle.ensures.settled told text drafted)
    (free_then files zero one c.args.draft.now c.args.name.now text others free))

pub returns-clause-there : goal.returns-clause-there
returns-clause-there g c =
    let zero = g.D.Disk.state c.args.target.now in
    let one = g.D.Disk.state c.settle.new.target in
    on_ok_more c.rename.result
    (λ there tells files text drafted free. let told = c.rename.ensures.told tells in
    there tells files text (c.in_ok-settle.ensures.settled told text drafted)
    (free_then files zero one c.args.draft.now c.args.name.now text (c.settle.ensures.others told) free))
    c.rename.ensures.there
