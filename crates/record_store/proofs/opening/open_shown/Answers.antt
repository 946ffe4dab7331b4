use Rattle.record_store.specs.Causes.{shown_causes}
use Rattle.record_store.proofs.Asides.{others_then}
use Rattle.record_store.proofs.Causing.{journal_cause}
use Rattle.record_store.proofs.Opened.{open_keeps, open_shows, settle_keeps, settled_on_disk, settled_shows}
use Rattle.record_store.proofs.opening.open_shown.Goals as goal

pub returns-in-Err-clause-any_moment : goal.returns-in-Err-clause-any_moment
returns-in-Err-clause-any_moment g c tells sound is octets shown committed received keeps =
    settle_keeps (g.D.Disk.state c.args.disk.now) (g.D.Disk.state c.settle.new.disk) c.args.name octets is sound shown
    (c.settle.ensures.others tells) (c.settle.ensures.leaves tells) committed received keeps

pub returns-in-Err-clause-shows : goal.returns-in-Err-clause-shows
returns-in-Err-clause-shows g c tells sound octets shown =
    settled_shows (g.D.Disk.state c.args.disk.now) (g.D.Disk.state c.settle.new.disk) c.args.name
    (c.settle.ensures.shows tells)

pub returns-clause-any_moment : goal.returns-clause-any_moment
returns-clause-any_moment g c tells sound is octets shown committed received keeps =
    let zero = g.D.Disk.state c.args.disk.now in
    let one = g.D.Disk.state c.settle.new.disk in
    let two = g.D.Disk.state c.open.new.disk in
    let told = c.open.ensures.told tells in
    let at = settled_on_disk zero one c.args.name octets sound shown (c.in_default.ensures.on_disk told) in
    open_keeps one two c.args.name octets at (c.open.ensures.any_moment tells) (c.open.ensures.others tells) is
    committed received
    (settle_keeps zero one c.args.name octets is sound shown (c.settle.ensures.others told)
    (c.settle.ensures.leaves told) committed received keeps)

pub returns-clause-shows : goal.returns-clause-shows
returns-clause-shows g c tells sound octets shown =
    let zero = g.D.Disk.state c.args.disk.now in
    let one = g.D.Disk.state c.settle.new.disk in
    let told = c.open.ensures.told tells in
    let at = settled_on_disk zero one c.args.name octets sound shown (c.in_default.ensures.on_disk told) in
    open_shows one (g.D.Disk.state c.open.new.disk) c.args.name octets at (c.open.ensures.any_moment tells)
    (c.open.ensures.others tells) zero (c.settle.ensures.shows told)

pub returns-clause-cause : goal.returns-clause-cause
returns-clause-cause g c =
    journal_cause c.open.result
    (shown_causes (g.D.Disk.tells c.open.new.disk) (g.D.Disk.has_failed c.open.new.disk) (g.D.Disk.state c.args.disk.now)
    c.args.name)
    c.open.ensures.failed c.open.ensures.full
    (λ missing tells sound octets shown.
    let told = c.open.ensures.told tells in
    c.open.ensures.not_missing tells octets (settled_on_disk (g.D.Disk.state c.args.disk.now)
    (g.D.Disk.state c.settle.new.disk) c.args.name octets sound shown (c.in_default.ensures.on_disk told)) missing)
    (λ exists tells sound octets shown. c.open.ensures.not_exists tells exists)
    (λ long tells sound octets shown.
    let told = c.open.ensures.told tells in
    c.open.ensures.too_long tells long octets (settled_on_disk (g.D.Disk.state c.args.disk.now)
    (g.D.Disk.state c.settle.new.disk) c.args.name octets sound shown (c.in_default.ensures.on_disk told)))

pub returns-clause-others : goal.returns-clause-others
returns-clause-others g c tells =
    others_then (g.D.Disk.state c.args.disk.now) (g.D.Disk.state c.settle.new.disk) (g.D.Disk.state c.open.new.disk)
    c.args.name (c.settle.ensures.others (c.open.ensures.told tells)) (c.open.ensures.others tells)
