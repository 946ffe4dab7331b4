use Rattle.std.proofs.Common.{◌∙◌, refl}
use Rattle.store_upkeep.specs.Compaction.{shown}
use Rattle.store_expiry.proofs.Causing.{fault_aside, left_over}
use Rattle.store_expiry.proofs.Resting.{others_after, others_dropped, others_named, others_still, ready_rest}
use Rattle.store_expiry.proofs.Resting.{rest_there}
use Rattle.store_expiry.proofs.rest.prepare_rest.Goals as goal

pub returns-in_err-write_rest-clause-others : goal.returns-in_err-write_rest-clause-others
returns-in_err-write_rest-clause-others g c t =
    others_named (g.D.Disk.state c.args.disk.now) (g.D.Disk.state c.write_rest.new.disk) c.in_ok-draft.draft _
    c.in_ok-draft.ensures (c.write_rest.ensures.others t)

pub returns-in-Ok-clause-others : goal.returns-in-Ok-clause-others
returns-in-Ok-clause-others g c t =
    others_still (g.D.Disk.state c.args.disk.now) (g.D.Disk.state c.write_rest.new.disk)
    (g.D.Disk.state c.name_of_rest.new.disk) c.in_ok-draft.draft _ c.in_ok-draft.ensures
    (c.write_rest.ensures.others (c.name_of_rest.ensures.told t)) (c.name_of_rest.ensures.same t)

pub returns-in-Ok-clause-ready : goal.returns-in-Ok-clause-ready
returns-in-Ok-clause-ready g c t sound es file =
    let one = g.D.Disk.state c.write_rest.new.disk in
    let two = g.D.Disk.state c.name_of_rest.new.disk in
    let told = c.name_of_rest.ensures.told t in
    let rest = c.in_ok-write_rest.ensures.rest told sound es file.archive.archive file.file in
    ready_rest c.args.expired.now one two c.in_ok-draft.draft c.in-Ok.name c.args.period.now es rest
    c.in_ok-draft.ensures (c.name_of_rest.ensures.same t) file.archive.archive
    (c.in-Ok.ensures.free t rest.draft_is.sound rest.left
    (rest_there c.args.expired.now one two c.in_ok-draft.draft c.in-Ok.name c.args.period.now es rest
    c.in_ok-draft.ensures (c.name_of_rest.ensures.same t) file.archive.archive))

pub returns-in-Err-clause-others : goal.returns-in-Err-clause-others
returns-in-Err-clause-others g c t =
    let told = c.discard.ensures.told t in
    others_dropped (g.D.Disk.state c.args.disk.now) (g.D.Disk.state c.write_rest.new.disk)
    (g.D.Disk.state c.name_of_rest.new.disk) (g.D.Disk.state c.discard.new.disk) c.in_ok-draft.draft _
    c.in_ok-draft.ensures (c.write_rest.ensures.others (c.name_of_rest.ensures.told told))
    (c.name_of_rest.ensures.same told) (c.discard.ensures.others t)

pub returns-in-Err-clause-cause : goal.returns-in-Err-clause-cause
returns-in-Err-clause-cause g c t sound es whole n =
    let x = c.args.expired.now in
    let zero = g.D.Disk.state c.args.disk.now in
    let one = g.D.Disk.state c.write_rest.new.disk in
    let two = g.D.Disk.state c.name_of_rest.new.disk in
    let three = g.D.Disk.state c.discard.new.disk in
    let draft = c.in_ok-draft.draft in
    let t_two = c.discard.ensures.told t in
    let t_one = c.name_of_rest.ensures.told t_two in
    let file = whole.is_file in
    let rest = c.in_ok-write_rest.ensures.rest t_one sound es file.archive.archive file.file in
    let same = c.name_of_rest.ensures.same t_two in
    let others = c.write_rest.ensures.others t_one in
    fault_aside x one three
    (others_after one two three draft _ c.in_ok-draft.ensures same (c.discard.ensures.others t)) n n c.in-Err.fault
    (c.in-Err.ensures.cause t_two rest.draft_is.sound rest.left
    (rest_there x one two draft draft c.args.period.now es rest c.in_ok-draft.ensures same file.archive.archive)
    (left_over x zero one c.args.name.now c.args.period.now es rest.left
    (others_named zero one draft _ c.in_ok-draft.ensures others) whole rest.selection) n)
