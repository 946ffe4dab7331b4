use Rattle.std.proofs.Common.{◌∙◌}
use Rattle.journal.specs.Journals.{IsSound}
use Rattle.record_store.proofs.Remaining.{beside_then}
use Rattle.archive_pages.specs.Paged.{entries_in}
use Rattle.durable_store.specs.Segments.{octets_of}
use Rattle.durable_store.proofs.Daily.{aside_apart, aside_gains, err_weaker, gains_then, name_apart, on_ok_weaker}
use Rattle.durable_store.proofs.Failing.{keeping_then}
use Rattle.durable_store.proofs.Growth.{aside_grow}
use Rattle.durable_store.proofs.mixed.write_segments.Goals as goal

pub returns-clause-held : goal.returns-clause-held
returns-clause-held g c =
    on_ok_weaker _ _
    (λ held tell sound.
    aside_apart (g.D.Disk.state c.write_both-written.new.disk) (g.D.Disk.state c.drop_draft.new.disk)
    (octets_of c.args.name) (entries_in c.args.set.now) (c.drop_draft.ensures.aside tell) (name_apart c.args.name)
    (held (c.drop_draft.ensures.told tell) sound))
    c.write_both-written.result c.write_both-written.ensures.held

pub returns-clause-sound : goal.returns-clause-sound
returns-clause-sound g c =
    on_ok_weaker _ _
    (λ stays tell sound. (c.drop_draft.ensures.aside tell).lost ∙ stays (c.drop_draft.ensures.told tell) sound)
    c.write_both-written.result c.write_both-written.ensures.sound

pub returns-clause-gains : goal.returns-clause-gains
returns-clause-gains g c tells sound =
    let one = g.D.Disk.state c.write_both-written.new.disk in
    let two = g.D.Disk.state c.drop_draft.new.disk in
    gains_then (g.D.Disk.state c.args.disk.now) one two (octets_of c.args.name) (entries_in c.args.set.now)
    (c.write_both-written.ensures.gains (c.drop_draft.ensures.told tells) sound)
    (aside_gains one two (octets_of c.args.name) (entries_in c.args.set.now) (c.drop_draft.ensures.aside tells)
    (name_apart c.args.name))

pub returns-clause-segments : goal.returns-clause-segments
returns-clause-segments g c tells sound =
    let one = g.D.Disk.state c.write_both-written.new.disk in
    let two = g.D.Disk.state c.drop_draft.new.disk in
    beside_then 65 0 (g.D.Disk.state c.args.disk.now) one two
    (c.write_both-written.ensures.segments (c.drop_draft.ensures.told tells) sound)
    (aside_grow one two (octets_of c.args.name) (c.drop_draft.ensures.aside tells) (name_apart c.args.name))

pub returns-clause-cause : goal.returns-clause-cause
returns-clause-cause g c =
    err_weaker _ _
    (λ fault cause. keeping_then (g.D.Disk.tells c.drop_draft.new.disk) (g.D.Disk.tells c.write_both-written.new.disk)
    (g.D.Disk.has_failed c.drop_draft.new.disk) (g.D.Disk.has_failed c.write_both-written.new.disk)
    (IsSound (g.D.Disk.state c.args.disk.now)) (g.D.Disk.state c.write_both-written.new.disk)
    (g.D.Disk.state c.drop_draft.new.disk) c.args.name c.drop_draft.ensures.told c.drop_draft.ensures.failed
    c.drop_draft.ensures.aside fault cause)
    c.write_both-written.result c.write_both-written.ensures.cause
