use Rattle.std.proofs.Common.{[], ◌∙◌}
use Rattle.archive_text.specs.EntryViews.{entry_of}
use Rattle.archive_pages.specs.Paged.{entries_from}
use Rattle.journal.specs.Journals.{IsSound}
use Rattle.record_store.specs.Segments.{Drafts}
use Rattle.durable_store.specs.Segments.{octets_of}
use Rattle.durable_store.proofs.Daily.{begun_aside, day_drafted}
use Rattle.durable_store.proofs.Failing.{keeping_less}
use Rattle.durable_store.proofs.Readable.{at_err}
use Rattle.durable_store.proofs.segments.draft_day.Goals as goal

pub returns-clause-aside : goal.returns-clause-aside
returns-clause-aside g c tells =
    let told = c.put_day.ensures.told tells in
    begun_aside (g.D.Disk.state c.args.disk.now) (g.D.Disk.state c.begin.new.disk) (g.D.Disk.state c.put_day.new.disk)
    c.in_ok-file_name.field-0 c.in_ok-draft.draft.name (octets_of c.args.name) c.in_ok-file_name.ensures
    c.in_ok-draft.ensures.name (c.begin.ensures.others told) (c.begin.ensures.lost told) (c.put_day.ensures.aside tells)

pub returns-in_err-place-clause-aside : goal.returns-in_err-place-clause-aside
returns-in_err-place-clause-aside g c tells =
    let told = c.put_day.ensures.told tells in
    begun_aside (g.D.Disk.state c.args.disk.now) (g.D.Disk.state c.begin.new.disk) (g.D.Disk.state c.put_day.new.disk)
    c.in_ok-file_name.field-0 c.in_ok-draft.draft.name (octets_of c.args.name) c.in_ok-file_name.ensures
    c.in_ok-draft.ensures.name (c.begin.ensures.others told) (c.begin.ensures.lost told) (c.put_day.ensures.aside tells)

pub returns-in_err-place-clause-cause : goal.returns-in_err-place-clause-cause
returns-in_err-place-clause-cause g c =
    let fault = c.in_err-place.field-0.0 in
    at_err c.from_residual-in_err-place.result fault _ c.from_residual-in_err-place.ensures.1
    (keeping_less (g.D.Disk.tells c.put_day.new.disk) (g.D.Disk.has_failed c.put_day.new.disk)
    (Drafts c.in_ok-draft.draft (g.D.Disk.state c.begin.new.disk) []) (IsSound (g.D.Disk.state c.args.disk.now))
    (g.D.Disk.state c.put_day.new.disk) fault
    (λ tell. c.in_ok-draft.ensures.begun (c.put_day.ensures.told tell)) c.in_err-place.ensures.cause)

pub returns-clause-drafted : goal.returns-clause-drafted
returns-clause-drafted g c =
    let zero = g.D.Disk.state c.args.disk.now in
    let one = g.D.Disk.state c.begin.new.disk in
    let two = g.D.Disk.state c.put_day.new.disk in
    day_drafted zero one two (g.D.Disk.tells c.put_day.new.disk) c.in_ok-draft.draft c.put_day.new.draft
    (octets_of c.args.name) c.args.day.now (entry_of c.args.first.now) (entries_from c.args.set.now c.args.behind)
    (entries_from c.args.set.now c.in_ok-place.place) c.requires
    (λ tell. c.in_ok-draft.ensures.begun (c.put_day.ensures.told tell))
    (λ tell.
    let told = c.put_day.ensures.told tell in
    begun_aside zero one two c.in_ok-file_name.field-0 c.in_ok-draft.draft.name (octets_of c.args.name)
    c.in_ok-file_name.ensures c.in_ok-draft.ensures.name (c.begin.ensures.others told) (c.begin.ensures.lost told)
    (c.put_day.ensures.aside tell))
    c.in_ok-place.ensures.put (c.in_ok-draft.ensures.name ∙ c.in_ok-file_name.ensures) c.put_day.ensures.name
