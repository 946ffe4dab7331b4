use Rattle.std.proofs.Common.{[], ◌∙◌}
use Rattle.archive_pages.specs.Paged.{entries_in}
use Rattle.journal.specs.Journals.{IsSound}
use Rattle.record_store.specs.Segments.{Drafts}
use Rattle.durable_store.specs.Segments.{octets_of}
use Rattle.durable_store.proofs.Daily.{begun_aside}
use Rattle.durable_store.proofs.Failing.{keeping_less}
use Rattle.durable_store.proofs.Mixing.{mixed_drafted}
use Rattle.durable_store.proofs.Readable.{at_err}
use Rattle.durable_store.proofs.mixed.draft_mixed.Goals as goal

pub returns-clause-aside : goal.returns-clause-aside
returns-clause-aside g c tells =
    let told = c.put_mixed.ensures.told tells in
    begun_aside (g.D.Disk.state c.args.disk.now) (g.D.Disk.state c.begin.new.disk) (g.D.Disk.state c.put_mixed.new.disk)
    c.in_ok-file_name.field-0 c.in_ok-draft.draft.name (octets_of c.args.name) c.in_ok-file_name.ensures
    c.in_ok-draft.ensures.name (c.begin.ensures.others told) (c.begin.ensures.lost told) (c.put_mixed.ensures.aside tells)

pub returns-in_err-put_mixed-clause-aside : goal.returns-in_err-put_mixed-clause-aside
returns-in_err-put_mixed-clause-aside g c tells =
    let told = c.put_mixed.ensures.told tells in
    begun_aside (g.D.Disk.state c.args.disk.now) (g.D.Disk.state c.begin.new.disk) (g.D.Disk.state c.put_mixed.new.disk)
    c.in_ok-file_name.field-0 c.in_ok-draft.draft.name (octets_of c.args.name) c.in_ok-file_name.ensures
    c.in_ok-draft.ensures.name (c.begin.ensures.others told) (c.begin.ensures.lost told) (c.put_mixed.ensures.aside tells)

pub returns-in_err-put_mixed-clause-cause : goal.returns-in_err-put_mixed-clause-cause
returns-in_err-put_mixed-clause-cause g c =
    let fault = c.in_err-put_mixed.field-0.0 in
    at_err c.from_residual-in_err-put_mixed.result fault _ c.from_residual-in_err-put_mixed.ensures.1
    (keeping_less (g.D.Disk.tells c.put_mixed.new.disk) (g.D.Disk.has_failed c.put_mixed.new.disk)
    (Drafts c.in_ok-draft.draft (g.D.Disk.state c.begin.new.disk) []) (IsSound (g.D.Disk.state c.args.disk.now))
    (g.D.Disk.state c.put_mixed.new.disk) fault
    (λ tell. c.in_ok-draft.ensures.begun (c.put_mixed.ensures.told tell)) c.in_err-put_mixed.ensures.cause)

pub returns-clause-drafted : goal.returns-clause-drafted
returns-clause-drafted g c =
    let zero = g.D.Disk.state c.args.disk.now in
    let one = g.D.Disk.state c.begin.new.disk in
    let two = g.D.Disk.state c.put_mixed.new.disk in
    mixed_drafted zero one two (g.D.Disk.tells c.put_mixed.new.disk) c.args.total c.in_ok-draft.draft
    c.put_mixed.new.draft (octets_of c.args.name) (entries_in c.args.set.now)
    (λ tell. c.in_ok-draft.ensures.begun (c.put_mixed.ensures.told tell))
    (λ tell.
    let told = c.put_mixed.ensures.told tell in
    begun_aside zero one two c.in_ok-file_name.field-0 c.in_ok-draft.draft.name (octets_of c.args.name)
    c.in_ok-file_name.ensures c.in_ok-draft.ensures.name (c.begin.ensures.others told) (c.begin.ensures.lost told)
    (c.put_mixed.ensures.aside tell))
    c.in_ok-put_mixed.ensures.put (c.in_ok-draft.ensures.name ∙ c.in_ok-file_name.ensures) c.put_mixed.ensures.name
