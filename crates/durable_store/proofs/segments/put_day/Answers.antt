use Rattle.std.proofs.Common.{List, ℕ, [], ◌∷◌}
use Rattle.archive_text.specs.EntryViews.{entry_of}
use Rattle.archive_text.specs.Text.{text_of}
use Rattle.archive_pages.specs.Paged.{entries_from}
use Rattle.record_store.specs.Segments.{Drafts}
use Rattle.record_store.specs.declared.keeping.KeepFault.TheVariants.{Disk}
use Rattle.durable_store.proofs.Daily.{day_pushed, written_drafts}
use Rattle.durable_store.proofs.Failing.{draft_cause, keeping_less}
use Rattle.durable_store.proofs.Readable.{at_err}
use Rattle.durable_store.proofs.segments.put_day.Goals as goal

pub returns-clause-put : goal.returns-clause-put
returns-clause-put g c =
    day_pushed (g.D.Disk.tells c.push.new.disk) (g.D.Disk.tells c.put_entries.new.disk) c.args.draft.now
    (g.D.Disk.state c.args.disk.now) c.new-buffer.result.items c.put_entries.new.draft
    (g.D.Disk.state c.put_entries.new.disk) c.put_entries.new.buffer.items c.deref.result.now c.push.new.self
    (g.D.Disk.state c.push.new.disk) c.args.day.now (entry_of c.args.first.now)
    (entries_from c.args.set.now c.args.behind) (entries_from c.args.set.now c.in_ok-place.place) c.push.ensures.told
    c.new-buffer.ensures.items c.deref.ensures.value c.in_ok-place.ensures.put c.in_ok-push.ensures.pushed

pub returns-in_err-place-clause-cause : goal.returns-in_err-place-clause-cause
returns-in_err-place-clause-cause g c =
    let zero = g.D.Disk.state c.args.disk.now in
    let fault = c.in_err-place.field-0.0 in
    at_err c.from_residual.result fault _ c.from_residual.ensures.1
    (keeping_less (g.D.Disk.tells c.put_entries.new.disk) (g.D.Disk.has_failed c.put_entries.new.disk)
    ((text : List ℕ) × Drafts c.args.draft.now zero text) (Drafts c.args.draft.now zero [])
    (g.D.Disk.state c.put_entries.new.disk) fault (λ tell known. ([], known)) c.in_err-place.ensures.cause)

pub returns-in_err-push-clause-cause : goal.returns-in_err-push-clause-cause
returns-in_err-push-clause-cause g c =
    let zero = g.D.Disk.state c.args.disk.now in
    let then = g.D.Disk.state c.put_entries.new.disk in
    let put = c.in_ok-place.ensures.put in
    let fault = c.in_err-push.field-0.0 in
    at_err c.from_residual-in_err-push.result (Disk fault) _ c.from_residual-in_err-push.ensures.1
    (draft_cause (g.D.Disk.tells c.push.new.disk) (g.D.Disk.has_failed c.push.new.disk) (Drafts c.args.draft.now zero [])
    then (g.D.Disk.state c.push.new.disk) c.put_entries.new.draft fault
    (λ tell known.
    written_drafts (g.D.Disk.tells c.put_entries.new.disk) c.args.draft.now zero c.new-buffer.result.items
    c.put_entries.new.draft then c.put_entries.new.buffer.items
    (text_of (entry_of c.args.first.now ∷ put.front)) put.puts (c.push.ensures.told tell) ([], known))
    c.in_err-push.ensures.cause)
