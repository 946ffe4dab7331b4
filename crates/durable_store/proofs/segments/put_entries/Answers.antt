use Rattle.std.proofs.Common.{List, ℕ, ◌∷◌, arith, subst, ◌∙◌}
use Rattle.archive_text.specs.EntryViews.{entry_of}
use Rattle.archive_text.specs.Text.{text_of}
use Rattle.archive_pages.specs.Paged.{entries_from}
use Rattle.record_store.specs.Segments.{Drafts, draft_of}
use Rattle.durable_store.specs.Segments.{KeepsAside}
use Rattle.durable_store.proofs.Daily.{aside_then, entries_all, entries_first, entries_more, written_drafts}
use Rattle.durable_store.proofs.Failing.{keeping_less}
use Rattle.durable_store.proofs.Readable.{at_err}
use Rattle.durable_store.proofs.segments.put_entries.Goals as goal

pub entries-init : goal.entries-init
entries-init g c = record {
  syncs = c.put_entry.ensures.syncs;
  told = c.put_entry.ensures.told;
  name = c.put_entry.ensures.name;
  aside = c.put_entry.ensures.aside;
  put = entries_first (g.D.Disk.tells c.put_entry.new.disk) c.args.draft.now (g.D.Disk.state c.args.disk.now)
      c.args.buffer.now.items c.put_entry.new.draft (g.D.Disk.state c.put_entry.new.disk) c.put_entry.new.buffer.items
      c.args.day.now (entry_of c.args.first.now) (entries_from c.args.set.now c.args.behind)
      c.in_ok-put_entry.ensures.put;
}

pub entries-preserved : goal.entries-preserved
entries-preserved g c = record {
  syncs = omega (arith, c.entries.invariant.syncs, c.put_entry-in-Some.ensures.syncs);
  told = λ tells. c.entries.invariant.told (c.put_entry-in-Some.ensures.told tells);
  name = c.put_entry-in-Some.ensures.name ∙ c.entries.invariant.name;
  aside = λ tells. aside_then (g.D.Disk.state c.args.disk.now) (g.D.Disk.state c.entries.disk)
      (g.D.Disk.state c.put_entry-in-Some.new.disk) (draft_of c.args.draft.now)
      (c.entries.invariant.aside (c.put_entry-in-Some.ensures.told tells))
      (subst (KeepsAside (g.D.Disk.state c.entries.disk) (g.D.Disk.state c.put_entry-in-Some.new.disk))
      c.entries.invariant.name (c.put_entry-in-Some.ensures.aside tells));
  put = entries_more (g.D.Disk.tells c.put_entry-in-Some.new.disk) (g.D.Disk.tells c.entries.disk) c.args.draft.now
      (g.D.Disk.state c.args.disk.now) c.args.buffer.now.items c.entries.draft (g.D.Disk.state c.entries.disk)
      c.entries.buffer.items c.put_entry-in-Some.new.draft (g.D.Disk.state c.put_entry-in-Some.new.disk)
      c.put_entry-in-Some.new.buffer.items c.args.day.now (entry_of c.args.first.now)
      (entries_from c.args.set.now c.args.behind) (entries_from c.args.set.now c.entries.place)
      (entries_from c.args.set.now c.in-Some.next) (entry_of c.in-Some.entry) c.put_entry-in-Some.ensures.told
      c.entries.invariant.put c.in-Some.ensures.some c.in_ok-put_entry-2.ensures.put;
}

pub returns-clause-put : goal.returns-clause-put
returns-clause-put g c =
    entries_all (g.D.Disk.tells c.entries.disk) c.args.draft.now (g.D.Disk.state c.args.disk.now)
    c.args.buffer.now.items c.entries.draft (g.D.Disk.state c.entries.disk) c.entries.buffer.items c.args.day.now
    (entry_of c.args.first.now) (entries_from c.args.set.now c.args.behind)
    (entries_from c.args.set.now c.entries.place) c.entries.invariant.put c.in_default.ensures.none

pub returns-in_err-put_entry-2-clause-cause : goal.returns-in_err-put_entry-2-clause-cause
returns-in_err-put_entry-2-clause-cause g c =
    let zero = g.D.Disk.state c.args.disk.now in
    let then = g.D.Disk.state c.entries.disk in
    let new = g.D.Disk.state c.put_entry-in-Some.new.disk in
    let put = c.entries.invariant.put in
    let fault = c.in_err-put_entry-2.field-0.0 in
    at_err c.from_residual-in_err-put_entry-2.result fault _ c.from_residual-in_err-put_entry-2.ensures.1
    (keeping_less (g.D.Disk.tells c.put_entry-in-Some.new.disk) (g.D.Disk.has_failed c.put_entry-in-Some.new.disk)
    ((text : List ℕ) × Drafts c.entries.draft then text) ((text : List ℕ) × Drafts c.args.draft.now zero text) new fault
    (λ tell known.
    written_drafts (g.D.Disk.tells c.entries.disk) c.args.draft.now zero c.args.buffer.now.items c.entries.draft then
    c.entries.buffer.items (text_of (entry_of c.args.first.now ∷ put.front)) put.puts
    (c.put_entry-in-Some.ensures.told tell) known)
    c.in_err-put_entry-2.ensures.cause)
