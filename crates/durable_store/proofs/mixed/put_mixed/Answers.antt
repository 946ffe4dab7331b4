use Rattle.std.proofs.Common.{List, ℕ, [], ◌∷◌, arith, refl, subst, ◌∙◌}
use Rattle.archive_text.specs.EntryViews.{entry_of}
use Rattle.archive_text.specs.Text.{text_of}
use Rattle.archive_pages.specs.Paged.{entries_from, entries_in}
use Rattle.record_store.specs.Segments.{Drafts, draft_of}
use Rattle.durable_store.specs.Segments.{KeepsAside}
use Rattle.record_store.specs.declared.keeping.KeepFault.TheVariants.{Disk}
use Rattle.durable_store.proofs.Daily.{aside_none, aside_then, days_shorter, written_drafts}
use Rattle.durable_store.proofs.Failing.{draft_cause, keeping_less}
use Rattle.durable_store.proofs.Mixing.{mixed_all, mixed_more, none_mixed}
use Rattle.durable_store.proofs.Readable.{at_err}
use Rattle.durable_store.proofs.mixed.put_mixed.Goals as goal

pub days-init : goal.days-init
days-init g c = record {
  syncs = omega arith;
  told = λ tells. tells;
  name = refl;
  aside = λ tells. aside_none (g.D.Disk.state c.args.disk.now) (draft_of c.args.draft.now);
  put = none_mixed (g.D.Disk.tells c.args.disk.now) c.args.total c.args.draft.now (g.D.Disk.state c.args.disk.now)
      c.new-buffer.result.items (entries_in c.args.set.now) (entries_from c.args.set.now c.first-place.result)
      c.new-buffer.ensures.items (c.first-place.ensures c.args.set.now);
}

pub days-preserved : goal.days-preserved
days-preserved g c = record {
  syncs = omega (arith, c.days.invariant.syncs, c.mix_day.ensures.syncs);
  told = λ tells. c.days.invariant.told (c.mix_day.ensures.told tells);
  name = c.mix_day.ensures.name ∙ c.days.invariant.name;
  aside = λ tells. aside_then (g.D.Disk.state c.args.disk.now) (g.D.Disk.state c.days.disk)
      (g.D.Disk.state c.mix_day.new.disk) (draft_of c.args.draft.now)
      (c.days.invariant.aside (c.mix_day.ensures.told tells))
      (subst (KeepsAside (g.D.Disk.state c.days.disk) (g.D.Disk.state c.mix_day.new.disk))
      c.days.invariant.name (c.mix_day.ensures.aside tells));
  put = mixed_more (g.D.Disk.tells c.mix_day.new.disk) (g.D.Disk.tells c.days.disk) c.args.total c.args.draft.now
      (g.D.Disk.state c.args.disk.now) [] c.days.draft (g.D.Disk.state c.days.disk) c.days.buffer.items
      c.mix_day.new.draft (g.D.Disk.state c.mix_day.new.disk) c.mix_day.new.buffer.items (entries_in c.args.set.now)
      (entries_from c.args.set.now c.days.place)
      (entry_of c.in-Some.entry ∷ entries_from c.args.set.now c.in-Some.behind)
      (entries_from c.args.set.now c.in_ok-place.place) c.mix_day.ensures.told c.days.invariant.put
      c.in-Some.ensures.some c.in_ok-place.ensures.put;
}

pub days-smaller : goal.days-smaller
days-smaller g c =
    days_shorter (entry_of c.in-Some.entry) (entries_from c.args.set.now c.days.place)
    (entries_from c.args.set.now c.in-Some.behind) c.in_ok-place.ensures.put.run
    (entries_from c.args.set.now c.in_ok-place.place) c.in-Some.ensures.some c.in_ok-place.ensures.put.is

pub returns-in_err-place-clause-cause : goal.returns-in_err-place-clause-cause
returns-in_err-place-clause-cause g c =
    let zero = g.D.Disk.state c.args.disk.now in
    let then = g.D.Disk.state c.days.disk in
    let put = c.days.invariant.put in
    let fault = c.in_err-place.field-0.0 in
    at_err c.from_residual.result fault _ c.from_residual.ensures.1
    (keeping_less (g.D.Disk.tells c.mix_day.new.disk) (g.D.Disk.has_failed c.mix_day.new.disk)
    ((text : List ℕ) × Drafts c.days.draft then text) (Drafts c.args.draft.now zero [])
    (g.D.Disk.state c.mix_day.new.disk) fault
    (λ tell known.
    written_drafts (g.D.Disk.tells c.days.disk) c.args.draft.now zero [] c.days.draft then c.days.buffer.items
    (text_of put.mixed) put.puts (c.mix_day.ensures.told tell) ([], known))
    c.in_err-place.ensures.cause)

pub returns-clause-put : goal.returns-clause-put
returns-clause-put g c =
    mixed_all (g.D.Disk.tells c.push.new.disk) (g.D.Disk.tells c.days.disk) c.args.total c.args.draft.now
    (g.D.Disk.state c.args.disk.now) [] c.days.draft (g.D.Disk.state c.days.disk) c.days.buffer.items c.deref.result.now
    c.push.new.self (g.D.Disk.state c.push.new.disk) (entries_in c.args.set.now)
    (entries_from c.args.set.now c.days.place) c.push.ensures.told refl c.deref.ensures.value c.in_default.ensures.none
    c.days.invariant.put c.in_ok-push.ensures.pushed

pub returns-in_err-push-clause-cause : goal.returns-in_err-push-clause-cause
returns-in_err-push-clause-cause g c =
    let zero = g.D.Disk.state c.args.disk.now in
    let then = g.D.Disk.state c.days.disk in
    let put = c.days.invariant.put in
    let fault = c.in_err-push.field-0.0 in
    at_err c.from_residual-in_err-push.result (Disk fault) _ c.from_residual-in_err-push.ensures.1
    (draft_cause (g.D.Disk.tells c.push.new.disk) (g.D.Disk.has_failed c.push.new.disk) (Drafts c.args.draft.now zero [])
    then (g.D.Disk.state c.push.new.disk) c.days.draft fault
    (λ tell known.
    written_drafts (g.D.Disk.tells c.days.disk) c.args.draft.now zero [] c.days.draft then c.days.buffer.items
    (text_of put.mixed) put.puts (c.push.ensures.told tell) ([], known))
    c.in_err-push.ensures.cause)
