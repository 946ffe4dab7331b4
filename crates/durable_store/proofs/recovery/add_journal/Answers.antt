use Rattle.std.proofs.Common.{List, ℕ, arith, inl, inr, subst, sym, refl, ap, drop, length, ◌∙◌}
use Rattle.record_store.specs.Holdings.{IsWholeJournal, JournalHas}
use Rattle.archive_pages.specs.Paged.{entries_in}
use Rattle.durable_store.specs.Asides.{IsBehind}
use Rattle.durable_store.specs.Causes.{IsReadingCause}
use Rattle.durable_store.specs.Recovery.{Adds}
use Rattle.durable_store.specs.declared.fault.OpenFault.TheVariants.{Store}
use Rattle.durable_store.proofs.Journals.{behind_of, one_behind, reading_refuted}
use Rattle.durable_store.proofs.Readable.{at_err}
use Rattle.durable_store.proofs.recovery.add_journal.Goals as goal

pub returns-in_err-end-clause-cause : goal.returns-in_err-end-clause-cause
returns-in_err-end-clause-cause g c =
    let tells_then = g.D.Disk.tells c.read_journal.new.disk in
    let failed_then = g.D.Disk.has_failed c.read_journal.new.disk in
    let zero = g.D.Disk.state c.args.disk.now in
    let fault = c.in_err-end.field-0.0 in
    at_err c.from_residual-in_err-end.result fault (IsReadingCause tells_then failed_then zero c.args.number)
    c.from_residual-in_err-end.ensures.1
    (reading_refuted tells_then failed_then zero c.args.number c.deref.result.now fault
    (λ tells sound octets shown. c.deref.ensures.value ∙ c.in_ok-octets.ensures.read tells sound octets shown)
    c.in_err-end.ensures.fault)

pub returns-then-behind-le1-clause-adds : goal.returns-then-behind-le1-clause-adds
returns-then-behind-le1-clause-adds g c tells sound octets shown =
    let same = c.deref.ensures.value ∙ c.in_ok-octets.ensures.read tells sound octets shown in
    record {
      adds = subst (λ (o : List ℕ). Adds (entries_in c.args.set.now) (entries_in c.add_batches.new.set) (JournalHas o)) same
          c.in_ok-end.ensures.adds;
      whole = subst IsWholeJournal same c.in_ok-end.ensures.whole;
      behind = inl (
        refl,
        λ others is. omega (
          arith,
          ap length (one_behind octets others c.split_at.result.1.now is
              (behind_of octets c.deref.result.now c.split_at.result.1.now c.in_ok-end.end same
              c.in_ok-end.ensures.ends (c.split_at.ensures.back ∙ ap (drop c.in_ok-end.end) (c.deref-2.ensures.value ∙ sym c.deref.ensures.value)))),
        ),
      );
    }

pub returns-in_err-octets-clause-cause : goal.returns-in_err-octets-clause-cause
returns-in_err-octets-clause-cause g c =
    let tells_then = g.D.Disk.tells c.read_journal.new.disk in
    let failed_then = g.D.Disk.has_failed c.read_journal.new.disk in
    let fault = c.in_err-octets.field-0.0 in
    at_err c.from_residual.result (Store fault)
    (IsReadingCause tells_then failed_then (g.D.Disk.state c.args.disk.now) c.args.number) c.from_residual.ensures.1
    c.in_err-octets.ensures.cause

pub returns-in-Ok-clause-adds : goal.returns-in-Ok-clause-adds
returns-in-Ok-clause-adds g c tells sound octets shown =
    let same = c.deref.ensures.value ∙ c.in_ok-octets.ensures.read tells sound octets shown in
    let behind = behind_of octets c.deref.result.now c.split_at.result.1.now c.in_ok-end.end same
    c.in_ok-end.ensures.ends (c.split_at.ensures.back ∙ ap (drop c.in_ok-end.end) (c.deref-2.ensures.value ∙ sym c.deref.ensures.value)) in
    let copied = c.in_ok-octets-2.ensures.items_if_clones_equal (λ x y same. same) in
    record {
      adds = subst (λ (o : List ℕ). Adds (entries_in c.args.set.now) (entries_in c.add_batches.new.set) (JournalHas o)) same
          c.in_ok-end.ensures.adds;
      whole = subst IsWholeJournal same c.in_ok-end.ensures.whole;
      behind = inr (
        _,
        c.in-Ok.ensures.items,
        record {
          number_is = refl;
          more = omega (arith, ap length copied);
          behind = subst (IsBehind octets) (sym copied) behind;
        },
      );
    }
