use Rattle.std.specs.Prelude.{IsTrue}
use Rattle.std.proofs.lemmas.Grind.{common_steps}
use Rattle.std.proofs.Common.{arith, refl, rules}
use Rattle.archive_pages.specs.Paged.{entries_in}
use Rattle.durable_store.specs.Recovery.{Refutes}
use Rattle.record_store.specs.Holdings.{IsReadable, IsWholeJournal}
use Rattle.record_store.specs.Seals.{HidesBatches}
use Rattle.durable_store.proofs.Recovered.{journal_whole, read_begun, read_more, shorter_rest}
use Rattle.durable_store.proofs.Readable.{at_err, ends_read, journal_read, next_readable, not_sealed_on, not_whole}
use Rattle.durable_store.proofs.Readable.{refutes_more}
use Rattle.durable_store.proofs.recovery.add_batches.Goals as goal

pub batches-init : goal.batches-init
batches-init c = read_begun (entries_in c.args.set.now) c.args.file.now

pub batches-preserved : goal.batches-preserved
batches-preserved c =
    let goes_on : IsTrue c.batches.has_seals → IsTrue c.in_ok-sealed.sealed =
    first_of (search rules, grind (arith, common_steps)) in
    read_more (entries_in c.args.set.now) (entries_in c.batches.set) (entries_in c.add_batch.new.set)
    c.args.file.now
    c.batches.rest.now c.in-Some.body.now c.in-Some.behind.now c.batches.has_seals c.batches.invariant
    c.in-Some.ensures.some c.in_ok-sealed.ensures.adds c.in_ok-sealed.ensures.whole c.in_ok-sealed.sealed
    c.in_ok-sealed.ensures.sealed goes_on

pub batches-smaller : goal.batches-smaller
batches-smaller c =
    shorter_rest c.batches.rest.now c.in-Some.body.now c.in-Some.behind.now c.in-Some.ensures.some

pub returns-clause-adds : goal.returns-clause-adds
returns-clause-adds c =
    journal_whole (entries_in c.args.set.now) (entries_in c.batches.set) c.args.file.now c.batches.rest.now
    c.batches.invariant.added c.in_default.ensures.none

pub returns-clause-whole : goal.returns-clause-whole
returns-clause-whole c =
    let shows : ¬ (HidesBatches c.batches.rest.now) = search rules in
    journal_read (entries_in c.args.set.now) (entries_in c.batches.set) c.args.file.now c.batches.rest.now
    c.batches.invariant.added c.in_default.ensures.none shows

pub returns-then-hides_batches-clause-fault : goal.returns-then-hides_batches-clause-fault
returns-then-hides_batches-clause-fault c = (
  refl,
  not_whole (entries_in c.args.set.now) (entries_in c.batches.set) c.args.file.now c.batches.rest.now
      c.batches.invariant.added c.in_default.ensures.none (c.hides_batches.ensures.0 c.if-hides_batches.true),
)

pub returns-in_err-sealed-clause-fault : goal.returns-in_err-sealed-clause-fault
returns-in_err-sealed-clause-fault c =
    at_err c.from_residual.result c.in_err-sealed.field-0.0
    (Refutes c.args.number (IsWholeJournal c.args.file.now)) c.from_residual.ensures.1
    (refutes_more c.args.number (IsReadable c.in-Some.body.now) (IsWholeJournal c.args.file.now)
    c.in_err-sealed.field-0.0
    (λ w. next_readable (entries_in c.args.set.now) (entries_in c.batches.set) c.args.file.now c.batches.rest.now
    c.in-Some.body.now c.in-Some.behind.now c.batches.invariant.added c.in-Some.ensures.some w)
    c.in_err-sealed.ensures.fault)

pub returns-then-not-sealed-clause-fault : goal.returns-then-not-sealed-clause-fault
returns-then-not-sealed-clause-fault c =
    let on : IsTrue c.batches.has_seals = first_of (search rules, grind (arith, common_steps)) in
    let off : IsTrue c.in_ok-sealed.sealed → ⊥ = first_of (search rules, grind (arith, common_steps)) in (
      refl,
      not_sealed_on (entries_in c.args.set.now) (entries_in c.batches.set) c.args.file.now c.batches.rest.now
          c.in-Some.body.now c.in-Some.behind.now c.batches.invariant.added c.in-Some.ensures.some
          (c.batches.invariant.seals.0 on) (λ sealed. off (c.in_ok-sealed.ensures.sealed.1 sealed)),
    )

pub returns-clause-ends : goal.returns-clause-ends
returns-clause-ends c =
    ends_read (entries_in c.args.set.now) (entries_in c.batches.set) c.args.file.now c.batches.rest.now _
    c.batches.invariant.added c.in_default.ensures.none (omega arith)
