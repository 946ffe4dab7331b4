use Rattle.std.specs.Prelude.{IsTrue}
use Rattle.std.proofs.lemmas.Grind.{common_steps}
use Rattle.std.proofs.Common.{arith, rules}
use Rattle.store_reading.specs.Damages.{IsDamagedJournal, Tells}
use Rattle.store_reading.specs.Sources.{set_entries}
use Rattle.store_reading.specs.declared.fault.CheckFault.{CheckFault}
use Rattle.store_reading.proofs.Batched.{journal_whole, read_begun, read_more, shorter_rest}
use Rattle.store_reading.proofs.Causing.{at_err}
use Rattle.store_reading.proofs.Damaged.{journal_damaged, unsealed_damaged}
use Rattle.store_reading.proofs.Whole.{journal_read}
use Rattle.store_reading.proofs.journals.add_batches.Goals as goal

pub batches-init : goal.batches-init
batches-init c = read_begun (set_entries c.args.set.now) c.args.file.now

pub batches-preserved : goal.batches-preserved
batches-preserved c =
    let goes_on : IsTrue c.batches.has_seals → IsTrue c.in_ok-sealed.sealed =
    first_of (search rules, grind (arith, common_steps)) in
    read_more (set_entries c.args.set.now) (set_entries c.batches.set) (set_entries c.add_batch.new.set)
    c.args.file.now
    c.batches.rest.now c.in-Some.body.now c.in-Some.behind.now c.batches.has_seals c.batches.invariant
    c.in-Some.ensures.some c.in_ok-sealed.ensures.adds c.in_ok-sealed.ensures.whole c.in_ok-sealed.sealed
    c.in_ok-sealed.ensures.sealed goes_on

pub batches-smaller : goal.batches-smaller
batches-smaller c =
    shorter_rest c.batches.rest.now c.in-Some.body.now c.in-Some.behind.now c.in-Some.ensures.some

pub returns-clause-adds : goal.returns-clause-adds
returns-clause-adds c =
    journal_whole (set_entries c.args.set.now) (set_entries c.batches.set) c.args.file.now c.batches.rest.now
    c.batches.invariant.added c.in_default.ensures.none

pub returns-clause-readable : goal.returns-clause-readable
returns-clause-readable c =
    journal_read (set_entries c.args.set.now) (set_entries c.batches.set) c.args.file.now c.batches.rest.now
    c.batches.invariant.added c.in_default.ensures.none

pub returns-in_err-sealed-clause-damaged : goal.returns-in_err-sealed-clause-damaged
returns-in_err-sealed-clause-damaged c =
    let fault = c.in_err-sealed.field-0.0 in
    at_err c.from_residual.result fault (λ (f : CheckFault). Tells f (IsDamagedJournal c.args.file.now))
    c.from_residual.ensures.1
    (journal_damaged (set_entries c.args.set.now) (set_entries c.batches.set) c.args.file.now c.batches.rest.now
    c.in-Some.body.now c.in-Some.behind.now _ fault c.batches.invariant.added c.in-Some.ensures.some (omega arith) (omega arith)
    c.in_err-sealed.ensures.damaged)

pub returns-then-not-sealed-clause-damaged : goal.returns-then-not-sealed-clause-damaged
returns-then-not-sealed-clause-damaged c =
    let on : IsTrue c.batches.has_seals = first_of (search rules, grind (arith, common_steps)) in
    let off : IsTrue c.in_ok-sealed.sealed → ⊥ = first_of (search rules, grind (arith, common_steps)) in
    unsealed_damaged (set_entries c.args.set.now) (set_entries c.batches.set) c.args.file.now c.batches.rest.now
    c.in-Some.body.now c.in-Some.behind.now c.saturating_sub-end.result c.batches.invariant.added c.in-Some.ensures.some
    (c.batches.invariant.seals.0 on) c.in_ok-sealed.ensures.whole (λ sealed. off (c.in_ok-sealed.ensures.sealed.1 sealed)) (omega arith)
