use Rattle.std.proofs.Common.{◌≡◌, ◌≢◌, ◌++◌, [], IsTrue, List, arith, false, rules, ℕ}
use Rattle.record_store.specs.Holdings.{IsSealedBatch}
use Rattle.record_store.specs.Seals.{Seals}
use Rattle.store_reading.specs.Sources.{set_entries}
use Rattle.store_reading.specs.Damages.{IsDamagedBatch, Tells}
use Rattle.store_reading.specs.declared.fault.CheckFault.{CheckFault}
use Rattle.store_reading.proofs.Batched.{batch_begun, batch_more, batch_read, batch_sealed, batch_whole, no_more}
use Rattle.store_reading.proofs.Causing.{at_err}
use Rattle.store_reading.proofs.Damaged.{batch_damaged, seal_result}
use Rattle.store_reading.proofs.Parted.{shorter}
use Rattle.store_reading.proofs.Whole.{on_ok_more, sealed_more}
use Rattle.store_reading.proofs.journals.add_batch.Goals as goal

pub entries-init : goal.entries-init
entries-init c = batch_begun (set_entries c.args.set.now) c.args.body.now

pub entries-preserved : goal.entries-preserved
entries-preserved c =
    let a = c.in_ok-rest.ensures.adds in
    batch_more (set_entries c.args.set.now) (set_entries c.entries.set) (set_entries c.add_first.new.set)
    c.args.body.now
    c.entries.rest.now c.in_ok-rest.rest.now a.0 c.entries.invariant a.1 a.2

pub entries-smaller : goal.entries-smaller
entries-smaller c = let a = c.in_ok-rest.ensures.adds in shorter c.entries.rest.now a.0 c.in_ok-rest.rest.now a.1

pub returns-clause-adds : goal.returns-clause-adds
returns-clause-adds c =
    let b = c.entries.invariant in
    on_ok_more c.check_seal.result
    (λ sealed. batch_whole (set_entries c.args.set.now) (set_entries c.entries.set) c.args.body.now c.entries.rest.now b
    (sealed _ b.parts)) c.check_seal.ensures.sealed

pub returns-clause-whole : goal.returns-clause-whole
returns-clause-whole c =
    let b = c.entries.invariant in
    on_ok_more c.check_seal.result
    (λ sealed. batch_read (set_entries c.args.set.now) (set_entries c.entries.set) c.args.body.now c.entries.rest.now b
    (sealed _ b.parts)) c.check_seal.ensures.sealed

pub returns-clause-sealed : goal.returns-clause-sealed
returns-clause-sealed c =
    let b = c.entries.invariant in
    sealed_more c.check_seal.result
    ((text : List ℕ) → c.args.body.now ≡ text ++ c.entries.rest.now → Seals text c.entries.rest.now)
    (c.entries.rest.now ≢ []) (IsSealedBatch c.args.body.now)
    (λ seals. batch_sealed (set_entries c.args.set.now) (set_entries c.entries.set) c.args.body.now c.entries.rest.now b
    (seals _ b.parts)) c.check_seal.ensures.sealed c.check_seal.ensures.some

pub returns-clause-damaged : goal.returns-clause-damaged
returns-clause-damaged c =
    let off : c.has_entry.result ≡ false = search rules in
    seal_result (set_entries c.args.set.now) (set_entries c.entries.set) c.args.body.now c.entries.rest.now c.args.offset
    c.entries.invariant c.check_seal.result
    (no_more c.has_entry.result c.entries.rest.now c.has_entry.ensures off) c.check_seal.ensures.damaged

pub returns-in_err-rest-clause-damaged : goal.returns-in_err-rest-clause-damaged
returns-in_err-rest-clause-damaged c =
    let on : IsTrue c.has_entry.result = search rules in
    let fault = c.in_err-rest.field-0.0 in
    at_err c.from_residual.result fault (λ (f : CheckFault). Tells f (IsDamagedBatch c.args.body.now c.args.offset))
    c.from_residual.ensures.1
    (batch_damaged (set_entries c.args.set.now) (set_entries c.entries.set) c.args.body.now c.entries.rest.now
    c.args.offset c.entries.invariant _ fault (c.has_entry.ensures.0 on) (omega arith) c.in_err-rest.ensures.damaged)
