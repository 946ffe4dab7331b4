use Rattle.std.proofs.Common.{◌≢◌, [], ℕ, List, arith, refl, rules, subst}
use Rattle.std.proofs.lemmas.Grind.{common_steps}
use Rattle.archive_pages.specs.Paged.{entries_in}
use Rattle.durable_store.specs.Recovery.{BeginsWithSome, Refutes}
use Rattle.record_store.specs.Holdings.{IsReadable}
use Rattle.record_store.specs.Seals.{HasMore, Seals}
use Rattle.durable_store.proofs.Recovered.{batch_begun, batch_more, batch_sealed, batch_whole, shorter}
use Rattle.durable_store.proofs.Readable.{at_err, batch_read, next_begins, not_sealed, read_text, refutes_more}
use Rattle.durable_store.proofs.recovery.add_batch.Goals as goal

pub entries-init : goal.entries-init
entries-init c = batch_begun (entries_in c.args.set.now) c.args.body.now

pub entries-preserved : goal.entries-preserved
entries-preserved c =
    let a = c.in_ok-rest.ensures.adds in
    batch_more (entries_in c.args.set.now) (entries_in c.entries.set) (entries_in c.add_first.new.set)
    c.args.body.now
    c.entries.rest.now c.in_ok-rest.rest.now a.0 c.entries.invariant a.1 a.2

pub entries-smaller : goal.entries-smaller
entries-smaller c = let a = c.in_ok-rest.ensures.adds in shorter c.entries.rest.now a.0 c.in_ok-rest.rest.now a.1

pub returns-then-seals-clause-adds : goal.returns-then-seals-clause-adds
returns-then-seals-clause-adds c =
    let old = entries_in c.args.set.now in
    let new = entries_in c.entries.set in
    let body = c.args.body.now in
    let rest = c.entries.rest.now in
    let b = c.entries.invariant in
    let text = read_text old new body rest b c.split_at.result.0.now c.saturating_sub-read-2.result
    c.saturating_sub-read-2.ensures c.split_at.ensures.front in
    batch_whole old new body rest b (subst (λ (t : List ℕ). Seals t rest) text (c.seals.ensures.0 c.if-seals.true))

pub returns-then-seals-clause-whole : goal.returns-then-seals-clause-whole
returns-then-seals-clause-whole c =
    let old = entries_in c.args.set.now in
    let new = entries_in c.entries.set in
    let body = c.args.body.now in
    let rest = c.entries.rest.now in
    let b = c.entries.invariant in
    let text = read_text old new body rest b c.split_at.result.0.now c.saturating_sub-read-2.result
    c.saturating_sub-read-2.ensures c.split_at.ensures.front in
    batch_read old new body rest b (subst (λ (t : List ℕ). Seals t rest) text (c.seals.ensures.0 c.if-seals.true))

pub returns-clause-fault : goal.returns-clause-fault
returns-clause-fault c =
    let old = entries_in c.args.set.now in
    let new = entries_in c.entries.set in
    let body = c.args.body.now in
    let rest = c.entries.rest.now in
    let b = c.entries.invariant in
    let text = read_text old new body rest b c.split_at.result.0.now c.saturating_sub-read-2.result
    c.saturating_sub-read-2.ensures c.split_at.ensures.front in
    let ends : ¬ (HasMore rest) = search rules in
    let bad : ¬ (Seals c.split_at.result.0.now rest) = search rules in
    (refl, not_sealed old new body rest b c.split_at.result.0.now text ends bad)

pub returns-in_err-rest-clause-fault : goal.returns-in_err-rest-clause-fault
returns-in_err-rest-clause-fault c =
    let some : HasMore c.entries.rest.now = search rules in
    at_err c.from_residual.result c.in_err-rest.field-0.0 (Refutes c.args.number (IsReadable c.args.body.now))
    c.from_residual.ensures.1
    (refutes_more c.args.number (BeginsWithSome c.entries.rest.now) (IsReadable c.args.body.now)
    c.in_err-rest.field-0.0
    (λ h. next_begins (entries_in c.args.set.now) (entries_in c.entries.set) c.args.body.now c.entries.rest.now
    c.entries.invariant some h)
    c.in_err-rest.ensures.fault)

pub returns-then-seals-clause-sealed : goal.returns-then-seals-clause-sealed
returns-then-seals-clause-sealed c =
    let old = entries_in c.args.set.now in
    let new = entries_in c.entries.set in
    let body = c.args.body.now in
    let rest = c.entries.rest.now in
    let b = c.entries.invariant in
    let text = read_text old new body rest b c.split_at.result.0.now c.saturating_sub-read-2.result
    c.saturating_sub-read-2.ensures c.split_at.ensures.front in
    let both = batch_sealed old new body rest b
    (subst (λ (t : List ℕ). Seals t rest) text (c.seals.ensures.0 c.if-seals.true)) in (
      λ on. both.1 (λ none. first_of (search rules, grind (arith, common_steps))),
      λ sealed. let some : c.entries.rest.now ≢ [] = both.0 sealed in first_of (search rules, grind (arith, common_steps)),
    )
