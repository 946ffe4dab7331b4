use Rattle.std.proofs.Common.{◌+◌, ◌<◌, ◌^◌, subst, sym, arith}
use Rattle.std.proofs.lemmas.Bool.{false≢true}
use Rattle.archive_text.specs.Positions.{position_of}
use Rattle.archive_text.specs.declared.limits.TheConstants.{ENTRY_MAX}
use Rattle.archive_migration.specs.Reading.{IsFaultAfter, old_entry_of}
use Rattle.archive_migration.proofs.Steps.{fault_after, not_ascending_after, position_within}
use Rattle.archive_migration.proofs.migrating.next_old.Goals as goal

pub returns-in-Err-clause-fault : goal.returns-in-Err-clause-fault
returns-in-Err-clause-fault c =
    let last = c.args.last.now in
    let offset = c.args.offset in
    let rest = c.args.rest.now in
    let fault = c.in-Err.fault in
    let bad = c.in-Err.ensures.entry in
    let fits : offset + position_of fault < 2 ^ 64 =
    omega (arith, position_within ENTRY_MAX rest fault bad, c.requires) in
    subst (IsFaultAfter last offset rest) (sym (c.later.ensures.fits fits)) (fault_after last offset rest fault bad)

pub returns-then-not-is_above-clause-fault : goal.returns-then-not-is_above-clause-fault
returns-then-not-is_above-clause-fault c =
    not_ascending_after c.args.last.now c.args.offset c.args.rest.now c.in-Ok.read.1.now (old_entry_of c.in-Ok.read.0)
    c.in-Ok.ensures.entry
    (λ above. false≢true (c.if-not-is_above.ensures.1 above))
