use Rattle.std.proofs.Common.{refl, subst}
use Rattle.std.proofs.lemmas.Result.{err_from_is_err_and}
use Rattle.archive_text.specs.declared.fault.EntryFault.TheVariants.{Bad}
use Rattle.archive_text.proofs.Reading.{counted_begin}
use Rattle.archive_migration.specs.OldFaults.{IsOldEntryFault}
use Rattle.archive_migration.proofs.Steps.{old_count_fault}
use Rattle.archive_migration.proofs.old_entry.read_old_entry.Goals as goal

pub returns-in_err-octets-clause-entry : goal.returns-in_err-octets-clause-entry
returns-in_err-octets-clause-entry c =
    let p = err_from_is_err_and c.from_residual.result c.from_residual.ensures.1 in
    rw (p.1, p.2) (old_count_fault c.args.most c.args.text.now c.in_err-octets.field-0.0 c.in_err-octets.ensures)

pub returns-in-Err-Bad-clause-entry : goal.returns-in-Err-Bad-clause-entry
returns-in-Err-Bad-clause-entry c =
    let octets = c.in_ok-octets.octets.now in
    let fault : IsOldEntryFault octets (Bad c.in-Err-Bad.fault) =
    subst (IsOldEntryFault octets) c.in-Err-Bad.field-0-is c.in-Err-Bad.ensures.fault in
    rw c.in-Err-Bad.fault-is
    (refl, (octets, counted_begin c.args.most c.args.text.now octets c.in_ok-octets.rest.now c.in_ok-octets.ensures, fault))

pub returns-in-Err-NotCanonical-clause-entry : goal.returns-in-Err-NotCanonical-clause-entry
returns-in-Err-NotCanonical-clause-entry c =
    let octets = c.in_ok-octets.octets.now in (
      refl,
      (
        octets,
        counted_begin c.args.most c.args.text.now octets c.in_ok-octets.rest.now c.in_ok-octets.ensures,
        subst (IsOldEntryFault octets) c.in-Err-NotCanonical.field-0-is c.in-Err-NotCanonical.ensures.fault,
      ),
    )
