use Rattle.std.proofs.Common.{refl, subst}
use Rattle.std.proofs.lemmas.Result.{err_from_is_err_and}
use Rattle.archive_text.specs.Faults.{IsEntryFault}
use Rattle.archive_text.specs.declared.fault.EntryFault.TheVariants.{Bad}
use Rattle.archive_text.proofs.Reading.{count_fault, counted_begin}
use Rattle.archive_text.proofs.validation.read_entry.Goals as goal

pub returns-in_err-octets : goal.returns-in_err-octets
returns-in_err-octets c =
    let p = err_from_is_err_and c.from_residual.result c.from_residual.ensures.1 in
    rw (p.1, p.2) (count_fault c.args.most c.args.text.now c.in_err-octets.field-0.0 c.in_err-octets.ensures)

pub returns-in-Err-Bad : goal.returns-in-Err-Bad
returns-in-Err-Bad c =
    let octets = c.in_ok-octets.octets.now in
    let fault : IsEntryFault octets (Bad c.in-Err-Bad.fault) =
    subst (IsEntryFault octets) c.in-Err-Bad.field-0-is c.in-Err-Bad.ensures.fault in
    rw c.in-Err-Bad.fault-is
    (refl, (octets, counted_begin c.args.most c.args.text.now octets c.in_ok-octets.rest.now c.in_ok-octets.ensures, fault))

pub returns-in-Err-NotCanonical : goal.returns-in-Err-NotCanonical
returns-in-Err-NotCanonical c =
    let octets = c.in_ok-octets.octets.now in (
      refl,
      (
        octets,
        counted_begin c.args.most c.args.text.now octets c.in_ok-octets.rest.now c.in_ok-octets.ensures,
        subst (IsEntryFault octets) c.in-Err-NotCanonical.field-0-is c.in-Err-NotCanonical.ensures.fault,
      ),
    )
