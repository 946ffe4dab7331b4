use Rattle.std.proofs.Common.{◌≡◌, ◌∙◌, false, subst, sym, true}
use Rattle.syslog_fields.specs.Canonical.{Canonical}
use Rattle.syslog_reading.specs.ViewParts.{view_parts}
use Rattle.archive_migration.proofs.OldForms.{canonical_old_entry}
use Rattle.archive_migration.proofs.old_entry.old_entry_of_octets.Goals as goal

pub returns-clause-entry : goal.returns-clause-entry
returns-clause-entry c =
    canonical_old_entry (record { instant = c.instant.result; octets = c.args.octets.now }) (view_parts c.in-Ok.seen)
    c.in-Ok.ensures.whole c.instant.ensures (c.is_canon_unsorted.ensures.0 c.if-not-is_canon_unsorted.false)

pub returns-then-not-is_canon_unsorted-clause-fault : goal.returns-then-not-is_canon_unsorted-clause-fault
returns-then-not-is_canon_unsorted-clause-fault c = (
  c.in-Ok.ensures.some,
  λ e (r, is) same.
      let never : false ≡ true = sym c.if-not-is_canon_unsorted.true
      ∙ c.is_canon_unsorted.ensures.1 (r, is.valid, subst (Canonical r) same is.canonical) in
      absurd cc,
)
