use Rattle.std.proofs.Common.{◌≡◌, ◌∙◌, false, refl, subst, sym, true}
use Rattle.syslog_fields.specs.Canonical.{Canonical}
use Rattle.syslog_reading.specs.ViewParts.{view_parts}
use Rattle.archive_text.proofs.Reading.{canonical_entry}
use Rattle.archive_text.proofs.validation.entry_of_octets.Goals as goal

pub returns-clause-entry : goal.returns-clause-entry
returns-clause-entry c = (
  canonical_entry (record { instant = c.instant.result; octets = c.args.octets.now }) (view_parts c.in-Ok.read.0)
      c.in-Ok.ensures.whole c.instant.ensures (c.in-Ok.ensures.form.0 c.if-not-is_canonical.false),
  refl,
)

pub returns-then-not-is_canonical-clause-fault : goal.returns-then-not-is_canonical-clause-fault
returns-then-not-is_canonical-clause-fault c = (
  c.in-Ok.ensures.some,
  λ e (r, is) same.
      let never : false ≡ true = sym c.if-not-is_canonical.true
      ∙ c.in-Ok.ensures.form.1 (r, is.valid, subst (Canonical r) same is.canonical) in
      absurd cc,
)
