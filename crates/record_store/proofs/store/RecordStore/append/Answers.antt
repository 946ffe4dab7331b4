use Rattle.std.proofs.Common.{◌≤◌, List, ℕ, length, refl, sym, subst}
use Rattle.archive_text.specs.EntryViews.{entry_of}
use Rattle.archive_text.specs.declared.limits.TheConstants.{ENTRY_MAX}
use Rattle.record_store.proofs.Standing.{appended_stands}
use Rattle.record_store.proofs.store.RecordStore.append.Goals as goal

pub returns-in-Ok-put_entry-clause-ok : goal.returns-in-Ok-put_entry-clause-ok
returns-in-Ok-put_entry-clause-ok c state sets stands =
    let entry = entry_of c.in-Ok.entry in
    let fits : length entry.octets ≤ ENTRY_MAX =
    subst (λ (o : List ℕ). length o ≤ ENTRY_MAX) (sym c.in-Ok.ensures.entry.1) c.if-octets-gt-ENTRY_MAX.false in (
      entry,
      c.in-Ok.ensures.entry.0,
      c.in-Ok.ensures.entry.1,
      appended_stands c.args.self.now _ state sets stands refl refl refl entry c.in-Ok.ensures.entry.0 fits
          c.in-Ok-put_entry.ensures.ok,
    )
