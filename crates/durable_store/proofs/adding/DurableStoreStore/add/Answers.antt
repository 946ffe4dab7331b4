use Rattle.std.proofs.Common.{◌<◌, List, ℕ, length, subst, sym}
use Rattle.syslog_fields.specs.Canonical.{Canonical}
use Rattle.archive_text.specs.Entries.{Entry, IsEntryOf}
use Rattle.archive_text.specs.declared.limits.TheConstants.{ENTRY_MAX}
use Rattle.archive_text.specs.declared.store.AddFault.TheVariants.{TooLong}
use Rattle.archive_pages.proofs.Records.{too_long}
use Rattle.durable_store.proofs.Additions.{held_added, new_added, same_fault, taken_back}
use Rattle.durable_store.proofs.adding.DurableStoreStore.add.Goals as goal

pub returns-in-Ok-New-clause-stands : goal.returns-in-Ok-New-clause-stands
returns-in-Ok-New-clause-stands c state sets stands =
    let r = c.args.record.now in
    let adds = rw c.in-Ok-New.field-0-is at c.in-Ok-New.ensures.ok in
    let e : Entry = record { instant = c.instant.result; octets = c.as_slice.result.now } in
    let one : IsEntryOf r e = record {
      valid = adds.1.valid;
      instant = c.instant.ensures;
      canonical = subst (Canonical r) (sym c.as_slice.ensures.value) c.in-Ok.ensures;
    } in
    new_added r c.args.self.now _ state sets e one (c.in-Ok-append_entry.ensures.ok state sets stands.journal (r, one))
    stands adds

pub returns-in-Ok-Held-clause-stands : goal.returns-in-Ok-Held-clause-stands
returns-in-Ok-Held-clause-stands c state sets stands =
    let adds = rw c.in-Ok-Held.field-0-is at c.in-Ok-Held.ensures.ok in
    held_added c.args.record.now c.args.self.now _ state sets
    (taken_back c.args.self.now.store c.append_entry.new.self c.take_back.new.self state sets
    c.waiting-waiting.result stands.journal c.append_entry.ensures.same c.take_back.ensures.same
    c.append_entry.ensures.behind c.take_back.ensures.batch c.waiting-waiting.ensures)
    stands adds

pub returns-in-Err-append_entry-clause-long : goal.returns-in-Err-append_entry-clause-long
returns-in-Err-append_entry-clause-long c t e is =
    too_long c.args.record.now c.in-Ok.octets.items c.in-Ok.ensures
    (subst (λ (s : List ℕ). ENTRY_MAX < length s) c.as_slice.ensures.value (c.in-Err-append_entry.ensures.long (same_fault c.in-Err-append_entry.fault TooLong t))) e is
