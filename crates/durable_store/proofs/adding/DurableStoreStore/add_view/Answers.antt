use Rattle.std.proofs.Common.{◌∙◌, sym}
use Rattle.syslog_reading.specs.ViewParts.{view_parts}
use Rattle.archive_text.specs.declared.limits.TheConstants.{ENTRY_MAX}
use Rattle.archive_text.specs.declared.store.AddFault.TheVariants.{TooLong}
use Rattle.archive_text.proofs.Shown.{shown_alone, shown_long}
use Rattle.durable_store.proofs.Additions.{held_added, same_fault, taken_back, view_added}
use Rattle.durable_store.proofs.adding.DurableStoreStore.add_view.Goals as goal

pub returns-in-Err-clause-long : goal.returns-in-Err-clause-long
returns-in-Err-clause-long c =
    let shown = shown_alone (view_parts c.args.view.now) c.write_canonical_view.result c.clear.new.self.items _
    c.deref.result.now c.write_canonical_view.ensures.shown (sym c.is_err.ensures.value ∙ c.if-is_err.false)
    c.clear.ensures.items c.deref.ensures.value in
    λ t b seen. shown_long ENTRY_MAX _ _ b shown seen (c.in-Err.ensures.long (same_fault c.in-Err.fault TooLong t))

pub returns-in-Ok-New-clause-ok : goal.returns-in-Ok-New-clause-ok
returns-in-Ok-New-clause-ok c = rw c.in-Ok-New.field-0-is at c.in-Ok-New.ensures.ok

pub returns-in-Ok-New-clause-stands : goal.returns-in-Ok-New-clause-stands
returns-in-Ok-New-clause-stands c b seen state sets stands =
    let shown = shown_alone (view_parts c.args.view.now) c.write_canonical_view.result c.clear.new.self.items _
    c.deref.result.now c.write_canonical_view.ensures.shown (sym c.is_err.ensures.value ∙ c.if-is_err.false)
    c.clear.ensures.items c.deref.ensures.value in
    let adds = rw c.in-Ok-New.field-0-is at c.in-Ok-New.ensures.ok in
    view_added (view_parts c.args.view.now) c.deref.result.now b c.instant.result c.args.self.now _ state sets shown
    c.instant.ensures seen (c.in-Ok.ensures.ok state sets stands.journal) stands (adds b seen)

pub returns-in-Ok-Held-clause-ok : goal.returns-in-Ok-Held-clause-ok
returns-in-Ok-Held-clause-ok c = rw c.in-Ok-Held.field-0-is at c.in-Ok-Held.ensures.ok

pub returns-in-Ok-Held-clause-stands : goal.returns-in-Ok-Held-clause-stands
returns-in-Ok-Held-clause-stands c b seen state sets stands =
    let adds = (rw c.in-Ok-Held.field-0-is at c.in-Ok-Held.ensures.ok) b seen in (
      adds.0,
      adds.1,
      held_added adds.0 c.args.self.now _ state sets
          (taken_back c.args.self.now.store c.append_entry.new.self c.take_back.new.self state sets
          c.waiting-waiting.result stands.journal c.append_entry.ensures.same c.take_back.ensures.same
          c.append_entry.ensures.behind c.take_back.ensures.batch c.waiting-waiting.ensures)
          stands adds.2,
    )
