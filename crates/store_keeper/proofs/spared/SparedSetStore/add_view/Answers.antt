use Rattle.std.proofs.Common.{◌∙◌, List, ℕ, ap, subst}
use Rattle.std.specs.Prelude.{ℤ, IfOk}
use Rattle.syslog_value.specs.Parts.{Parts}
use Rattle.syslog_reading.specs.ViewParts.{IsViewOf, view_parts}
use Rattle.syslog_reading.specs.WellFormed.{WellFormed}
use Rattle.archive_pages.specs.Paged.{entries_in}
use Rattle.archive_text.specs.Entries.{Entry}
use Rattle.archive_text.specs.Stores.{AddsRecord}
use Rattle.store_keeper.proofs.spared.SparedSetStore.add_view.Goals as goal

pub returns-in-Err-Memory-clause-ok : goal.returns-in-Err-Memory-clause-ok
returns-in-Err-Memory-clause-ok c =
    subst (λ (es : List Entry). IfOk c.add_view-in-Err-Memory.result (λ added. (b : List ℕ)
    → IsViewOf b (view_parts c.args.view.now) → (r : Parts ℤ) × WellFormed r b
    × AddsRecord r es (entries_in c.add_view-in-Err-Memory.new.self) added))
    (ap entries_in c.give_up.ensures.pages ∙ c.in-Err-Memory.ensures.err ∙ ap entries_in c.note_room.ensures.pages) c.add_view-in-Err-Memory.ensures.ok

pub returns-in_default-3-clause-ok : goal.returns-in_default-3-clause-ok
returns-in_default-3-clause-ok c =
    subst (λ (es : List Entry). IfOk c.add_view.result (λ added. (b : List ℕ)
    → IsViewOf b (view_parts c.args.view.now) → (r : Parts ℤ) × WellFormed r b
    × AddsRecord r es (entries_in c.add_view.new.self) added))
    (ap entries_in c.note_room.ensures.pages) c.add_view.ensures.ok
