use Rattle.std.proofs.Common.{subst, sym}
use Rattle.std.specs.Prelude.{◌↔◌, IsTrue}
use Rattle.syslog_fields.specs.Canonical.{Canonical}
use Rattle.archive_text.specs.Entries.{Entry, Has, IsEntryOf}
use Rattle.archive_pages.specs.Pages.{entries_of}
use Rattle.archive_pages.specs.Spans.{blocks_of, lists_of}
use Rattle.archive_pages.proofs.Records.{held_alike}
use Rattle.archive_pages.proofs.paged.PagedArchiveStore.holds.Goals as goal

pub returns : goal.returns
returns c =
    λ e is.
    let r = c.args.record.now in
    let blocks = blocks_of c.args.self.now.arena in
    let a : Entry = record { instant = c.instant.result; octets = c.as_slice.result.now } in
    let one : IsEntryOf r a = record {
      valid = is.valid;
      instant = c.instant.ensures;
      canonical =
          subst (Canonical r) (sym c.as_slice.ensures.value) c.in_ok-octets.ensures;
    } in
    let alike = held_alike r (entries_of blocks (lists_of c.deref.result.now)) a c.holds_entry.result one
    c.holds_entry.ensures e is in
    subst (λ ps. IsTrue c.holds_entry.result ↔ Has (entries_of blocks (lists_of ps)) e) c.deref.ensures.value alike
