use Rattle.archive_pages.specs.Spans.{blocks_of, lists_of}
use Rattle.archive_pages.proofs.Writings.{text_fits}
use Rattle.archive_pages.proofs.paged.PagedArchiveStore.write.Goals as goal

pub write_pages-requires-clause-fits : goal.write_pages-requires-clause-fits
write_pages-requires-clause-fits g c =
    let s = c.args.self.now in
    rw c.deref.ensures.value (text_fits (blocks_of s.arena) (lists_of s.pages.items) s.count s.paged s.counted s.few)
