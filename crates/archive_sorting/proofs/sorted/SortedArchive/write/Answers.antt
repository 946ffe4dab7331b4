use Rattle.std.proofs.Common.{arith, List, ◌<◌, ◌^◌, ap, length, subst, sym}
use Rattle.archive_text.specs.Entries.{Entry}
use Rattle.archive_text.specs.Text.{text_of}
use Rattle.archive_sorting.specs.Spans.{blocks_of, entries_at}
use Rattle.archive_sorting.proofs.Members.{text_fits}
use Rattle.archive_sorting.proofs.sorted.SortedArchive.write.Goals as goal

pub write_spans-requires : goal.write_spans-requires
write_spans-requires g c =
    let blocks = blocks_of c.args.self.now.arena in
    subst (λ (es : List Entry). length (text_of es) < 2 ^ 64) (sym (ap (entries_at blocks) c.deref.ensures.value))
    (text_fits blocks c.args.self.now.spans.items c.args.self.now.sorted
    (omega (arith, c.args.self.now.few, c.args.self.now.spans.ok)))
