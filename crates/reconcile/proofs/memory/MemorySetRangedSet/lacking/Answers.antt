use Rattle.std.proofs.Common.{subst, sym}
use Rattle.archive_text.specs.Entries.{Has}
use Rattle.archive_text.specs.Text.{IsArchive}
use Rattle.archive_text.specs.declared.limits.TheConstants.{ENTRY_MAX}
use Rattle.reconcile.specs.Ranges.{Covers}
use Rattle.reconcile.proofs.Sets.{those_archive}
use Rattle.reconcile.proofs.memory.MemorySetRangedSet.lacking.Goals as goal

pub of-requires : goal.of-requires
of-requires c =
    those_archive ENTRY_MAX (λ x. Covers c.args.parts.now x × ¬ (Has c.entries.result.now x)) c.as_slice.result.now
    c.in_ok-those.those.items
    (subst (IsArchive ENTRY_MAX) (sym c.as_slice.ensures.value) c.args.self.now.archive) c.in_ok-those.ensures
