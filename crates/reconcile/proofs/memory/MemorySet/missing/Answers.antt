use Rattle.std.proofs.Common.{subst, sym}
use Rattle.archive_text.specs.Entries.{Has}
use Rattle.archive_text.specs.Text.{IsArchive}
use Rattle.archive_text.specs.declared.limits.TheConstants.{ENTRY_MAX}
use Rattle.reconcile.proofs.Sets.{those_archive}
use Rattle.reconcile.proofs.memory.MemorySet.missing.Goals as goal

pub of-requires : goal.of-requires
of-requires c =
    those_archive ENTRY_MAX (λ x. ¬ (Has c.as_slice.result.now x)) c.entries.result.now c.in_ok-those.those.items
    (subst (IsArchive ENTRY_MAX) (sym c.entries.ensures.value) c.entries.ensures.archive) c.in_ok-those.ensures
