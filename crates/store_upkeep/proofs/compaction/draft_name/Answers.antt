use Rattle.store_upkeep.proofs.SameSets.{draft_apart_name}
use Rattle.std.proofs.Common.{subst, rules, ◌≡◌}
use Rattle.std.specs.Prelude.{codes}
use Rattle.record_store.specs.Names.{Counts}
use Rattle.store_upkeep.proofs.compaction.draft_name.Goals as goal

pub returns-clause-apart : goal.returns-clause-apart
returns-clause-apart c counts =
    let is : c.in-Some.name ≡ codes "compact.archive" = search rules in
    draft_apart_name (subst Counts is counts)
