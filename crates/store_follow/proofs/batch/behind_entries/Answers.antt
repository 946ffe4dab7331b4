use Rattle.store_follow.proofs.Entries.{none_before, one_more, shorter}
use Rattle.store_follow.proofs.batch.behind_entries.Goals as goal

pub entries-init : goal.entries-init
entries-init c = none_before c.args.body.now

pub entries-preserved : goal.entries-preserved
entries-preserved c =
    one_more c.args.body.now c.entries.rest.now c.in-Ok.behind.now _ c.entries.invariant c.in-Ok.ensures

pub entries-smaller : goal.entries-smaller
entries-smaller c = shorter c.entries.rest.now c.in-Ok.behind.now _ c.in-Ok.ensures
