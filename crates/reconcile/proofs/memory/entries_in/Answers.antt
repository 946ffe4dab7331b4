use Rattle.std.proofs.Common.{subst, sym}
use Rattle.std.specs.Prelude.{None}
use Rattle.archive_text.specs.Entries.{IsAscending}
use Rattle.reconcile.specs.Ranges.{AreThose, IsUnder}
use Rattle.reconcile.proofs.Found.{dropped_ascending, those_all, those_before, those_from, those_inside}
use Rattle.reconcile.proofs.memory.entries_in.Goals as goal

pub count_below-requires-in-Some : goal.count_below-requires-in-Some
count_below-requires-in-Some c =
    subst IsAscending (sym c.split_at.ensures.back)
    (dropped_ascending c.args.places.now c.count_below.result c.requires)

pub returns-in-None : goal.returns-in-None
returns-in-None c =
    let r = c.args.range.now in
    let places = c.args.places.now in
    let rest = c.split_at.result.1.now in
    let order = subst IsAscending (sym c.split_at.ensures.back)
    (dropped_ascending places c.count_below.result c.requires) in
    those_inside r places rest rest
    (those_from places rest r.low c.count_below.result c.requires c.count_below.ensures.below
    c.count_below.ensures.above c.split_at.ensures.back)
    (subst (λ h. AreThose (IsUnder h) rest rest) (sym c.in-None.is) (those_all (IsUnder None) rest order (λ x. tt)))

pub returns-in-Some : goal.returns-in-Some
returns-in-Some c =
    let r = c.args.range.now in
    let places = c.args.places.now in
    let rest = c.split_at.result.1.now in
    let front = c.split_at-in-Some.result.0.now in
    let order = subst IsAscending (sym c.split_at.ensures.back)
    (dropped_ascending places c.count_below.result c.requires) in
    those_inside r places rest front
    (those_from places rest r.low c.count_below.result c.requires c.count_below.ensures.below
    c.count_below.ensures.above c.split_at.ensures.back)
    (subst (λ h. AreThose (IsUnder h) rest front) (sym c.in-Some.is)
    (those_before rest front c.in-Some.high c.count_below-in-Some.result order c.count_below-in-Some.ensures.below
    c.count_below-in-Some.ensures.above c.split_at-in-Some.ensures.front))
