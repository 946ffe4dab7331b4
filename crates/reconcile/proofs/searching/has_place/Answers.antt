use Rattle.std.proofs.Common.{subst, sym}
use Rattle.std.specs.List.{AllByRecursion}
use Rattle.archive_text.specs.Entries.{Has, IsAscending, IsBelow}
use Rattle.reconcile.proofs.Found.{dropped, dropped_ascending, sought}
use Rattle.reconcile.proofs.searching.has_place.Goals as goal

pub returns : goal.returns
returns c =
    let places = c.args.places.now in
    let place = c.args.place.now in
    let i = c.count_below.result in
    let back = c.split_at.ensures.back in (
      λ t. dropped places place i (subst (λ l. Has l place) back (c.begins_with.ensures.held t)),
      λ m. c.begins_with.ensures.none (subst IsAscending (sym back) (dropped_ascending places i c.requires))
          (subst (AllByRecursion (λ y. ¬ (IsBelow y place))) (sym back) c.count_below.ensures.above)
          (subst (λ l. Has l place) (sym back) (sought places place i c.requires c.count_below.ensures.below m)),
    )
