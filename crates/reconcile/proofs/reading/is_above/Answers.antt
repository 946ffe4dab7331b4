use Rattle.std.proofs.Common.{refl, subst, sym}
use Rattle.std.proofs.lemmas.Bool.{false≢true}
use Rattle.archive_text.specs.Entries.{Entry, IsBelow}
use Rattle.archive_text.specs.EntryViews.{entry_of}
use Rattle.archive_text.proofs.Orders.{below_is_less}
use Rattle.reconcile.proofs.Found.{last_above, last_below}
use Rattle.reconcile.proofs.reading.is_above.Goals as goal

pub returns-in-Less : goal.returns-in-Less
returns-in-Less c order =
    let places = c.args.places.now in
    let last = c.last-item.result in
    let e = entry_of c.args.entry.now in
    let low : IsBelow last e = subst (λ (y : Entry). IsBelow y e) c.view.ensures c.in-Less.ensures in (
      λ _. last_below places e last order c.in-len1-up.len_at_least
          (subst (λ (y : Entry). IsBelow y e) c.last-item.is low),
      λ _. refl,
    )

pub returns-in_default : goal.returns-in_default
returns-in_default c order =
    let places = c.args.places.now in
    let last = c.last-item.result in
    let e = entry_of c.args.entry.now in (
      λ t. absurd (false≢true t),
      λ all. absurd (c.in_default.not-Less (below_is_less (entry_of c.view.result) e c.compare.result
          c.compare.ensures
          (subst (λ (y : Entry). IsBelow y e) (sym c.view.ensures)
          (subst (λ (y : Entry). IsBelow y e) (sym c.last-item.is)
          (last_above places e last c.in-len1-up.len_at_least all))))),
    )
