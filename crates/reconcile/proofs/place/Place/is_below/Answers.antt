use Rattle.std.proofs.Common.{sym, subst}
use Rattle.std.proofs.lemmas.Bool.{false≢true}
use Rattle.archive_text.specs.Entries.{Entry, IsBelow}
use Rattle.archive_text.specs.EntryViews.{entry_of}
use Rattle.archive_text.proofs.Orders.{below_is_less}
use Rattle.reconcile.proofs.place.Place.is_below.Goals as goal

pub returns-in_default : goal.returns-in_default
returns-in_default c = (
  λ t. absurd (false≢true t),
  λ h. absurd (c.in_default.not-Less (below_is_less (entry_of c.view.result) (entry_of c.view-2.result)
      c.compare.result c.compare.ensures
      (subst (λ (y : Entry). IsBelow (entry_of c.view.result) y) (sym c.view-2.ensures)
      (subst (λ (y : Entry). IsBelow y c.args.other.now) (sym c.view.ensures) h)))),
)
