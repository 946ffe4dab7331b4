use Rattle.std.proofs.Common.{sym, ◌∙◌}
use Rattle.std.proofs.lemmas.Bool.{false≢true}
use Rattle.archive_text.specs.EntryViews.{entry_of}
use Rattle.archive_text.proofs.Orders.{same_is_equal}
use Rattle.reconcile.proofs.place.Place.is.Goals as goal

pub returns-in_default : goal.returns-in_default
returns-in_default c = (
  λ t. absurd (false≢true t),
  λ e. absurd (c.in_default.not-Equal (same_is_equal (entry_of c.view.result) (entry_of c.view-2.result)
      c.compare.result c.compare.ensures
      (c.view.ensures ∙ e ∙ sym c.view-2.ensures))),
)
