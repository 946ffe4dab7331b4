use Rattle.std.proofs.Common.{subst}
use Rattle.std.proofs.lemmas.Bool.{false≢true}
use Rattle.archive_text.specs.EntryViews.{entry_of}
use Rattle.archive_text.proofs.Orders.{below_is_less}
use Rattle.archive_migration.specs.Reading.{IsAboveLast}
use Rattle.archive_migration.proofs.migrating.is_above.Goals as goal

pub returns-in_default : goal.returns-in_default
returns-in_default c = (
  λ f. absurd (false≢true f),
  λ above. absurd (c.in_default.not-Less (below_is_less _ _ _ c.compare.ensures
      (subst (λ o. IsAboveLast o (entry_of c.args.entry.now)) c.in-Some.is above))),
)
