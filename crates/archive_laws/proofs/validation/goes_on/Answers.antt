use Rattle.std.proofs.Common.{◌≢◌, Less, subst}
use Rattle.archive_text.specs.EntryViews.{entry_of}
use Rattle.archive_laws.specs.Judging.{IsLast}
use Rattle.archive_laws.proofs.Judged.{less_goes_on, other_does_not}
use Rattle.archive_laws.proofs.validation.goes_on.Goals as goal

pub returns-in-Less-clause-above : goal.returns-in-Less-clause-above
returns-in-Less-clause-above c = λ t es last ascending.
    less_goes_on es c.in-Some.last (entry_of c.args.entry.now) c.compare.result (subst (IsLast es) c.in-Some.is last)
    ascending c.compare.ensures c.in-Less.is

pub returns-in-Equal-clause-not_above : goal.returns-in-Equal-clause-not_above
returns-in-Equal-clause-not_above c = λ t es last ascending.
    let apart : c.compare.result ≢ Less = λ e. cc in
    other_does_not es c.in-Some.last (entry_of c.args.entry.now) c.compare.result (subst (IsLast es) c.in-Some.is last)
    ascending c.compare.ensures apart

pub returns-in-Greater-clause-not_above : goal.returns-in-Greater-clause-not_above
returns-in-Greater-clause-not_above c = λ t es last ascending.
    let apart : c.compare.result ≢ Less = λ e. cc in
    other_does_not es c.in-Some.last (entry_of c.args.entry.now) c.compare.result (subst (IsLast es) c.in-Some.is last)
    ascending c.compare.ensures apart
