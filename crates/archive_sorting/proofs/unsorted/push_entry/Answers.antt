use Rattle.std.proofs.Common.{ap, refl, sym, subst, ◌∙◌}
use Rattle.std.specs.List.{AllByRecursion}
use Rattle.std.proofs.lemmas.Result.{err_from_is_err_and}
use Rattle.archive_text.specs.EntryViews.{entry_of}
use Rattle.archive_text.proofs.Orders.{same_entry}
use Rattle.archive_sorting.specs.Spans.{IsWithin, blocks_of, entries_at, ranked}
use Rattle.archive_sorting.specs.Within.{AreFit}
use Rattle.archive_sorting.proofs.Blocks.{entries_stay}
use Rattle.archive_sorting.proofs.Members.{fit_pushed}
use Rattle.archive_sorting.proofs.SortedSpans.{entries_pushed, within_kept, within_pushed}
use Rattle.archive_sorting.proofs.unsorted.push_entry.Goals as goal

pub returns-in_err-span-clause-err : goal.returns-in_err-span-clause-err
returns-in_err-span-clause-err c =
    let p = err_from_is_err_and c.from_residual.result c.from_residual.ensures.1 in
    rw p.1 (entries_stay _ _ _ c.push.ensures.keeps c.requires.within)

pub returns-in_err-push-clause-within : goal.returns-in_err-push-clause-within
returns-in_err-push-clause-within c =
    subst (AllByRecursion (IsWithin (blocks_of c.push.new.self))) (sym c.in_err-push.ensures.items)
    (within_kept _ _ _ c.push.ensures.keeps c.requires.within)

pub returns-in_err-push-clause-err : goal.returns-in_err-push-clause-err
returns-in_err-push-clause-err c =
    let p = err_from_is_err_and c.from_residual-in_err-push.result c.from_residual-in_err-push.ensures.1 in
    rw p.1 (ap (entries_at (blocks_of c.push.new.self)) c.in_err-push.ensures.items
    ∙ entries_stay _ _ _ c.push.ensures.keeps c.requires.within)

pub returns-clause-within : goal.returns-clause-within
returns-clause-within c =
    subst (AllByRecursion (IsWithin (blocks_of c.push.new.self))) (sym c.in_ok-push.ensures.items)
    (within_pushed _ _ _ _ c.push.ensures.keeps c.requires.within c.in_ok-span.ensures.within)

pub returns-clause-ok : goal.returns-clause-ok
returns-clause-ok c =
    ap (entries_at (blocks_of c.push.new.self)) c.in_ok-push.ensures.items
    ∙ entries_pushed _ _ _ _ _ c.push.ensures.keeps c.requires.within (c.in_ok-span.ensures.value
    ∙ same_entry (ranked c.rank_of.result c.args.entry.now.octets.now) (entry_of c.args.entry.now)
    c.rank_of.ensures refl)

pub returns-in_err-span-clause-fit : goal.returns-in_err-span-clause-fit
returns-in_err-span-clause-fit c =
    subst AreFit (sym (entries_stay _ _ _ c.push.ensures.keeps c.requires.within)) c.requires.fit

pub returns-in_err-push-clause-fit : goal.returns-in_err-push-clause-fit
returns-in_err-push-clause-fit c =
    subst AreFit
    (sym (ap (entries_at (blocks_of c.push.new.self)) c.in_err-push.ensures.items
    ∙ entries_stay _ _ _ c.push.ensures.keeps c.requires.within)) c.requires.fit

pub returns-clause-fit : goal.returns-clause-fit
returns-clause-fit c =
    fit_pushed _ _ _ (ap (entries_at (blocks_of c.push.new.self)) c.in_ok-push.ensures.items
    ∙ entries_pushed _ _ _ _ _ c.push.ensures.keeps c.requires.within (c.in_ok-span.ensures.value
    ∙ same_entry (ranked c.rank_of.result c.args.entry.now.octets.now) (entry_of c.args.entry.now)
    c.rank_of.ensures refl)) c.requires.fit
    c.requires.entry
