use Rattle.std.proofs.Common.{ap, subst, sym, ◌∙◌}
use Rattle.archive_sorting.specs.Spans.{blocks_of, entries_at}
use Rattle.archive_sorting.specs.Within.{AreFit}
use Rattle.archive_sorting.proofs.Members.{fit_same}
use Rattle.archive_sorting.proofs.unsorted.shed_repeats.Goals as goal

pub returns-then-repeats-len-clause-fit : goal.returns-then-repeats-len-clause-fit
returns-then-repeats-len-clause-fit c = fit_same _ _ c.shed.ensures.same c.requires.fit

pub copied-requires : goal.copied-requires
copied-requires c =
    subst AreFit (sym (ap (entries_at (blocks_of c.args.arena.now)) c.deref.ensures.value))
    (fit_same _ _ c.shed.ensures.same c.requires.fit)

pub returns-in-Ok-clause-fit : goal.returns-in-Ok-clause-fit
returns-in-Ok-clause-fit c =
    subst AreFit
    (sym (c.in-Ok.ensures.same ∙ ap (entries_at (blocks_of c.args.arena.now)) c.deref.ensures.value))
    (fit_same _ _ c.shed.ensures.same c.requires.fit)

pub returns-in-Err-clause-fit : goal.returns-in-Err-clause-fit
returns-in-Err-clause-fit c = fit_same _ _ c.shed.ensures.same c.requires.fit
