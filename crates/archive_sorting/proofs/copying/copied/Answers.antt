use Rattle.std.proofs.Common.{arith, ap, subst, sym, ◌∙◌, ◌≤◌, length, List, ℕ}
use Rattle.std.specs.Prelude.{slice_index_or}
use Rattle.std.specs.List.{AllByRecursion}
use Rattle.archive_text.specs.declared.limits.TheConstants.{ENTRY_MAX}
use Rattle.archive_sorting.specs.Spans.{IsWithin, blocks_of, entries_at}
use Rattle.archive_sorting.proofs.Members.{copied_all, copied_more, fit_at}
use Rattle.archive_sorting.proofs.SortedSpans.{entries_pushed, within_pushed}
use Rattle.archive_sorting.proofs.Writings.{read_at, spare}
use Rattle.archive_sorting.proofs.copying.copied.Goals as goal

pub loop-span-init : goal.loop-span-init
loop-span-init c =
    let none = c.in_ok-places.ensures.items in
    record {
      within = subst (AllByRecursion (IsWithin (blocks_of c.new-copy.result))) (sym none) tt;
      same = ap (entries_at (blocks_of c.new-copy.result)) none;
      count = omega (arith, c.in_ok-places.ensures.len);
    }

pub push-requires : goal.push-requires
push-requires c =
    let at = c.loop-span.span-index in
    subst (λ (o : List ℕ). length o ≤ ENTRY_MAX) (sym c.octets.ensures)
    (fit_at (blocks_of c.args.arena.now) c.args.spans.now at (slice_index_or c.args.spans.now at spare)
    c.loop-span-test.true (read_at c.args.spans.now at c.loop-span-test.true) c.requires)

pub loop-span-preserved : goal.loop-span-preserved
loop-span-preserved c =
    let at = c.loop-span.span-index in
    let i = c.loop-span.invariant in
    let pushed = entries_pushed _ _ _ _ _ c.push.ensures.keeps i.within c.in_ok-place.ensures.value in
    record {
      within = subst (AllByRecursion (IsWithin (blocks_of c.push.new.self))) (sym c.in_ok-push.ensures.items)
          (within_pushed _ _ _ _ c.push.ensures.keeps i.within c.in_ok-place.ensures.within);
      same = ap (entries_at (blocks_of c.push.new.self)) c.in_ok-push.ensures.items ∙ pushed
          ∙ copied_more (blocks_of c.args.arena.now) c.args.spans.now at (slice_index_or c.args.spans.now at spare) _ _
          c.loop-span-test.true (read_at c.args.spans.now at c.loop-span-test.true) i.same c.octets.ensures;
      count = omega (arith, i.count, c.in_ok-push.ensures.len);
    }

pub returns-clause-same : goal.returns-clause-same
returns-clause-same c =
    c.loop-span.invariant.same
    ∙ copied_all (blocks_of c.args.arena.now) c.args.spans.now c.loop-span.span-index (omega arith)
