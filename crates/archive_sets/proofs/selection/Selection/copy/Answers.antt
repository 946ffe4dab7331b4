use Rattle.std.proofs.Common.{rules, IsTrue, ◌<◌, ◌∙◌, refl, sym, subst}
use Rattle.archive_streams.specs.Entries.{IsOpen, still_to_come}
use Rattle.archive_streams.specs.declared.entries.ArchiveEntries.{ArchiveEntries}
use Rattle.archive_sets.proofs.Steps.{few_selected, looks, selecting_none}
use Rattle.archive_sets.proofs.Stops.{failed_outcome}
use Rattle.archive_sets.proofs.selection.Selection.copy.Goals as goal

pub entries-init : goal.entries-init
entries-init g c = record {
  unclosed = c.requires.unclosed;
  reader = refl;
  writer = refl;
  selecting = selecting_none _ c.args.self.now _ _ c.requires;
}

pub keep-requires : goal.keep-requires
keep-requires g c =
    let on : IsTrue c.in_ok-advance.field-0 = search rules in
    few_selected _ c.advance.new.self _ _ _ _
    (looks _ c.entries.self c.advance.new.self _ _ _ _ _ c.advance.ensures.kept (c.in_ok-advance.ensures.entry on)
    c.entries.invariant.selecting)

pub entries-preserved : goal.entries-preserved
entries-preserved g c =
    let on : IsTrue c.in_ok-advance.field-0 = search rules in
    let one = c.in_ok-advance.ensures.entry on in
    record {
      unclosed = subst IsOpen (sym c.keep.ensures.entries) one.open_after;
      reader = c.in_ok-advance.ensures.told ∙ c.entries.invariant.reader;
      writer = c.in_ok-keep.ensures.told ∙ c.entries.invariant.writer;
      selecting = c.in_ok-keep.ensures.keeps _ _ _ (looks _ c.entries.self c.advance.new.self _ _ _ _ _
          c.advance.ensures.kept one c.entries.invariant.selecting);
    }

pub entries-smaller : goal.entries-smaller
entries-smaller g c =
    let on : IsTrue c.in_ok-advance.field-0 = search rules in
    let one = c.in_ok-advance.ensures.entry on in
    subst (λ (n : ArchiveEntries). still_to_come n < still_to_come c.entries.self.entries) (sym c.keep.ensures.entries)
    one.nearer

pub returns-in_err-keep-clause-outcome : goal.returns-in_err-keep-clause-outcome
returns-in_err-keep-clause-outcome g c =
    let on : IsTrue c.in_ok-advance.field-0 = search rules in
    failed_outcome c.from_residual-in_err-keep.result c.in_err-keep.field-0.0 _ _ c.from_residual-in_err-keep.ensures.1
    (c.in_err-keep.ensures.fault _ _ _ (looks _ c.entries.self c.advance.new.self _ _ _ _ _ c.advance.ensures.kept
    (c.in_ok-advance.ensures.entry on) c.entries.invariant.selecting))
