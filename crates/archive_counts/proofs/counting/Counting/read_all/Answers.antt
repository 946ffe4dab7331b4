use Rattle.std.proofs.Common.{rules, IsTrue, ◌<◌, ◌∙◌, refl, sym, subst}
use Rattle.std.proofs.lemmas.Result.{err_from_is_err_and}
use Rattle.archive_streams.specs.Entries.{IsOpen, still_to_come}
use Rattle.archive_streams.specs.declared.entries.ArchiveEntries.{ArchiveEntries}
use Rattle.archive_counts.proofs.Steps.{halts, looks, on_ok, tabling_none}
use Rattle.archive_counts.proofs.counting.Counting.read_all.Goals as goal

pub entries-init : goal.entries-init
entries-init g c = record {
  unclosed = c.requires.unclosed;
  told = refl;
  tabling = tabling_none c.args.keys.now c.args.self.now _ c.requires;
}

pub entries-preserved : goal.entries-preserved
entries-preserved g c =
    let on : IsTrue c.in_ok-advance.field-0 = search rules in
    let one = c.in_ok-advance.ensures.entry on in
    record {
      unclosed = subst IsOpen (sym c.take.ensures.entries) one.open_after;
      told = c.in_ok-advance.ensures.told ∙ c.entries.invariant.told;
      tabling =
          on_ok c.take.result _ (sym c.is_err.ensures.value ∙ c.if-is_err.false) c.take.ensures.taken _ _
          (looks c.args.keys.now c.entries.self c.advance.new.self _ _ _ c.advance.ensures.kept one
          c.entries.invariant.tabling);
    }

pub entries-smaller : goal.entries-smaller
entries-smaller g c =
    let on : IsTrue c.in_ok-advance.field-0 = search rules in
    let one = c.in_ok-advance.ensures.entry on in
    subst (λ (n : ArchiveEntries). still_to_come n < still_to_come c.entries.self.entries) (sym c.take.ensures.entries)
    one.nearer

pub returns-in_err-advance-clause-outcome : goal.returns-in_err-advance-clause-outcome
returns-in_err-advance-clause-outcome g c =
    let p = err_from_is_err_and c.from_residual.result c.from_residual.ensures.1 in
    rw (p.1, p.2) (halts c.in_err-advance.field-0.0 c.args.keys.now c.entries.self c.advance.new.self _ _ _
    c.in_err-advance.ensures.fault c.entries.invariant.tabling)
