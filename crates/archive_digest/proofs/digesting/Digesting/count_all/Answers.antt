use Rattle.std.proofs.Common.{rules, IsTrue, ◌<◌, ◌∙◌, refl, sym, subst}
use Rattle.std.proofs.lemmas.Result.{err_from_is_err_and}
use Rattle.archive_streams.specs.Entries.{IsOpen, still_to_come}
use Rattle.archive_streams.specs.declared.entries.ArchiveEntries.{ArchiveEntries}
use Rattle.archive_digest.proofs.Steps.{halts, looks, running_none}
use Rattle.archive_digest.proofs.digesting.Digesting.count_all.Goals as goal

pub entries-init : goal.entries-init
entries-init g c = record {
  unclosed = c.requires.unclosed;
  reader = refl;
  writer = refl;
  running = running_none _ _ c.args.self.now _ _ c.requires;
}

pub entries-preserved : goal.entries-preserved
entries-preserved g c =
    let on : IsTrue c.in_ok-advance.field-0 = search rules in
    let one = c.in_ok-advance.ensures.entry on in
    record {
      unclosed = subst IsOpen (sym c.count.ensures.entries) one.open_after;
      reader = c.in_ok-advance.ensures.told ∙ c.entries.invariant.reader;
      writer = c.in_ok-count.ensures.told ∙ c.entries.invariant.writer;
      running = c.in_ok-count.ensures.counts _ _ _ _ (looks _ _ c.entries.self c.advance.new.self _ _ _ _ _
          c.advance.ensures.kept one c.entries.invariant.running);
    }

pub entries-smaller : goal.entries-smaller
entries-smaller g c =
    let on : IsTrue c.in_ok-advance.field-0 = search rules in
    let one = c.in_ok-advance.ensures.entry on in
    subst (λ (n : ArchiveEntries). still_to_come n < still_to_come c.entries.self.entries) (sym c.count.ensures.entries)
    one.nearer

pub returns-in_err-advance-clause-outcome : goal.returns-in_err-advance-clause-outcome
returns-in_err-advance-clause-outcome g c =
    let p = err_from_is_err_and c.from_residual.result c.from_residual.ensures.1 in
    rw (p.1, p.2) (halts _ _ c.in_err-advance.field-0.0 c.entries.self c.advance.new.self _ _ _ _ _ c.advance.ensures.kept
    c.in_err-advance.ensures.fault c.entries.invariant.running)

pub returns-in_err-count-clause-outcome : goal.returns-in_err-count-clause-outcome
returns-in_err-count-clause-outcome g c =
    let on : IsTrue c.in_ok-advance.field-0 = search rules in
    let one = c.in_ok-advance.ensures.entry on in
    let p = err_from_is_err_and c.from_residual-in_err-count.result c.from_residual-in_err-count.ensures.1 in
    rw (p.1, p.2) (c.in_err-count.ensures.fault _ _ _ _ (looks _ _ c.entries.self c.advance.new.self _ _ _ _ _
    c.advance.ensures.kept one c.entries.invariant.running))
