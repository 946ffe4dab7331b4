use Rattle.std.proofs.Common.{rules, IsTrue, ◌<◌, ◌∙◌, refl, sym, subst}
use Rattle.std.proofs.lemmas.Result.{err_from_is_err_and}
use Rattle.archive_streams.specs.Entries.{IsOpen, still_to_come}
use Rattle.archive_streams.specs.declared.entries.ArchiveEntries.{ArchiveEntries}
use Rattle.proof_engine.proofs.Steps.{halts, takes, taking_none}
use Rattle.proof_engine.specs.declared.rooting.Rooting.{Rooting}
use Rattle.proof_engine.proofs.rooting.Rooting.read_all.Goals as goal

pub entries-init : goal.entries-init
entries-init g c = record {
  unclosed = c.requires.unclosed;
  told = refl;
  taking = taking_none c.args.self.now _ c.requires;
}

pub entries-preserved : goal.entries-preserved
entries-preserved g c =
    let on : IsTrue c.in_ok-next_entry.field-0 = search rules in
    let one = c.in_ok-next_entry.ensures.entry on in
    let read : Rooting = record { entries = c.next_entry.new.entries; tree = c.entries.self.tree } in
    record {
      unclosed = subst IsOpen (sym c.take.ensures.entries) one.open_after;
      told = c.in_ok-next_entry.ensures.told ∙ c.entries.invariant.told;
      taking = takes c.entries.self read c.take.new.self _ _ _ refl one c.take.ensures.entries c.take.ensures.taken
          c.entries.invariant.taking;
    }

pub entries-smaller : goal.entries-smaller
entries-smaller g c =
    let on : IsTrue c.in_ok-next_entry.field-0 = search rules in
    let one = c.in_ok-next_entry.ensures.entry on in
    subst (λ (n : ArchiveEntries). still_to_come n < still_to_come c.entries.self.entries) (sym c.take.ensures.entries)
    one.nearer

pub returns-in_err-next_entry-clause-outcome : goal.returns-in_err-next_entry-clause-outcome
returns-in_err-next_entry-clause-outcome g c =
    let p = err_from_is_err_and c.from_residual.result c.from_residual.ensures.1 in
    let read : Rooting = record { entries = c.next_entry.new.entries; tree = c.entries.self.tree } in
    rw (p.1, p.2) (halts c.in_err-next_entry.field-0.0 c.entries.self read _ _ _ c.in_err-next_entry.ensures.fault
    c.entries.invariant.taking)
