use Rattle.std.proofs.Common.{rules, IsTrue, ◌≡◌, false, ◌<◌, ◌∙◌, refl, sym, subst}
use Rattle.std.proofs.lemmas.Result.{err_from_is_err_and}
use Rattle.archive_streams.specs.Entries.{IsOpen, still_to_come}
use Rattle.archive_streams.specs.declared.entries.ArchiveEntries.{ArchiveEntries}
use Rattle.proof_engine.proofs.Provings.{halts_reading, none_taken, takes_entry, went_well}
use Rattle.proof_engine.specs.declared.proving.Proving.{Proving}
use Rattle.proof_engine.proofs.proving.Proving.read_all.Goals as goal

pub entries-init : goal.entries-init
entries-init g c = record {
  unclosed = c.requires;
  told = refl;
  taking = λ rs fresh. none_taken rs c.args.self.now _ fresh;
}

pub entries-preserved : goal.entries-preserved
entries-preserved g c =
    let on : IsTrue c.in_ok-next_entry.field-0 = search rules in
    let one = c.in_ok-next_entry.ensures.entry on in
    let read : Proving = record { entries = c.next_entry.new.entries; prover = c.entries.self.prover } in
    record {
      unclosed = subst IsOpen (sym c.take.ensures.entries) one.open_after;
      told = c.in_ok-next_entry.ensures.told ∙ c.entries.invariant.told;
      taking = λ rs fresh.
          takes_entry rs c.entries.self read c.take.new.self _ _ _ refl one c.take.ensures.entries
          (went_well c.take.result _ (sym c.is_err.ensures.value ∙ c.if-is_err.false) c.take.ensures.taken)
          (c.entries.invariant.taking rs fresh);
    }

pub entries-smaller : goal.entries-smaller
entries-smaller g c =
    let on : IsTrue c.in_ok-next_entry.field-0 = search rules in
    let one = c.in_ok-next_entry.ensures.entry on in
    subst (λ (n : ArchiveEntries). still_to_come n < still_to_come c.entries.self.entries) (sym c.take.ensures.entries)
    one.nearer

pub returns-in_err-next_entry-clause-outcome : goal.returns-in_err-next_entry-clause-outcome
returns-in_err-next_entry-clause-outcome g c =
    λ rs fresh.
    let p = err_from_is_err_and c.from_residual.result c.from_residual.ensures.1 in
    let w = c.entries.invariant.taking rs fresh in
    rw (p.1, p.2) (halts_reading c.in_err-next_entry.field-0.0 c.entries.self.entries c.next_entry.new.entries _ _ _ w.xs
    c.in_err-next_entry.ensures.fault w.reads)

pub returns-clause-outcome : goal.returns-clause-outcome
returns-clause-outcome g c =
    λ rs fresh.
    let w = c.entries.invariant.taking rs fresh in
    let off : c.in_ok-next_entry.field-0 ≡ false = search rules in
    record {
      xs = w.xs;
      whole = (c.in_ok-next_entry.ensures.end off).whole _ w.xs w.reads;
      taken = w.taken;
    }
