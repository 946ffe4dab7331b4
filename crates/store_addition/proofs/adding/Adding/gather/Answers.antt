use Rattle.std.proofs.Common.{◌<◌, inr, subst, sym, ◌∙◌}
use Rattle.archive_streams.specs.Entries.{IsOpen, still_to_come}
use Rattle.archive_streams.specs.declared.entries.ArchiveEntries.{ArchiveEntries}
use Rattle.durable_store.proofs.Readable.{at_err}
use Rattle.store_addition.specs.declared.fault.AddFault.TheVariants.{Input, Memory}
use Rattle.store_addition.proofs.Steps.{began_halted, began_piece, began_whole, ends_whole, halts, halts_full, is_next}
use Rattle.store_addition.proofs.Steps.{looks, nearer_then, takes_one, takes_room}
use Rattle.store_addition.proofs.adding.Adding.gather.Goals as goal

pub returns-in_err-advance-clause-fault : goal.returns-in_err-advance-clause-fault
returns-in_err-advance-clause-fault g c =
    at_err c.from_residual.result (Input c.in_err-advance.field-0.0) _ c.from_residual.ensures.1
    (λ d done gathers. halts c.in_err-advance.field-0.0 c.entries.self c.advance.new.self d (g.R.Input.state c.entries.input)
    (g.R.Input.state c.advance.new.input) done c.advance.ensures.kept c.in_err-advance.ensures.fault
    (c.entries.invariant.on d done gathers))

pub returns-in_err-advance-clause-began : goal.returns-in_err-advance-clause-began
returns-in_err-advance-clause-began g c d done gathers =
    began_halted (Input c.in_err-advance.field-0.0) c.advance.new.self d (g.R.Input.state c.advance.new.input) done
    (halts c.in_err-advance.field-0.0 c.entries.self c.advance.new.self d (g.R.Input.state c.entries.input)
    (g.R.Input.state c.advance.new.input) done c.advance.ensures.kept c.in_err-advance.ensures.fault
    (c.entries.invariant.on d done gathers))

pub returns-then-not-branch-clause-end : goal.returns-then-not-branch-clause-end
returns-then-not-branch-clause-end g c is d done gathers =
    ends_whole c.entries.self c.advance.new.self d (g.R.Input.state c.entries.input)
    (g.R.Input.state c.advance.new.input) done c.advance.ensures.kept (c.in_ok-advance.ensures.end c.if-not-branch.true)
    (c.entries.invariant.on d done gathers)

pub returns-then-not-branch-clause-began : goal.returns-then-not-branch-clause-began
returns-then-not-branch-clause-began g c d done gathers =
    began_whole c.advance.new.self d (g.R.Input.state c.advance.new.input) done
    (ends_whole c.entries.self c.advance.new.self d (g.R.Input.state c.entries.input)
    (g.R.Input.state c.advance.new.input) done c.advance.ensures.kept (c.in_ok-advance.ensures.end c.if-not-branch.true)
    (c.entries.invariant.on d done gathers))

pub take-requires : goal.take-requires
take-requires g c =
    let d = c.requires.reader.first in
    let done = c.requires.reader.done in
    let gathers = c.requires.reader.gathering in
    is_next c.advance.new.self d (g.R.Input.state c.advance.new.input) done
    (looks c.entries.self c.advance.new.self d (g.R.Input.state c.entries.input)
    (g.R.Input.state c.advance.new.input) done c.advance.ensures.kept
    (c.in_ok-advance.ensures.entry c.if-not-branch.false) (c.entries.invariant.on d done gathers))

pub entries-preserved : goal.entries-preserved
entries-preserved g c = record {
  unclosed = subst IsOpen (sym c.take.ensures.entries)
      (c.in_ok-advance.ensures.entry c.if-not-branch.false).open_after;
  on = λ d done gathers.
      takes_one c.advance.new.self c.take.new.self d (g.R.Input.state c.advance.new.input) done c.take.ensures.entries
      c.in_ok-take.ensures.taken
      (looks c.entries.self c.advance.new.self d (g.R.Input.state c.entries.input)
      (g.R.Input.state c.advance.new.input) done c.advance.ensures.kept
      (c.in_ok-advance.ensures.entry c.if-not-branch.false) (c.entries.invariant.on d done gathers));
  came = inr (nearer_then c.args.self.now c.entries.self c.take.new.self c.entries.invariant.came
      (subst (λ (n : ArchiveEntries). still_to_come n < still_to_come c.entries.self.entries) (sym c.take.ensures.entries)
      (c.in_ok-advance.ensures.entry c.if-not-branch.false).nearer));
  room = λ was.
      let d = c.requires.reader.first in
      let done = c.requires.reader.done in
      let gathers = c.requires.reader.gathering in
      takes_room c.entries.self c.advance.new.self c.take.new.self c.entries-test.true c.advance.ensures.kept
      (is_next c.advance.new.self d (g.R.Input.state c.advance.new.input) done
      (looks c.entries.self c.advance.new.self d (g.R.Input.state c.entries.input)
      (g.R.Input.state c.advance.new.input) done c.advance.ensures.kept
      (c.in_ok-advance.ensures.entry c.if-not-branch.false) (c.entries.invariant.on d done gathers)))
      c.in_ok-take.ensures.taken;
  failures = c.in_ok-advance.ensures.failures ∙ c.entries.invariant.failures;
}

pub returns-in_err-take-clause-fault : goal.returns-in_err-take-clause-fault
returns-in_err-take-clause-fault g c =
    at_err c.from_residual-in_err-take.result Memory _ c.from_residual-in_err-take.ensures.1
    (λ d done gathers. halts_full c.advance.new.self c.take.new.self d (g.R.Input.state c.advance.new.input) done c.take.ensures.entries
    c.in_err-take.ensures.err
    (looks c.entries.self c.advance.new.self d (g.R.Input.state c.entries.input)
    (g.R.Input.state c.advance.new.input) done c.advance.ensures.kept
    (c.in_ok-advance.ensures.entry c.if-not-branch.false) (c.entries.invariant.on d done gathers)))

pub returns-in_err-take-clause-began : goal.returns-in_err-take-clause-began
returns-in_err-take-clause-began g c d done gathers =
    began_halted Memory c.take.new.self d (g.R.Input.state c.advance.new.input) done
    (halts_full c.advance.new.self c.take.new.self d (g.R.Input.state c.advance.new.input) done c.take.ensures.entries
    c.in_err-take.ensures.err
    (looks c.entries.self c.advance.new.self d (g.R.Input.state c.entries.input)
    (g.R.Input.state c.advance.new.input) done c.advance.ensures.kept
    (c.in_ok-advance.ensures.entry c.if-not-branch.false) (c.entries.invariant.on d done gathers)))

pub returns-clause-piece : goal.returns-clause-piece
returns-clause-piece g c is d done gathers =
    record { gathering = c.entries.invariant.on d done gathers; full = c.entries-test.false }

pub returns-clause-began : goal.returns-clause-began
returns-clause-began g c d done gathers =
    began_piece c.entries.self d (g.R.Input.state c.entries.input) done (c.entries.invariant.on d done gathers)
