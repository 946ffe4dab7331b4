use Rattle.std.proofs.Common.{◌++◌, ℕ, List, refl, sym, subst, ◌∙◌, arith}
use Rattle.archive_streams.specs.Counting.{IsUnfinished}
use Rattle.archive_streams.specs.Pieces.{ReadsOn, unused}
use Rattle.archive_streams.proofs.Counting.{unfinished_nil}
use Rattle.archive_streams.proofs.Giving.{ReadsOn-same, ReadsOn-then}
use Rattle.archive_streams.proofs.reading.read_count.Goals as goal

pub digits-init : goal.digits-init
digits-init g c =
    let p = c.args.pieces.now in
    let d = g.R.Input.state c.args.reader.now in
    record {
      unfinished = subst IsUnfinished (sym c.requires.empty) unfinished_nil;
      room = omega arith;
      failures = refl;
      reads = subst (λ (s : List ℕ). ReadsOn p p d d (unused p) (s ++ unused p)) (sym c.requires.empty)
          (ReadsOn-same p d (unused p));
    }

pub returns-in_err-next_digit-clause-reads : goal.returns-in_err-next_digit-clause-reads
returns-in_err-next_digit-clause-reads g c =
    ReadsOn-then _ _ _ _ _ _ _ _ _ c.digits.invariant.reads c.next_digit.ensures.reads

pub digits-preserved : goal.digits-preserved
digits-preserved g c = record {
  unfinished = (rw c.in-More.is at c.in_ok-next_digit.ensures.step).0;
  room = omega (arith, c.digits.invariant.room, c.next_digit.ensures.room);
  failures = c.in_ok-next_digit.ensures.failures ∙ c.digits.invariant.failures;
  reads = ReadsOn-then _ _ _ _ _ _ _ _ _ c.digits.invariant.reads c.next_digit.ensures.reads;
}

pub returns-in-End-clause-reads : goal.returns-in-End-clause-reads
returns-in-End-clause-reads g c = ReadsOn-then _ _ _ _ _ _ _ _ _ c.digits.invariant.reads c.next_digit.ensures.reads

pub returns-in-Whole-clause-reads : goal.returns-in-Whole-clause-reads
returns-in-Whole-clause-reads g c = ReadsOn-then _ _ _ _ _ _ _ _ _ c.digits.invariant.reads c.next_digit.ensures.reads
