use Rattle.std.proofs.Common.{arith, ap, length, refl}
use Rattle.archive_streams.proofs.Merges.{both_start}
use Rattle.archive_streams.proofs.Turns.{near_start}
use Rattle.archive_streams.proofs.merge.Merge.new.Goals as goal

pub returns-clause-due : goal.returns-clause-due
returns-clause-due c =
    let left = c.in_ok-new.ensures in
    let right = c.in_ok-new-2.ensures in
    let last = c.in_ok-new-3.ensures in
    record {
      room = record {
        left = left.room;
        right = right.room;
        last = last.room;
        last_start = omega (arith, last.start);
        left_near = near_start c.in_ok-new.field-0 left.unused left.position;
        right_near = near_start c.in_ok-new-2.field-0 right.unused right.position;
      };
      right_start = λ some. absurd (some right.empty);
      counted = omega (arith, ap length right.empty);
    }

pub returns-clause-empty : goal.returns-clause-empty
returns-clause-empty c = c.in_ok-new-2.ensures.empty

pub returns-clause-both : goal.returns-clause-both
returns-clause-both c = λ dl dr start.
    let left = c.in_ok-new.ensures in
    let right = c.in_ok-new-2.ensures in
    both_start _ dl dr start left.unused left.position left.calls left.ends right.unused right.position right.calls
    right.ends c.in_ok-new-3.ensures.empty c.new-4.ensures refl
