use Rattle.std.proofs.Common.{◌≤◌, length, arith}
use Rattle.archive_text.specs.Entries.{IsEntry}
use Rattle.archive_text.specs.declared.limits.TheConstants.{ENTRY_MAX}
use Rattle.archive_vec.proofs.Finding.{all_at}
use Rattle.archive_vec.proofs.MergingSteps.{left_goes_on, merged, right_goes_on, step_both, step_left, step_right}
use Rattle.archive_vec.proofs.entry_list.EntryList.merged.Goals as goal

pub push-requires-clause-below : goal.push-requires-clause-below
push-requires-clause-below c = left_goes_on _ _ _ _ _ _ c.at-left.ensures c.loop-i.invariant.merging

pub push-requires-clause-entry : goal.push-requires-clause-entry
push-requires-clause-entry c = all_at IsEntry _ _ _ c.len.ensures.archive.entries c.at-left.ensures

pub push-requires-clause-fits : goal.push-requires-clause-fits
push-requires-clause-fits c = all_at (λ e. length e.octets ≤ ENTRY_MAX) _ _ _ c.len.ensures.archive.fits
    c.at-left.ensures

pub loop-i-preserved-in-Less : goal.loop-i-preserved-in-Less
loop-i-preserved-in-Less c =
    record {
      left = omega arith;
      right = omega arith;
      merging = step_left _ _ _ _ _ _ _ _ c.len.ensures.archive.ascending c.len-in-loop-i.ensures.archive.ascending
          c.at-left.ensures
          c.at-right.ensures c.in-Less.ensures c.in_ok-push-in-Less.ensures.ok c.loop-i.invariant.merging;
    }

pub push-requires-in-Equal-clause-below : goal.push-requires-in-Equal-clause-below
push-requires-in-Equal-clause-below c = left_goes_on _ _ _ _ _ _ c.at-left.ensures c.loop-i.invariant.merging

pub push-requires-in-Equal-clause-entry : goal.push-requires-in-Equal-clause-entry
push-requires-in-Equal-clause-entry c = all_at IsEntry _ _ _ c.len.ensures.archive.entries c.at-left.ensures

pub push-requires-in-Equal-clause-fits : goal.push-requires-in-Equal-clause-fits
push-requires-in-Equal-clause-fits c = all_at (λ e. length e.octets ≤ ENTRY_MAX) _ _ _ c.len.ensures.archive.fits
    c.at-left.ensures

pub loop-i-preserved-in-Equal : goal.loop-i-preserved-in-Equal
loop-i-preserved-in-Equal c =
    record {
      left = omega arith;
      right = omega arith;
      merging = step_both _ _ _ _ _ _ _ _ c.len.ensures.archive.ascending c.len-in-loop-i.ensures.archive.ascending
          c.at-left.ensures
          c.at-right.ensures c.in-Equal.ensures c.in_ok-push-in-Equal.ensures.ok c.loop-i.invariant.merging;
    }

pub push-requires-in-Greater-clause-below : goal.push-requires-in-Greater-clause-below
push-requires-in-Greater-clause-below c = right_goes_on _ _ _ _ _ _ c.at-right.ensures c.loop-i.invariant.merging

pub push-requires-in-Greater-clause-entry : goal.push-requires-in-Greater-clause-entry
push-requires-in-Greater-clause-entry c = all_at IsEntry _ _ _ c.len-in-loop-i.ensures.archive.entries
    c.at-right.ensures

pub push-requires-in-Greater-clause-fits : goal.push-requires-in-Greater-clause-fits
push-requires-in-Greater-clause-fits c =
    all_at (λ e. length e.octets ≤ ENTRY_MAX) _ _ _ c.len-in-loop-i.ensures.archive.fits c.at-right.ensures

pub loop-i-preserved : goal.loop-i-preserved
loop-i-preserved c =
    record {
      left = omega arith;
      right = omega arith;
      merging = step_right _ _ _ _ _ _ _ _ c.len.ensures.archive.ascending c.len-in-loop-i.ensures.archive.ascending
          c.at-left.ensures
          c.at-right.ensures c.in-Greater.ensures c.in_ok-push-in-Greater.ensures.ok c.loop-i.invariant.merging;
    }

pub returns : goal.returns
returns c = λ e. merged _ _ _ _ _ _ _ c.loop-i.invariant.merging c.in_ok-push_rest.ensures c.in_ok-push_rest-2.ensures e
