use Rattle.std.proofs.Common.{◌≤◌, length, drop}
use Rattle.archive_text.specs.Entries.{IsEntry}
use Rattle.archive_text.specs.declared.limits.TheConstants.{ENTRY_MAX}
use Rattle.archive_vec.proofs.Finding.{all_at}
use Rattle.archive_vec.proofs.MergingSteps.{drop_ascends, rest_goes_on, rest_pushed}
use Rattle.archive_vec.proofs.entry_list.EntryList.push_rest.Goals as goal

pub push-requires-clause-below : goal.push-requires-clause-below
push-requires-clause-below c =
    rest_goes_on c.args.self.now (drop c.args.from c.args.other.now) c.loop-index.self c.args.other.now _
    c.loop-index.index
    c.len-ascending.ensures.archive.ascending (drop_ascends _ _ c.len-index-end.ensures.archive.ascending)
    c.requires.apart
    c.loop-index.invariant c.at.ensures

pub push-requires-clause-entry : goal.push-requires-clause-entry
push-requires-clause-entry c = all_at IsEntry c.args.other.now _ c.loop-index.index
    c.len-index-end.ensures.archive.entries c.at.ensures

pub push-requires-clause-fits : goal.push-requires-clause-fits
push-requires-clause-fits c =
    all_at (λ e. length e.octets ≤ ENTRY_MAX) c.args.other.now _ c.loop-index.index c.len-index-end.ensures.archive.fits
    c.at.ensures

pub loop-index-preserved : goal.loop-index-preserved
loop-index-preserved c = rest_pushed _ _ c.args.other.now _ _ c.loop-index.index c.loop-index.invariant c.at.ensures
    c.in_ok-push.ensures.ok
