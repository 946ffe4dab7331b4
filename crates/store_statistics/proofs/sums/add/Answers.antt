use Rattle.std.proofs.Common.{subst, sym}
use Rattle.store_statistics.proofs.Summing.{Adds, sums_more}
use Rattle.store_statistics.proofs.sums.add.Goals as goal

pub returns : goal.returns
returns c = λ fs f is h.
    sums_more fs f c.args.sum.now _ (subst (Adds c.args.sum.now _) (sym is) (record {
      records = c.saturating_add-sum.ensures;
      octets = c.saturating_add-sum-2.ensures;
      first = c.earlier-sum.ensures;
      last = c.later-sum.ensures;
    })) h
