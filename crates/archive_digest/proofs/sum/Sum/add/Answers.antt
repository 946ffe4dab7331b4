use Rattle.archive_digest.proofs.Sums.{sum_more}
use Rattle.archive_digest.proofs.sum.Sum.add.Goals as goal

pub returns : goal.returns
returns c = λ roots es e is short h.
    sum_more roots c.args.self.now _ es e c.args.octets.now c.hash_entry-size.result is short
    c.hash_entry-size.ensures.size
    c.hash_entry-size.ensures.hashed c.saturating_add-self.ensures c.saturating_add-self-2.ensures
    (c.grow.ensures roots es e is) h
