use Rattle.archive_counts.proofs.HeaderTexts.{no_space, split_there}
use Rattle.archive_counts.proofs.header.split_space.Goals as goal

pub returns-in-None : goal.returns-in-None
returns-in-None c = λ front rest free is. absurd (no_space c.args.octets.now front rest is c.in-None.ensures)

pub returns-in-Some : goal.returns-in-Some
returns-in-Some c = λ front rest free is.
    split_there c.args.octets.now front rest c.split_at.result.0.now c.split_at.result.1.now c.behind_first.result.now
    c.in-Some.offset free is c.in-Some.ensures c.split_at.ensures.front c.split_at.ensures.back c.behind_first.ensures
