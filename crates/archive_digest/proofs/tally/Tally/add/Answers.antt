use Rattle.std.proofs.Common.{Option, subst}
use Rattle.archive_digest.specs.Sums.{IsLatestSum}
use Rattle.archive_digest.specs.declared.sum.Sum.{Sum}
use Rattle.archive_digest.proofs.Sums.{last_grows}
use Rattle.archive_digest.proofs.tally.Tally.add.Goals as goal

pub returns-in-Some : goal.returns-in-Some
returns-in-Some c = λ roots xs latest e is a b h. record {
  same = h.same;
  all = c.add.ensures roots xs e is a h.all;
  last = c.add-in-Some.ensures roots latest e is b
      (subst (λ (o : Option Sum). IsLatestSum roots o c.args.self.now.total latest) c.in-Some.is h.last);
}

pub returns-in_default : goal.returns-in_default
returns-in_default c = λ roots xs latest e is a b h. record {
  same = h.same;
  all = c.add.ensures roots xs e is a h.all;
  last = last_grows roots c.args.self.now.latest _ _ latest _ c.in_default.not-Some
      (c.add.ensures roots latest e is b) h.last;
}
