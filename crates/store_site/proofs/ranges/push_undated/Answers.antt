use Rattle.store_site.proofs.Places.{pushed_first}
use Rattle.store_site.proofs.ranges.push_undated.Goals as goal

pub returns-in_ok-push-clause-places : goal.returns-in_ok-push-clause-places
returns-in_ok-push-clause-places c e h =
    pushed_first c.args.ranges.now.items c.push.new.self.items c.in_ok-range.range e c.args.undated c.requires
    c.in_ok-push.ensures.items (c.in_ok-range.ensures.places e h) c.if-undated.true
