use Rattle.std.proofs.lemmas.Bool.{false≢true}
use Rattle.store_site.specs.Ranges.{IsBetween}
use Rattle.store_site.proofs.Places.{pushed_places, skipped_places}
use Rattle.store_site.proofs.ranges.push_dated.Goals as goal

pub returns-in_ok-push-clause-places : goal.returns-in_ok-push-clause-places
returns-in_ok-push-clause-places c e h =
    pushed_places c.args.ranges.now.items c.push.new.self.items c.in_ok-range.range e
    (IsBetween c.args.from c.args.to e.instant) c.in_ok-push.ensures.items (c.in_ok-range.ensures e h)

pub returns-else-is_proper-clause-places : goal.returns-else-is_proper-clause-places
returns-else-is_proper-clause-places c e h =
    skipped_places c.args.ranges.now.items c.in_ok-range.range e (IsBetween c.args.from c.args.to e.instant)
    (λ proper. false≢true (c.if-is_proper.ensures.1 proper)) (c.in_ok-range.ensures e h)
