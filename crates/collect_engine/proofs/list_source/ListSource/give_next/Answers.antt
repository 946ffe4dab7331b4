use Rattle.std.proofs.Common.{◌≡◌, length, rules, arith, ◌∙◌}
use Rattle.collect_engine.proofs.Listing.{item_at}
use Rattle.collect_engine.proofs.list_source.ListSource.give_next.Goals as goal

pub returns-clause-given : goal.returns-clause-given
returns-clause-given c = λ room.
    let items = c.args.self.now.steps.items in
    let count : c.len.result ≡ length items = search rules in
    c.give.ensures.given room
    ∙ item_at items c.args.self.now.counts.steps c.in-Some.last c.min-at.result c.index.result.now c.as_slice.result.now
    (omega arith) (omega arith) c.min-at.ensures c.index.ensures c.as_slice.ensures.value
