use Rattle.std.proofs.Common.{◌∙◌, ◌<◌, length, arith}
use Rattle.std.specs.Prelude.{map}
use Rattle.std.proofs.lemmas.List.{length-map}
use Rattle.peer_rules.specs.AllowLists.{networks_of}
use Rattle.socket_source.specs.Scripts.{listed_item, standing_by}
use Rattle.socket_source.proofs.Listing.{behind-passed, first_here, may_at, next_of-passed}
use Rattle.socket_source.proofs.memory_source.MemorySource.find.Goals as goal

pub returns-then-may_come-clause-found : goal.returns-then-may_come-clause-found
returns-then-may_come-clause-found c =
    let source = c.args.self.now in
    let items = source.steps.items in
    let at = c.loop-at.at in
    let within : at < length items = omega (arith, c.loop-at-test.true, c.len-at-end.ensures) in
    let below : at < length (map listed_item items) = omega (arith, within, length-map items listed_item) in
    let may = may_at source.flags.items c.deref.result.now source.listeners (networks_of source.allowed) items at c.index.result.now
    c.deref-in-loop-at.result.now c.may_come.result within c.index.ensures c.deref-in-loop-at.ensures.value
    c.deref.ensures.value c.may_come.ensures in
    first_here (standing_by source.flags.items source.listeners (networks_of source.allowed)) (map listed_item items) source.at at below
    (may ∙ c.if-may_come.true) c.loop-at.invariant.next c.loop-at.invariant.rest

pub loop-at-preserved : goal.loop-at-preserved
loop-at-preserved c =
    let source = c.args.self.now in
    let items = source.steps.items in
    let at = c.loop-at.at in
    let within : at < length items = omega (arith, c.loop-at-test.true, c.len-at-end.ensures) in
    let below : at < length (map listed_item items) = omega (arith, within, length-map items listed_item) in
    let may = may_at source.flags.items c.deref.result.now source.listeners (networks_of source.allowed) items at c.index.result.now
    c.deref-in-loop-at.result.now c.may_come.result within c.index.ensures c.deref-in-loop-at.ensures.value
    c.deref.ensures.value c.may_come.ensures in
    let s = standing_by source.flags.items source.listeners (networks_of source.allowed) in
    record {
      next = c.loop-at.invariant.next ∙ next_of-passed s (map listed_item items) at below (may ∙ c.if-may_come.false);
      rest = c.loop-at.invariant.rest ∙ behind-passed s (map listed_item items) at below (may ∙ c.if-may_come.false);
    }
