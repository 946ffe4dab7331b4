use Rattle.std.proofs.Common.{◌∙◌, ◌<◌, length, sym, ap, arith, rules, Some}
use Rattle.std.proofs.lemmas.List.{length-map}
use Rattle.peer_rules.specs.AllowLists.{networks_of}
use Rattle.socket_source.specs.Scripts.{listed_item, standing_by}
use Rattle.socket_source.specs.Steps.{Given, may_come}
use Rattle.socket_source.proofs.Listing.{listed_at}
use Rattle.socket_source.proofs.memory_source.MemorySource.give_next.Goals as goal

pub note-requires : goal.note-requires
note-requires c =
    let source = c.args.self.now in
    let items = source.steps.items in
    let found = c.in-Some.ensures.found in
    let within : c.in-Some.at < length items = omega (arith, found.within, length-map items listed_item) in
    let here = listed_at items c.in-Some.at c.index.result.now c.deref.result.now within c.index.ensures
    c.deref.ensures.value in
    let s = standing_by source.flags.items source.listeners (networks_of source.allowed) in
    let room : 0 < length c.give-step.new.buf = search rules in
    c.give-step.ensures.may s room ∙ ap (λ (g : Given). may_come s g.step) here ∙ found.may

pub returns-clause-lawful : goal.returns-clause-lawful
returns-clause-lawful c =
    let source = c.args.self.now in
    let items = source.steps.items in
    let found = c.in-Some.ensures.found in
    let within : c.in-Some.at < length items = omega (arith, found.within, length-map items listed_item) in
    let here = listed_at items c.in-Some.at c.index.result.now c.deref.result.now within c.index.ensures
    c.deref.ensures.value in
    let s = standing_by source.flags.items source.listeners (networks_of source.allowed) in
    let room : 0 < length c.give-step.new.buf = search rules in
    record {
      within = c.give-step.ensures.within;
      may = c.give-step.ensures.may s room ∙ ap (λ (g : Given). may_come s g.step) here ∙ found.may;
      becomes = c.note.ensures.becomes;
    }

pub returns-clause-comes : goal.returns-clause-comes
returns-clause-comes c = λ room.
    let items = c.args.self.now.steps.items in
    let found = c.in-Some.ensures.found in
    let within : c.in-Some.at < length items = omega (arith, found.within, length-map items listed_item) in
    let here = listed_at items c.in-Some.at c.index.result.now c.deref.result.now within c.index.ensures
    c.deref.ensures.value in (
      c.give-step.ensures.given room ∙ here ∙ sym found.next,
      rw (c.note.ensures.at, c.note.ensures.steps) (ap Some (sym found.rest)),
    )
