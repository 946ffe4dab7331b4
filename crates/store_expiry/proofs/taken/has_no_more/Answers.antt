use Rattle.std.proofs.Common.{ap, map, ◌∙◌}
use Rattle.std.proofs.lemmas.Bool.Decides.{Decides-eqb}
use Rattle.store_upkeep.specs.Compaction.{shown}
use Rattle.store_upkeep.proofs.DayJoins.{opens_still}
use Rattle.store_expiry.proofs.Taking.{has_more, has_none, two_items}
use Rattle.store_expiry.proofs.taken.has_no_more.Goals as goal

pub returns-in-Ok-clause-none : goal.returns-in-Ok-clause-none
returns-in-Ok-clause-none g c none t sound es left file rest =
    let state = g.D.File.Input.state in
    let zero = g.D.Disk.state c.args.disk.now in
    let first = c.in_ok-open.field-0 in
    let second = c.in_ok-open-2.field-0 in
    let told = c.open-2.ensures.told t in
    let same = c.open.ensures.same told in
    let items = two_items c.as_mut_slice.result.now c.push.new.self.items c.push-2.new.self.items
    c.new-inputs.result.items first second c.as_mut_slice.ensures.value c.in_ok-push-2.ensures.items
    c.in_ok-push.ensures.items c.new-inputs.ensures.items in
    let opened = c.in_ok-open-2.ensures.opened t (same.lost ∙ sound) in
    has_none (shown zero) c.args.name.now c.args.draft.now (state first) (state second) _ _ _ _ _ c.in-Ok.others es left
    (c.in_ok-open.ensures.opened told sound)
    (opens_still zero (g.D.Disk.state c.open.new.disk) c.args.draft.now (state second) same opened)
    (ap (map state) items) c.in-Ok.ensures.outcome file rest
    ((Decides-eqb c.in-Ok.others 0).0 none)

pub returns-in-Ok-clause-more : goal.returns-in-Ok-clause-more
returns-in-Ok-clause-more g c off t sound es left file rest =
    let state = g.D.File.Input.state in
    let zero = g.D.Disk.state c.args.disk.now in
    let first = c.in_ok-open.field-0 in
    let second = c.in_ok-open-2.field-0 in
    let told = c.open-2.ensures.told t in
    let same = c.open.ensures.same told in
    let items = two_items c.as_mut_slice.result.now c.push.new.self.items c.push-2.new.self.items
    c.new-inputs.result.items first second c.as_mut_slice.ensures.value c.in_ok-push-2.ensures.items
    c.in_ok-push.ensures.items c.new-inputs.ensures.items in
    let opened = c.in_ok-open-2.ensures.opened t (same.lost ∙ sound) in
    has_more (shown zero) c.args.name.now c.args.draft.now (state first) (state second) _ _ _ _ _ c.in-Ok.others es left
    (c.in_ok-open.ensures.opened told sound)
    (opens_still zero (g.D.Disk.state c.open.new.disk) c.args.draft.now (state second) same opened)
    (ap (map state) items) c.in-Ok.ensures.outcome file rest
    (λ zero. let yes = (Decides-eqb c.in-Ok.others 0).1 zero in absurd (cc (off, yes)))
