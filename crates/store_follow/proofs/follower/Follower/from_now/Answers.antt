use Rattle.std.proofs.Common.{◌≡◌, ◌∙◌, ◌≤◌, List, ℕ, ap, subst, sym}
use Rattle.std.specs.Prelude.{Contains}
use Rattle.std.specs.List.Sorted.{IsStrictlyIncreasing}
use Rattle.record_store.specs.Names.{journal_name}
use Rattle.store_follow.proofs.Looking.{behind_newest}
use Rattle.store_follow.proofs.follower.Follower.from_now.Goals as goal

pub returns-clause-behind : goal.returns-clause-behind
returns-clause-behind g c tells sound =
    let told = c.in-Ok.ensures.told tells in
    let first = g.D.Disk.state c.args.disk.now in
    let later = g.D.Disk.state c.list.new.disk in
    let numbers = c.in_ok-numbers.numbers.items in
    let number = c.in-Some.number in
    let are = c.in_ok-numbers.ensures.shown told sound in
    let same = c.in_ok-numbers.ensures.same told in
    let is : c.start_of-place.result.number ≡ number = c.start_of-place.ensures.number in
    let named : c.in_ok-name.name ≡ journal_name c.start_of-place.result.number =
    c.in_ok-name.ensures ∙ ap journal_name (sym is) in
    let some : Contains numbers number =
    subst (λ (l : List ℕ). Contains l number) c.deref.ensures.value c.in-Some.ensures.some in
    let greatest : (m : ℕ) → Contains numbers m → m ≤ number = λ m has.
    subst (λ (l : List ℕ). (m : ℕ) → Contains l m → m ≤ number) c.deref.ensures.value
    (c.in-Some.ensures.greatest (subst IsStrictlyIncreasing (sym c.deref.ensures.value) are.ascend)) m has in
    behind_newest first later numbers c.in_ok-name.name
    (record { number = c.start_of-place.result.number; at = c.in-Ok.end; is_sealed = c.start_of-place.result.is_sealed })
    are same named (subst (Contains numbers) (sym is) some)
    (subst (λ (k : ℕ). (m : ℕ) → Contains numbers m → m ≤ k) (sym is) greatest)
    (c.in-Ok.ensures.there tells (same.lost ∙ sound))
    (λ file shown. c.in-Ok.ensures.ends tells (same.lost ∙ sound) file shown)
