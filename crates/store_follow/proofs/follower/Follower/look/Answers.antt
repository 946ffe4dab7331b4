use Rattle.std.proofs.Common.{arith, ◌≡◌, ◌⊎◌, ◌∙◌, ◌<◌, ◌≤◌, List, [], ℕ, Some, None, false, refl, subst, sym}
use Rattle.std.specs.Prelude.{Contains, Err, IfNone, IfSome, Ok}
use Rattle.std.specs.List.Sorted.{IsStrictlyIncreasing}
use Rattle.journal.specs.Journals.{IsSound}
use Rattle.store_follow.specs.Looks.{Fails, IsBeginning, place_of}
use Rattle.store_follow.specs.declared.fault.FollowFault.{FollowFault}
use Rattle.store_follow.proofs.Looking.{err_clause, gone_clause, is_read, none_listed, nothing_written, ok_clause}
use Rattle.store_follow.proofs.Looking.{shorter_clause, shown_before, shown_then, unread_clause}
use Rattle.store_follow.proofs.Octets.{at_err, unchanged_then}
use Rattle.store_follow.proofs.follower.Follower.look.Goals.{else-not-looked-via-then-not-looked+else-are_all_below, else-not-looked-via-else-not-looked}
use Rattle.store_follow.proofs.follower.Follower.look.Goals as goal

pub returns-in_err-numbers-clause-stopped : goal.returns-in_err-numbers-clause-stopped
returns-in_err-numbers-clause-stopped g c =
    let fault = c.in_err-numbers.field-0.0 in
    let state = g.D.Disk.state c.args.disk.now in
    let place = place_of c.args.self.now in
    let taken = (g.W.Output.state c.args.output.now).taken in
    at_err c.from_residual.result fault (λ (f : FollowFault). g.D.Disk.tells c.list.new.disk → IsSound state
    → Fails f state place place taken taken) c.from_residual.ensures.1
    (λ tells sound. nothing_written fault state place taken c.in_err-numbers.ensures.fault)

pub returns-in_default-clause-looked : goal.returns-in_default-clause-looked
returns-in_default-clause-looked g c tells sound =
    none_listed (g.D.Disk.state c.args.disk.now) (place_of c.args.self.now) c.in_ok-numbers.numbers.items
    (g.W.Output.state c.args.output.now).taken (c.in_ok-numbers.ensures.shown tells sound)
    (subst (λ (l : List ℕ). IsBeginning (place_of c.args.self.now) l None) c.deref.ensures.value c.in_default.ensures)

pub returns-in-Ok-true-clause-stopped : goal.returns-in-Ok-true-clause-stopped
returns-in-Ok-true-clause-stopped g c tells sound =
    let state = g.D.Disk.state c.args.disk.now in
    let later = g.D.Disk.state c.list.new.disk in
    let old = place_of c.args.self.now in
    let new = place_of c.begins_anew.new.self in
    let taken = (g.W.Output.state c.args.output.now).taken in
    let numbers = c.in_ok-numbers.numbers.items in
    let chosen = c.in-Some.place in
    let listed = c.in-Ok-true.ensures.told tells in
    let same = c.in_ok-numbers.ensures.same listed in
    let found = c.in-Ok-true.ensures.shorter c.in-Ok-true.field-0-test tells (same.lost ∙ sound) in
    subst (λ (f : FollowFault). Fails f state old new taken taken) (sym c.begins_anew.ensures.fault)
    (shorter_clause state old numbers chosen chosen taken taken (c.in_ok-numbers.ensures.shown listed sound)
    (subst (λ (l : List ℕ). IsBeginning old l (Some chosen)) c.deref.ensures.value c.in-Some.ensures) new found.0
    (shown_before state later c.in_ok-name.name chosen.number same c.in_ok-name.ensures (Some found.0) found.1) found.2
    c.begins_anew.ensures.place)

pub returns-in-Err-clause-stopped : goal.returns-in-Err-clause-stopped
returns-in-Err-clause-stopped g c tells sound =
    let state = g.D.Disk.state c.args.disk.now in
    let old = place_of c.args.self.now in
    let taken = (g.W.Output.state c.args.output.now).taken in
    let numbers = c.in_ok-numbers.numbers.items in
    let chosen = c.in-Some.place in
    let listed = c.in-Err.ensures.told tells in
    unread_clause state old numbers chosen chosen taken taken (c.in_ok-numbers.ensures.shown listed sound)
    (subst (λ (l : List ℕ). IsBeginning old l (Some chosen)) c.deref.ensures.value c.in-Some.ensures) c.in-Err.fault
    c.fault_at.result c.fault_at.ensures

pub returns-in_err-looked-clause-stopped : goal.returns-in_err-looked-clause-stopped
returns-in_err-looked-clause-stopped g c =
    let state = g.D.Disk.state c.args.disk.now in
    let listed = g.D.Disk.state c.list.new.disk in
    let later = g.D.Disk.state c.is_shorter.new.disk in
    let tells = g.D.Disk.tells c.follow_batches-read.new.disk in
    let old = place_of c.args.self.now in
    let new = place_of c.came_to.new.self in
    let before = (g.W.Output.state c.args.output.now).taken in
    let now = (g.W.Output.state c.follow_batches-read.new.output).taken in
    let numbers = c.in_ok-numbers.numbers.items in
    let chosen = c.in-Some.place in
    let place = c.follow_batches-read.new.place in
    let h = c.follow_batches-read.ensures in
    let fault = c.in_err-looked.field-0.0 in
    at_err c.from_residual-in_err-looked.result fault (λ (f : FollowFault). tells → IsSound state
    → Fails f state old new before now) c.from_residual-in_err-looked.ensures.1
    (λ told sound.
    let here = h.told told in
    let first = c.in-Ok-false.ensures.told here in
    let same = c.in_ok-numbers.ensures.same first in
    let both = unchanged_then state listed later same (c.in-Ok-false.ensures.same here) in
    err_clause state old numbers chosen place before now (c.in_ok-numbers.ensures.shown first sound)
    (subst (λ (l : List ℕ). IsBeginning old l (Some chosen)) c.deref.ensures.value c.in-Some.ensures)
    c.follow_batches-read.result c.later-later.result new (Err fault)
    (is_read tells state later c.in_ok-name.name chosen place c.follow_batches-read.result before now told both
    c.in_ok-name.ensures (both.lost ∙ sound) h.writes h.ended h.stops h.there h.absent h.number h.missing
    (λ file shown. c.in-Ok-false.ensures.reaches c.in-Ok-false.field-0-test here (same.lost ∙ sound) file
    (shown_then state listed c.in_ok-name.name chosen.number same c.in_ok-name.ensures file shown)))
    (subst (λ (l : List ℕ). IfSome c.later-later.result (λ n. Contains l n × (place.number < n))) c.deref-2.ensures.value
    c.later-later.ensures.some) c.in_err-looked.ensures)

pub returns-then-are_all_below-clause-stopped : goal.returns-then-are_all_below-clause-stopped
returns-then-are_all_below-clause-stopped g c told sound =
    let state = g.D.Disk.state c.args.disk.now in
    let listed = g.D.Disk.state c.list.new.disk in
    let later = g.D.Disk.state c.is_shorter.new.disk in
    let tells = g.D.Disk.tells c.follow_batches-read.new.disk in
    let old = place_of c.args.self.now in
    let next = place_of c.came_to.new.self in
    let new = place_of c.begins_anew-then-are_all_below.new.self in
    let before = (g.W.Output.state c.args.output.now).taken in
    let now = (g.W.Output.state c.follow_batches-read.new.output).taken in
    let numbers = c.in_ok-numbers.numbers.items in
    let chosen = c.in-Some.place in
    let place = c.follow_batches-read.new.place in
    let h = c.follow_batches-read.ensures in
    let here = h.told told in
    let first = c.in-Ok-false.ensures.told here in
    let same = c.in_ok-numbers.ensures.same first in
    let both = unchanged_then state listed later same (c.in-Ok-false.ensures.same here) in
    let are = c.in_ok-numbers.ensures.shown first sound in
    let all = c.are_all_below.ensures in
    let yes = c.if-are_all_below.true in
    subst (λ (f : FollowFault). Fails f state old new before now) (sym c.begins_anew-then-are_all_below.ensures.fault)
    (gone_clause state old numbers chosen place before now are
    (subst (λ (l : List ℕ). IsBeginning old l (Some chosen)) c.deref.ensures.value c.in-Some.ensures)
    c.follow_batches-read.result c.later-later.result next new (Ok c.in_ok-looked.looked) c.in_ok-looked.looked
    (is_read tells state later c.in_ok-name.name chosen place c.follow_batches-read.result before now told both
    c.in_ok-name.ensures (both.lost ∙ sound) h.writes h.ended h.stops h.there h.absent h.number h.missing
    (λ file shown. c.in-Ok-false.ensures.reaches c.in-Ok-false.field-0-test here (same.lost ∙ sound) file
    (shown_then state listed c.in_ok-name.name chosen.number same c.in_ok-name.ensures file shown)))
    c.in_ok-looked.ensures refl c.begins_anew-then-are_all_below.ensures.place (all.small yes)
    (subst (λ (l : List ℕ). (m : ℕ) → Contains l m → m < place.number) c.deref-then-not-looked.ensures.value
    (all.below yes (subst IsStrictlyIncreasing (sym c.deref-then-not-looked.ensures.value) are.ascend)))
    (subst (λ (l : List ℕ). (n : ℕ) × Contains l n) c.deref-then-not-looked.ensures.value (all.some yes)))

pub returns-clause-looked : goal.returns-clause-looked
returns-clause-looked g c told sound =
    let state = g.D.Disk.state c.args.disk.now in
    let listed = g.D.Disk.state c.list.new.disk in
    let later = g.D.Disk.state c.is_shorter.new.disk in
    let tells = g.D.Disk.tells c.follow_batches-read.new.disk in
    let old = place_of c.args.self.now in
    let new = place_of c.came_to.new.self in
    let before = (g.W.Output.state c.args.output.now).taken in
    let now = (g.W.Output.state c.follow_batches-read.new.output).taken in
    let numbers = c.in_ok-numbers.numbers.items in
    let chosen = c.in-Some.place in
    let place = c.follow_batches-read.new.place in
    let h = c.follow_batches-read.ensures in
    let looked = c.in_ok-looked.looked in
    let here = h.told told in
    let first = c.in-Ok-false.ensures.told here in
    let same = c.in_ok-numbers.ensures.same first in
    let both = unchanged_then state listed later same (c.in-Ok-false.ensures.same here) in
    let low : looked.more ≡ false → (numbers ≡ []) ⊎ ((m : ℕ) × Contains numbers m × (place.number ≤ m)) =
    elim c.else-not-looked.branch [
      | else-not-looked-via-then-not-looked+else-are_all_below w ↦ λ off.
          subst (λ (l : List ℕ). (l ≡ []) ⊎ ((m : ℕ) × Contains l m × (place.number ≤ m)))
          w.deref-then-not-looked.ensures.value (w.are_all_below.ensures.otherwise w.if-are_all_below.false)
      | else-not-looked-via-else-not-looked w ↦ λ off. absurd (grind (arith, off, w.if-not-looked.false))
    ] in
    ok_clause state old numbers chosen place before now (c.in_ok-numbers.ensures.shown first sound)
    (subst (λ (l : List ℕ). IsBeginning old l (Some chosen)) c.deref.ensures.value c.in-Some.ensures)
    c.follow_batches-read.result c.later-later.result new (Ok looked)
    (is_read tells state later c.in_ok-name.name chosen place c.follow_batches-read.result before now told both
    c.in_ok-name.ensures (both.lost ∙ sound) h.writes h.ended h.stops h.there h.absent h.number h.missing
    (λ file shown. c.in-Ok-false.ensures.reaches c.in-Ok-false.field-0-test here (same.lost ∙ sound) file
    (shown_then state listed c.in_ok-name.name chosen.number same c.in_ok-name.ensures file shown)))
    (subst (λ (l : List ℕ). IfSome c.later-later.result (λ n. Contains l n × (place.number < n))) c.deref-2.ensures.value
    c.later-later.ensures.some)
    (subst (λ (l : List ℕ). IfNone c.later-later.result ((n : ℕ) → Contains l n → n ≤ place.number))
    c.deref-2.ensures.value c.later-later.ensures.none) c.in_ok-looked.ensures
    (λ l is off. low (cc (is, off)))
