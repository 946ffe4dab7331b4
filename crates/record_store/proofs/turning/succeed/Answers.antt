use Rattle.std.proofs.Common.{◌≡◌, ◌+◌, ◌<◌, ◌≤◌, ◌^◌, [], List, ℕ, inl, refl, sym, ap, subst, take, ◌∙◌, arith}
use Rattle.std.proofs.lemmas.Result.{err_from_is_err_and}
use Rattle.std.specs.Prelude.{Contains, IfErr, None}
use Rattle.disk.specs.Memory.{shown_now}
use Rattle.journal.specs.Journals.{Stands as JournalStands}
use Rattle.record_store.specs.Causes.{IsCause, listing_causes}
use Rattle.record_store.specs.Turns.{AreEachShown, LosesOnly, making_causes, shedding_causes, turn_causes}
use Rattle.record_store.specs.Shown.{journal_shown}
use Rattle.record_store.proofs.Apart.{unchanged_within}
use Rattle.record_store.proofs.Causing.{cause_weaker}
use Rattle.record_store.proofs.Covering.{unchanged_keeps}
use Rattle.record_store.proofs.Numbers.{first_ones, small_part}
use Rattle.record_store.proofs.Remaining.{grow_then, made_grow, same_grow}
use Rattle.record_store.proofs.Showing.{ready_shows, same_within, unchanged_shown}
use Rattle.journal.specs.declared.journal.Journal.{Journal}
use Rattle.record_store.specs.declared.store.RecordStore.{RecordStore}
use Rattle.record_store.proofs.Successions.{all_in_segments, apart_same, lost_apart_held, lost_grow, made_apart}
use Rattle.record_store.proofs.Successions.{next_keeps, next_none, next_older, next_within, others_from, ready_same}
use Rattle.record_store.proofs.Successions.{sheds_oldest, then_older, then_ready, then_within, each_of}
use Rattle.record_store.proofs.turning.succeed.Goals as goal

pub returns-then-number-eq18446744073709551615-clause-shows : goal.returns-then-number-eq18446744073709551615-clause-shows
returns-then-number-eq18446744073709551615-clause-shows g c tells store since ready number_is =
    ready_shows store (g.D.Disk.state c.args.disk.now) since ready

pub returns-in_err-numbers-clause-any_moment : goal.returns-in_err-numbers-clause-any_moment
returns-in_err-numbers-clause-any_moment g c tells store since ready number_is within apart committed received keeps =
    unchanged_keeps (g.D.Disk.state c.args.disk.now) (g.D.Disk.state c.journals.new.disk) (c.journals.ensures.same tells)
    committed received keeps

pub returns-in_err-numbers-clause-apart : goal.returns-in_err-numbers-clause-apart
returns-in_err-numbers-clause-apart g c tells es held =
    apart_same (g.D.Disk.state c.args.disk.now) (g.D.Disk.state c.journals.new.disk) es (c.journals.ensures.same tells) held

pub returns-in_err-numbers-clause-shows : goal.returns-in_err-numbers-clause-shows
returns-in_err-numbers-clause-shows g c tells store since ready number_is =
    let zero = g.D.Disk.state c.args.disk.now in
    let a = g.D.Disk.state c.journals.new.disk in
    same_within zero a since (unchanged_shown zero a (c.journals.ensures.same tells)) (ready_shows store zero since ready)

pub returns-in_err-numbers-clause-older : goal.returns-in_err-numbers-clause-older
returns-in_err-numbers-clause-older g c tells store since ready number_is within =
    unchanged_within (g.D.Disk.state c.args.disk.now) (g.D.Disk.state c.journals.new.disk) (c.journals.ensures.same tells)
    since within

pub returns-in_err-numbers-clause-segments : goal.returns-in_err-numbers-clause-segments
returns-in_err-numbers-clause-segments g c tells =
    same_grow (g.D.Disk.state c.args.disk.now) (g.D.Disk.state c.journals.new.disk) (c.journals.ensures.same tells)

pub returns-in_err-numbers-clause-cause : goal.returns-in_err-numbers-clause-cause
returns-in_err-numbers-clause-cause g c store whole number_is =
    let zero = g.D.Disk.state c.args.disk.now in
    let tells_then = g.D.Disk.tells c.journals.new.disk in
    let failed_then = g.D.Disk.has_failed c.journals.new.disk in
    let fault = err_from_is_err_and c.from_residual.result c.from_residual.ensures.1 in
    let first = subst (IsCause (listing_causes tells_then failed_then)) (sym fault.2) c.in_err-numbers.ensures.cause in
    subst (λ r. IfErr r (IsCause (turn_causes tells_then failed_then store zero))) (sym fault.1)
    (cause_weaker (listing_causes tells_then failed_then) (turn_causes tells_then failed_then store zero)
    (λ failed. failed) (λ full. inl full) (λ other tells. absurd (other tells)) (λ long. absurd long)
    (λ broken. absurd broken) fault.0 first)

pub returns-in_err-journal-clause-any_moment : goal.returns-in_err-journal-clause-any_moment
returns-in_err-journal-clause-any_moment g c told store since ready number_is within apart committed received keeps =
    let zero = g.D.Disk.state c.args.disk.now in
    let a = g.D.Disk.state c.journals.new.disk in
    let one = g.D.Disk.state c.make_journal.new.disk in
    let number = c.args.number in
    let fits : number + 1 < 2 ^ 64 = omega arith in
    let same = c.journals.ensures.same (c.make_journal.ensures.told told) in
    let ready_a = ready_same zero a store since same ready in
    let others = c.make_journal.ensures.others told in
    let leaves = c.make_journal.ensures.any_moment told ready_a.stands.sound in
    next_keeps a one store since ready_a number number_is fits others leaves committed received
    (unchanged_keeps zero a same committed received keeps)

pub returns-in_err-journal-clause-apart : goal.returns-in_err-journal-clause-apart
returns-in_err-journal-clause-apart g c told es held =
    let zero = g.D.Disk.state c.args.disk.now in
    let a = g.D.Disk.state c.journals.new.disk in
    let one = g.D.Disk.state c.make_journal.new.disk in
    let number = c.args.number in
    let fits : number + 1 < 2 ^ 64 = omega arith in
    let same = c.journals.ensures.same (c.make_journal.ensures.told told) in
    made_apart a one number fits (c.make_journal.ensures.others told) es (apart_same zero a es same held)

pub returns-in_err-journal-clause-shows : goal.returns-in_err-journal-clause-shows
returns-in_err-journal-clause-shows g c told store since ready number_is =
    let zero = g.D.Disk.state c.args.disk.now in
    let a = g.D.Disk.state c.journals.new.disk in
    let one = g.D.Disk.state c.make_journal.new.disk in
    let number = c.args.number in
    let fits : number + 1 < 2 ^ 64 = omega arith in
    let same = c.journals.ensures.same (c.make_journal.ensures.told told) in
    let ready_a = ready_same zero a store since same ready in
    let others = c.make_journal.ensures.others told in
    let leaves = c.make_journal.ensures.any_moment told ready_a.stands.sound in
    next_within a one store since ready_a number number_is fits others
    (c.make_journal.ensures.shows told (next_none a one store since ready_a number number_is fits others))

pub returns-in_err-journal-clause-older : goal.returns-in_err-journal-clause-older
returns-in_err-journal-clause-older g c told store since ready number_is within =
    let zero = g.D.Disk.state c.args.disk.now in
    let a = g.D.Disk.state c.journals.new.disk in
    let one = g.D.Disk.state c.make_journal.new.disk in
    let number = c.args.number in
    let fits : number + 1 < 2 ^ 64 = omega arith in
    let same = c.journals.ensures.same (c.make_journal.ensures.told told) in
    let ready_a = ready_same zero a store since same ready in
    let others = c.make_journal.ensures.others told in
    let leaves = c.make_journal.ensures.any_moment told ready_a.stands.sound in
    next_older a one store since ready_a number number_is fits others
    (c.make_journal.ensures.shows told (next_none a one store since ready_a number number_is fits others))
    (unchanged_within zero a same since within)

pub returns-in_err-journal-clause-segments : goal.returns-in_err-journal-clause-segments
returns-in_err-journal-clause-segments g c told =
    let zero = g.D.Disk.state c.args.disk.now in
    let a = g.D.Disk.state c.journals.new.disk in
    let one = g.D.Disk.state c.make_journal.new.disk in
    let number = c.args.number in
    let fits : number + 1 < 2 ^ 64 = omega arith in
    let same = c.journals.ensures.same (c.make_journal.ensures.told told) in
    grow_then 0 0 zero a one (same_grow zero a same)
    (made_grow a one (number + 1) fits (c.make_journal.ensures.others told))

pub returns-in_err-journal-clause-cause : goal.returns-in_err-journal-clause-cause
returns-in_err-journal-clause-cause g c store whole number_is =
    let zero = g.D.Disk.state c.args.disk.now in
    let a = g.D.Disk.state c.journals.new.disk in
    let one = g.D.Disk.state c.make_journal.new.disk in
    let number = c.args.number in
    let fits : number + 1 < 2 ^ 64 = omega arith in
    let tells_then = g.D.Disk.tells c.make_journal.new.disk in
    let failed_then = g.D.Disk.has_failed c.make_journal.new.disk in
    let fault = err_from_is_err_and c.from_residual-in_err-journal.result c.from_residual-in_err-journal.ensures.1 in
    let first = subst (IsCause (making_causes tells_then failed_then a (number + 1))) (sym fault.2)
    c.in_err-journal.ensures.cause in
    subst (λ r. IfErr r (IsCause (turn_causes tells_then failed_then store zero))) (sym fault.1)
    (cause_weaker (making_causes tells_then failed_then a (number + 1)) (turn_causes tells_then failed_then store zero)
    (λ failed. failed) (λ full. inl full)
    (λ other told sets stands.
    let same = c.journals.ensures.same (c.make_journal.ensures.told told) in
    let ready_a = ready_same zero a store sets.since same (stands.ready whole) in
    absurd (other told (ap shown_now (ready_a.newest (number + 1) (omega (arith, number_is)) fits))))
    (λ long. absurd long) (λ broken. absurd broken) fault.0 first)

pub returns-in_err-remove_journals-clause-any_moment : goal.returns-in_err-remove_journals-clause-any_moment
returns-in_err-remove_journals-clause-any_moment g c tells store since ready number_is within apart committed received keeps =
    let zero = g.D.Disk.state c.args.disk.now in
    let a = g.D.Disk.state c.journals.new.disk in
    let one = g.D.Disk.state c.make_journal.new.disk in
    let number = c.args.number in
    let fits : number + 1 < 2 ^ 64 = omega arith in
    let two = g.D.Disk.state c.remove_journals.new.disk in
    let told = c.remove_journals.ensures.told tells in
    let some = c.split_at.result.0.now in
    let some_is : some ≡ take c.min-count.result c.in_ok-numbers.numbers.items =
    c.split_at.ensures.front ∙ ap (take c.min-count.result) c.deref.ensures.value in
    let same = c.journals.ensures.same (c.make_journal.ensures.told told) in
    let ready_a = ready_same zero a store since same ready in
    let others = c.make_journal.ensures.others told in
    let leaves = c.make_journal.ensures.any_moment told ready_a.stands.sound in
    let are = c.in_ok-numbers.ensures.shown (c.make_journal.ensures.told told) ready.stands.sound in
    let below = small_part zero number c.in_ok-numbers.numbers.items some c.min-count.result are some_is in
    let only = c.remove_journals.ensures.only tells in
    let older = next_older a one store since ready_a number number_is fits others
    (c.make_journal.ensures.shows told (next_none a one store since ready_a number number_is fits others))
    (unchanged_within zero a same since within) in
    let held = made_apart a one number fits others since (apart_same zero a since same apart) in
    c.remove_journals.ensures.any_moment tells
    (all_in_segments one number some since (omega (arith, fits)) below older held) committed received
    (next_keeps a one store since ready_a number number_is fits others leaves committed received
    (unchanged_keeps zero a same committed received keeps))

pub returns-in_err-remove_journals-clause-apart : goal.returns-in_err-remove_journals-clause-apart
returns-in_err-remove_journals-clause-apart g c tells es held =
    let zero = g.D.Disk.state c.args.disk.now in
    let a = g.D.Disk.state c.journals.new.disk in
    let one = g.D.Disk.state c.make_journal.new.disk in
    let number = c.args.number in
    let fits : number + 1 < 2 ^ 64 = omega arith in
    let two = g.D.Disk.state c.remove_journals.new.disk in
    let told = c.remove_journals.ensures.told tells in
    let some = c.split_at.result.0.now in
    let some_is : some ≡ take c.min-count.result c.in_ok-numbers.numbers.items =
    c.split_at.ensures.front ∙ ap (take c.min-count.result) c.deref.ensures.value in
    let same = c.journals.ensures.same (c.make_journal.ensures.told told) in
    lost_apart_held one two some (c.remove_journals.ensures.only tells) es
    (made_apart a one number fits (c.make_journal.ensures.others told) es (apart_same zero a es same held))

pub returns-in_err-remove_journals-clause-shows : goal.returns-in_err-remove_journals-clause-shows
returns-in_err-remove_journals-clause-shows g c tells store since ready number_is =
    let zero = g.D.Disk.state c.args.disk.now in
    let a = g.D.Disk.state c.journals.new.disk in
    let one = g.D.Disk.state c.make_journal.new.disk in
    let number = c.args.number in
    let fits : number + 1 < 2 ^ 64 = omega arith in
    let two = g.D.Disk.state c.remove_journals.new.disk in
    let told = c.remove_journals.ensures.told tells in
    let some = c.split_at.result.0.now in
    let some_is : some ≡ take c.min-count.result c.in_ok-numbers.numbers.items =
    c.split_at.ensures.front ∙ ap (take c.min-count.result) c.deref.ensures.value in
    let same = c.journals.ensures.same (c.make_journal.ensures.told told) in
    let ready_a = ready_same zero a store since same ready in
    let others = c.make_journal.ensures.others told in
    let leaves = c.make_journal.ensures.any_moment told ready_a.stands.sound in
    let are = c.in_ok-numbers.ensures.shown (c.make_journal.ensures.told told) ready.stands.sound in
    let below = small_part zero number c.in_ok-numbers.numbers.items some c.min-count.result are some_is in
    let only = c.remove_journals.ensures.only tells in
    let after : RecordStore = record store { journal = c.in_ok-journal.journal; number = number + 1 } in
    then_within a one store since ready_a number number_is fits others two some only below
    after c.in_ok-journal.ensures.name refl (c.remove_journals.ensures.lost tells)
    (c.in_ok-journal.ensures.settles told ready_a.stands.sound)
    (c.in_ok-journal.ensures.made told ready_a.stands.sound) since

pub returns-in_err-remove_journals-clause-older : goal.returns-in_err-remove_journals-clause-older
returns-in_err-remove_journals-clause-older g c tells store since ready number_is within =
    let zero = g.D.Disk.state c.args.disk.now in
    let a = g.D.Disk.state c.journals.new.disk in
    let one = g.D.Disk.state c.make_journal.new.disk in
    let number = c.args.number in
    let fits : number + 1 < 2 ^ 64 = omega arith in
    let two = g.D.Disk.state c.remove_journals.new.disk in
    let told = c.remove_journals.ensures.told tells in
    let some = c.split_at.result.0.now in
    let some_is : some ≡ take c.min-count.result c.in_ok-numbers.numbers.items =
    c.split_at.ensures.front ∙ ap (take c.min-count.result) c.deref.ensures.value in
    let same = c.journals.ensures.same (c.make_journal.ensures.told told) in
    let ready_a = ready_same zero a store since same ready in
    let others = c.make_journal.ensures.others told in
    let leaves = c.make_journal.ensures.any_moment told ready_a.stands.sound in
    let are = c.in_ok-numbers.ensures.shown (c.make_journal.ensures.told told) ready.stands.sound in
    let below = small_part zero number c.in_ok-numbers.numbers.items some c.min-count.result are some_is in
    let only = c.remove_journals.ensures.only tells in
    then_older a one store since ready_a number number_is fits others two some only below
    (c.make_journal.ensures.shows told (next_none a one store since ready_a number number_is fits others))
    (unchanged_within zero a same since within)

pub returns-in_err-remove_journals-clause-segments : goal.returns-in_err-remove_journals-clause-segments
returns-in_err-remove_journals-clause-segments g c tells =
    let zero = g.D.Disk.state c.args.disk.now in
    let a = g.D.Disk.state c.journals.new.disk in
    let one = g.D.Disk.state c.make_journal.new.disk in
    let number = c.args.number in
    let fits : number + 1 < 2 ^ 64 = omega arith in
    let two = g.D.Disk.state c.remove_journals.new.disk in
    let told = c.remove_journals.ensures.told tells in
    let some = c.split_at.result.0.now in
    let some_is : some ≡ take c.min-count.result c.in_ok-numbers.numbers.items =
    c.split_at.ensures.front ∙ ap (take c.min-count.result) c.deref.ensures.value in
    let same = c.journals.ensures.same (c.make_journal.ensures.told told) in
    grow_then 0 0 zero one two
    (grow_then 0 0 zero a one (same_grow zero a same)
    (made_grow a one (number + 1) fits (c.make_journal.ensures.others told)))
    (lost_grow one two some (c.remove_journals.ensures.only tells))

pub returns-clause-any_moment : goal.returns-clause-any_moment
returns-clause-any_moment g c tells store since ready number_is within apart committed received keeps =
    let zero = g.D.Disk.state c.args.disk.now in
    let a = g.D.Disk.state c.journals.new.disk in
    let one = g.D.Disk.state c.make_journal.new.disk in
    let number = c.args.number in
    let fits : number + 1 < 2 ^ 64 = omega arith in
    let two = g.D.Disk.state c.remove_journals.new.disk in
    let told = c.remove_journals.ensures.told tells in
    let some = c.split_at.result.0.now in
    let some_is : some ≡ take c.min-count.result c.in_ok-numbers.numbers.items =
    c.split_at.ensures.front ∙ ap (take c.min-count.result) c.deref.ensures.value in
    let same = c.journals.ensures.same (c.make_journal.ensures.told told) in
    let ready_a = ready_same zero a store since same ready in
    let others = c.make_journal.ensures.others told in
    let leaves = c.make_journal.ensures.any_moment told ready_a.stands.sound in
    let are = c.in_ok-numbers.ensures.shown (c.make_journal.ensures.told told) ready.stands.sound in
    let below = small_part zero number c.in_ok-numbers.numbers.items some c.min-count.result are some_is in
    let only = c.remove_journals.ensures.only tells in
    let older = next_older a one store since ready_a number number_is fits others
    (c.make_journal.ensures.shows told (next_none a one store since ready_a number number_is fits others))
    (unchanged_within zero a same since within) in
    let held = made_apart a one number fits others since (apart_same zero a since same apart) in
    c.remove_journals.ensures.any_moment tells
    (all_in_segments one number some since (omega (arith, fits)) below older held) committed received
    (next_keeps a one store since ready_a number number_is fits others leaves committed received
    (unchanged_keeps zero a same committed received keeps))

pub returns-clause-apart : goal.returns-clause-apart
returns-clause-apart g c tells es held =
    let zero = g.D.Disk.state c.args.disk.now in
    let a = g.D.Disk.state c.journals.new.disk in
    let one = g.D.Disk.state c.make_journal.new.disk in
    let number = c.args.number in
    let fits : number + 1 < 2 ^ 64 = omega arith in
    let two = g.D.Disk.state c.remove_journals.new.disk in
    let told = c.remove_journals.ensures.told tells in
    let some = c.split_at.result.0.now in
    let some_is : some ≡ take c.min-count.result c.in_ok-numbers.numbers.items =
    c.split_at.ensures.front ∙ ap (take c.min-count.result) c.deref.ensures.value in
    let same = c.journals.ensures.same (c.make_journal.ensures.told told) in
    lost_apart_held one two some (c.remove_journals.ensures.only tells) es
    (made_apart a one number fits (c.make_journal.ensures.others told) es (apart_same zero a es same held))

pub returns-clause-shows : goal.returns-clause-shows
returns-clause-shows g c tells store since ready number_is =
    let zero = g.D.Disk.state c.args.disk.now in
    let a = g.D.Disk.state c.journals.new.disk in
    let one = g.D.Disk.state c.make_journal.new.disk in
    let number = c.args.number in
    let fits : number + 1 < 2 ^ 64 = omega arith in
    let two = g.D.Disk.state c.remove_journals.new.disk in
    let told = c.remove_journals.ensures.told tells in
    let some = c.split_at.result.0.now in
    let some_is : some ≡ take c.min-count.result c.in_ok-numbers.numbers.items =
    c.split_at.ensures.front ∙ ap (take c.min-count.result) c.deref.ensures.value in
    let same = c.journals.ensures.same (c.make_journal.ensures.told told) in
    let ready_a = ready_same zero a store since same ready in
    let others = c.make_journal.ensures.others told in
    let leaves = c.make_journal.ensures.any_moment told ready_a.stands.sound in
    let are = c.in_ok-numbers.ensures.shown (c.make_journal.ensures.told told) ready.stands.sound in
    let below = small_part zero number c.in_ok-numbers.numbers.items some c.min-count.result are some_is in
    let only = c.remove_journals.ensures.only tells in
    let after : RecordStore = record store { journal = c.in_ok-journal.journal; number = number + 1 } in
    then_within a one store since ready_a number number_is fits others two some only below
    after c.in_ok-journal.ensures.name refl (c.remove_journals.ensures.lost tells)
    (c.in_ok-journal.ensures.settles told ready_a.stands.sound)
    (c.in_ok-journal.ensures.made told ready_a.stands.sound) since

pub returns-clause-older : goal.returns-clause-older
returns-clause-older g c tells store since ready number_is within =
    let zero = g.D.Disk.state c.args.disk.now in
    let a = g.D.Disk.state c.journals.new.disk in
    let one = g.D.Disk.state c.make_journal.new.disk in
    let number = c.args.number in
    let fits : number + 1 < 2 ^ 64 = omega arith in
    let two = g.D.Disk.state c.remove_journals.new.disk in
    let told = c.remove_journals.ensures.told tells in
    let some = c.split_at.result.0.now in
    let some_is : some ≡ take c.min-count.result c.in_ok-numbers.numbers.items =
    c.split_at.ensures.front ∙ ap (take c.min-count.result) c.deref.ensures.value in
    let same = c.journals.ensures.same (c.make_journal.ensures.told told) in
    let ready_a = ready_same zero a store since same ready in
    let others = c.make_journal.ensures.others told in
    let leaves = c.make_journal.ensures.any_moment told ready_a.stands.sound in
    let are = c.in_ok-numbers.ensures.shown (c.make_journal.ensures.told told) ready.stands.sound in
    let below = small_part zero number c.in_ok-numbers.numbers.items some c.min-count.result are some_is in
    let only = c.remove_journals.ensures.only tells in
    then_older a one store since ready_a number number_is fits others two some only below
    (c.make_journal.ensures.shows told (next_none a one store since ready_a number number_is fits others))
    (unchanged_within zero a same since within)

pub returns-clause-segments : goal.returns-clause-segments
returns-clause-segments g c tells =
    let zero = g.D.Disk.state c.args.disk.now in
    let a = g.D.Disk.state c.journals.new.disk in
    let one = g.D.Disk.state c.make_journal.new.disk in
    let number = c.args.number in
    let fits : number + 1 < 2 ^ 64 = omega arith in
    let two = g.D.Disk.state c.remove_journals.new.disk in
    let told = c.remove_journals.ensures.told tells in
    let some = c.split_at.result.0.now in
    let some_is : some ≡ take c.min-count.result c.in_ok-numbers.numbers.items =
    c.split_at.ensures.front ∙ ap (take c.min-count.result) c.deref.ensures.value in
    let same = c.journals.ensures.same (c.make_journal.ensures.told told) in
    grow_then 0 0 zero one two
    (grow_then 0 0 zero a one (same_grow zero a same)
    (made_grow a one (number + 1) fits (c.make_journal.ensures.others told)))
    (lost_grow one two some (c.remove_journals.ensures.only tells))

pub returns-clause-ready : goal.returns-clause-ready
returns-clause-ready g c tells store after since ready number_is journal_is after_number =
    let zero = g.D.Disk.state c.args.disk.now in
    let a = g.D.Disk.state c.journals.new.disk in
    let one = g.D.Disk.state c.make_journal.new.disk in
    let number = c.args.number in
    let fits : number + 1 < 2 ^ 64 = omega arith in
    let two = g.D.Disk.state c.remove_journals.new.disk in
    let told = c.remove_journals.ensures.told tells in
    let some = c.split_at.result.0.now in
    let some_is : some ≡ take c.min-count.result c.in_ok-numbers.numbers.items =
    c.split_at.ensures.front ∙ ap (take c.min-count.result) c.deref.ensures.value in
    let same = c.journals.ensures.same (c.make_journal.ensures.told told) in
    let ready_a = ready_same zero a store since same ready in
    let others = c.make_journal.ensures.others told in
    let leaves = c.make_journal.ensures.any_moment told ready_a.stands.sound in
    let are = c.in_ok-numbers.ensures.shown (c.make_journal.ensures.told told) ready.stands.sound in
    let below = small_part zero number c.in_ok-numbers.numbers.items some c.min-count.result are some_is in
    let only = c.remove_journals.ensures.only tells in
    then_ready a one store since ready_a number number_is fits others two some only below
    after (ap (λ (j : Journal). j.name) journal_is ∙ c.in_ok-journal.ensures.name) after_number
    (c.remove_journals.ensures.lost tells)
    (c.in_ok-journal.ensures.settles told ready_a.stands.sound)
    (subst (λ (j : Journal). JournalStands j one []) (sym journal_is)
    (c.in_ok-journal.ensures.made told ready_a.stands.sound))

pub returns-clause-sheds : goal.returns-clause-sheds
returns-clause-sheds g c tells sound =
    let zero = g.D.Disk.state c.args.disk.now in
    let a = g.D.Disk.state c.journals.new.disk in
    let one = g.D.Disk.state c.make_journal.new.disk in
    let number = c.args.number in
    let fits : number + 1 < 2 ^ 64 = omega arith in
    let two = g.D.Disk.state c.remove_journals.new.disk in
    let told = c.remove_journals.ensures.told tells in
    let some = c.split_at.result.0.now in
    let some_is : some ≡ take c.min-count.result c.in_ok-numbers.numbers.items =
    c.split_at.ensures.front ∙ ap (take c.min-count.result) c.deref.ensures.value in
    let numbers = c.in_ok-numbers.numbers.items in
    let same = c.journals.ensures.same (c.make_journal.ensures.told told) in
    let are = c.in_ok-numbers.ensures.shown (c.make_journal.ensures.told told) sound in
    let first : some ≡ take 64 numbers = some_is
    ∙ first_ones c.min-count.result 64 numbers (omega arith) in
    sheds_oldest zero one two number numbers fits are
    (others_from zero a one _ same (c.make_journal.ensures.others told))
    (subst (LosesOnly one two) first (c.remove_journals.ensures.only tells))
    (subst (λ (l : List ℕ). (n : ℕ) → Contains l n → journal_shown two n ≡ None) first
    (c.in_ok-remove_journals.ensures.gone tells))

pub returns-in_err-remove_journals-clause-cause : goal.returns-in_err-remove_journals-clause-cause
returns-in_err-remove_journals-clause-cause g c store whole number_is =
    let zero = g.D.Disk.state c.args.disk.now in
    let a = g.D.Disk.state c.journals.new.disk in
    let one = g.D.Disk.state c.make_journal.new.disk in
    let number = c.args.number in
    let fits : number + 1 < 2 ^ 64 = omega arith in
    let some = c.split_at.result.0.now in
    let some_is : some ≡ take c.min-count.result c.in_ok-numbers.numbers.items =
    c.split_at.ensures.front ∙ ap (take c.min-count.result) c.deref.ensures.value in
    let tells_then = g.D.Disk.tells c.remove_journals.new.disk in
    let failed_then = g.D.Disk.has_failed c.remove_journals.new.disk in
    let fault = err_from_is_err_and c.from_residual-in_err-remove_journals.result
    c.from_residual-in_err-remove_journals.ensures.1 in
    let first = subst (IsCause (shedding_causes tells_then failed_then one some)) (sym fault.2)
    c.in_err-remove_journals.ensures.cause in
    subst (λ r. IfErr r (IsCause (turn_causes tells_then failed_then store zero))) (sym fault.1)
    (cause_weaker (shedding_causes tells_then failed_then one some) (turn_causes tells_then failed_then store zero)
    (λ failed. failed) (λ full. inl full)
    (λ other tells sets stands.
    let told = c.remove_journals.ensures.told tells in
    let same = c.journals.ensures.same (c.make_journal.ensures.told told) in
    let ready = stands.ready whole in
    let are = c.in_ok-numbers.ensures.shown (c.make_journal.ensures.told told) ready.stands.sound in
    other tells (subst (AreEachShown one) (sym some_is)
    (each_of zero one number c.min-count.result c.in_ok-numbers.numbers.items fits are
    (others_from zero a one _ same (c.make_journal.ensures.others told)))))
    (λ long. absurd long) (λ broken. absurd broken) fault.0 first)
