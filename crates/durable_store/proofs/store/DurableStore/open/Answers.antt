use Rattle.std.proofs.Common.{List, subst, sym, inl, ◌∙◌}
use Rattle.archive_pages.specs.Paged.{entries_in}
use Rattle.record_store.specs.Stores.{number_of}
use Rattle.record_store.proofs.Covering.{unchanged_keeps}
use Rattle.record_store.proofs.Opened.{given_journals, journals_received}
use Rattle.durable_store.specs.Asides.{ArePutAside, AreTails}
use Rattle.durable_store.specs.Causes.{IsOpeningCause}
use Rattle.durable_store.specs.declared.fault.OpenFault.TheVariants.{Store}
use Rattle.durable_store.specs.declared.tail.Tail.{Tail}
use Rattle.durable_store.proofs.Asides.{batches_same, journals_before, newest_before, opening_back, opening_same}
use Rattle.durable_store.proofs.Asides.{set_aside_all, tails_same}
use Rattle.durable_store.proofs.Readable.{at_err}
use Rattle.durable_store.proofs.store.DurableStore.open.Goals as goal

pub returns-in_err-set-clause-any_moment : goal.returns-in_err-set-clause-any_moment
returns-in_err-set-clause-any_moment g c tells sound committed received keeps =
    unchanged_keeps (g.D.Disk.state c.args.disk.now) (g.D.Disk.state c.recover.new.disk)
    (c.recover.ensures.same tells) committed received keeps

pub returns-in_err-asides-clause-any_moment : goal.returns-in_err-asides-clause-any_moment
returns-in_err-asides-clause-any_moment g c tells sound committed received keeps =
    let zero = g.D.Disk.state c.args.disk.now in
    let one = g.D.Disk.state c.recover.new.disk in
    let told = c.put_tails_aside.ensures.told tells in
    let same = c.recover.ensures.same told in
    let tails = subst (AreTails one) (sym c.deref.ensures.value)
    (tails_same zero one same c.in_ok-set.tails.items (c.in_ok-set.ensures.tails told sound)) in
    c.put_tails_aside.ensures.any_moment tells (same.lost ∙ sound) tails committed received
    (unchanged_keeps zero one same committed received keeps)

pub returns-in_err-store-clause-any_moment : goal.returns-in_err-store-clause-any_moment
returns-in_err-store-clause-any_moment g c tells sound committed received keeps =
    let zero = g.D.Disk.state c.args.disk.now in
    let one = g.D.Disk.state c.recover.new.disk in
    let tells_two = c.open.ensures.told tells in
    let told = c.put_tails_aside.ensures.told tells_two in
    let same = c.recover.ensures.same told in
    let tails = subst (AreTails one) (sym c.deref.ensures.value)
    (tails_same zero one same c.in_ok-set.tails.items (c.in_ok-set.ensures.tails told sound)) in
    c.open.ensures.any_moment tells (c.in_ok-asides.ensures.sound tells_two (same.lost ∙ sound) tails) committed
    received
    (c.put_tails_aside.ensures.any_moment tells_two (same.lost ∙ sound) tails committed received
    (unchanged_keeps zero one same committed received keeps))

pub returns-clause-any_moment : goal.returns-clause-any_moment
returns-clause-any_moment g c tells sound committed received keeps =
    let zero = g.D.Disk.state c.args.disk.now in
    let one = g.D.Disk.state c.recover.new.disk in
    let tells_two = c.open.ensures.told tells in
    let told = c.put_tails_aside.ensures.told tells_two in
    let same = c.recover.ensures.same told in
    let tails = subst (AreTails one) (sym c.deref.ensures.value)
    (tails_same zero one same c.in_ok-set.tails.items (c.in_ok-set.ensures.tails told sound)) in
    c.open.ensures.any_moment tells (c.in_ok-asides.ensures.sound tells_two (same.lost ∙ sound) tails) committed
    received
    (c.put_tails_aside.ensures.any_moment tells_two (same.lost ∙ sound) tails committed received
    (unchanged_keeps zero one same committed received keeps))

pub returns-in_err-asides-clause-cause : goal.returns-in_err-asides-clause-cause
returns-in_err-asides-clause-cause g c =
    let tells_then = g.D.Disk.tells c.put_tails_aside.new.disk in
    let failed_then = g.D.Disk.has_failed c.put_tails_aside.new.disk in
    let zero = g.D.Disk.state c.args.disk.now in
    let one = g.D.Disk.state c.recover.new.disk in
    let fault = c.in_err-asides.field-0.0 in
    at_err c.from_residual-in_err-asides.result (Store fault) (IsOpeningCause tells_then failed_then zero)
    c.from_residual-in_err-asides.ensures.1
    (opening_same zero one tells_then failed_then
    (λ tells. c.recover.ensures.same (c.put_tails_aside.ensures.told tells)) fault
    (c.in_err-asides.ensures.cause
    (λ tells sound.
    let told = c.put_tails_aside.ensures.told tells in
    let same = c.recover.ensures.same told in
    subst (AreTails one) (sym c.deref.ensures.value)
    (tails_same zero one same c.in_ok-set.tails.items (c.in_ok-set.ensures.tails told (sym same.lost ∙ sound))))))

pub returns-in_err-store-clause-cause : goal.returns-in_err-store-clause-cause
returns-in_err-store-clause-cause g c =
    let tells_then = g.D.Disk.tells c.open.new.disk in
    let failed_then = g.D.Disk.has_failed c.open.new.disk in
    let zero = g.D.Disk.state c.args.disk.now in
    let one = g.D.Disk.state c.recover.new.disk in
    let two = g.D.Disk.state c.put_tails_aside.new.disk in
    let fault = c.in_err-store.field-0.0 in
    at_err c.from_residual-in_err-store.result (Store fault) (IsOpeningCause tells_then failed_then zero)
    c.from_residual-in_err-store.ensures.1
    (opening_back zero two tells_then failed_then
    (λ tells sound.
    let tells_two = c.open.ensures.told tells in
    let told = c.put_tails_aside.ensures.told tells_two in
    let same = c.recover.ensures.same told in
    let tails = subst (AreTails one) (sym c.deref.ensures.value)
    (tails_same zero one same c.in_ok-set.tails.items (c.in_ok-set.ensures.tails told sound)) in
    c.in_ok-asides.ensures.sound tells_two (same.lost ∙ sound) tails)
    (λ tells sound.
    let tells_two = c.open.ensures.told tells in
    let told = c.put_tails_aside.ensures.told tells_two in
    let same = c.recover.ensures.same told in
    let tails = subst (AreTails one) (sym c.deref.ensures.value)
    (tails_same zero one same c.in_ok-set.tails.items (c.in_ok-set.ensures.tails told sound)) in
    batches_same zero one same two (c.in_ok-asides.ensures.shows tells_two (same.lost ∙ sound) tails))
    fault c.in_err-store.ensures.cause)

pub returns-clause-opened : goal.returns-clause-opened
returns-clause-opened g c tells sound committed received keeps =
    let zero = g.D.Disk.state c.args.disk.now in
    let one = g.D.Disk.state c.recover.new.disk in
    let two = g.D.Disk.state c.put_tails_aside.new.disk in
    let tells_two = c.open.ensures.told tells in
    let told = c.put_tails_aside.ensures.told tells_two in
    let same = c.recover.ensures.same told in
    let tails = subst (AreTails one) (sym c.deref.ensures.value)
    (tails_same zero one same c.in_ok-set.tails.items (c.in_ok-set.ensures.tails told sound)) in
    let sound_two = c.in_ok-asides.ensures.sound tells_two (same.lost ∙ sound) tails in
    let shows = batches_same zero one same two (c.in_ok-asides.ensures.shows tells_two (same.lost ∙ sound) tails) in
    let text = c.in_ok-store._batches.items in
    let es = entries_in c.in_ok-set.set in
    let recovered = c.in_ok-set.ensures.recovered told sound in
    let keeps_two = c.put_tails_aside.ensures.any_moment tells_two (same.lost ∙ sound) tails committed received
    (unchanged_keeps zero one same committed received keeps) in
    record {
      journal = c.in_ok-store.ensures.opened tells sound_two committed received es keeps_two
          (λ e held. journals_received zero committed received e keeps ((recovered.has e).0 held))
          (λ e has. inl ((recovered.has e).1 (journals_before zero two shows e has)))
          (λ e read. (recovered.has e).1 (journals_before zero two shows e
          (given_journals two (number_of c.in_ok-store.store) text e (c.in_ok-store.ensures.newest tells sound_two) read)));
      held = λ e. (λ held. held, λ held. held);
    }

pub returns-clause-recovers : goal.returns-clause-recovers
returns-clause-recovers g c tells sound =
    let zero = g.D.Disk.state c.args.disk.now in
    let one = g.D.Disk.state c.recover.new.disk in
    let two = g.D.Disk.state c.put_tails_aside.new.disk in
    let tells_two = c.open.ensures.told tells in
    let told = c.put_tails_aside.ensures.told tells_two in
    let same = c.recover.ensures.same told in
    let tails = subst (AreTails one) (sym c.deref.ensures.value)
    (tails_same zero one same c.in_ok-set.tails.items (c.in_ok-set.ensures.tails told sound)) in
    let sound_two = c.in_ok-asides.ensures.sound tells_two (same.lost ∙ sound) tails in
    let shows = batches_same zero one same two (c.in_ok-asides.ensures.shows tells_two (same.lost ∙ sound) tails) in
    record {
      recovered = c.in_ok-set.ensures.recovered told sound;
      newest = newest_before zero two shows (number_of c.in_ok-store.store) c.in_ok-store._batches.items
          (c.in_ok-store.ensures.newest tells sound_two);
    }

pub returns-clause-aside : goal.returns-clause-aside
returns-clause-aside g c tells sound =
    let zero = g.D.Disk.state c.args.disk.now in
    let one = g.D.Disk.state c.recover.new.disk in
    let two = g.D.Disk.state c.put_tails_aside.new.disk in
    let tells_two = c.open.ensures.told tells in
    let told = c.put_tails_aside.ensures.told tells_two in
    let same = c.recover.ensures.same told in
    let tails = subst (AreTails one) (sym c.deref.ensures.value)
    (tails_same zero one same c.in_ok-set.tails.items (c.in_ok-set.ensures.tails told sound)) in
    let sound_two = c.in_ok-asides.ensures.sound tells_two (same.lost ∙ sound) tails in
    set_aside_all zero one same two (g.D.Disk.state c.open.new.disk) (c.open.ensures.files tells)
    (c.in_ok-store.ensures.sound tells sound_two) c.in_ok-set.tails.items _ (c.in_ok-set.ensures.tails told sound)
    (subst (λ (l : List Tail). ArePutAside one two l c.in_ok-asides.asides.items) c.deref.ensures.value
    (c.in_ok-asides.ensures.aside tells_two (same.lost ∙ sound) tails))
