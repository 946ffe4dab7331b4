use Rattle.std.proofs.Common.{arith, rules, subst, ◌∙◌, refl}
use Rattle.std.proofs.lemmas.Grind.{common_steps}
use Rattle.record_store.specs.Asides.{IsAside, aside_name}
use Rattle.record_store.specs.Causes.{IsCause, reading_causes}
use Rattle.record_store.proofs.Asides.{counted_keeps}
use Rattle.durable_store.proofs.Asides.{aside_fails, aside_leaves, aside_shown, cut_aside, cut_beside, cut_fails}
use Rattle.durable_store.proofs.Readable.{at_err}
use Rattle.durable_store.proofs.aside.put_aside.Goals as goal

pub returns-in_err-set_aside-clause-any_moment : goal.returns-in_err-set_aside-clause-any_moment
returns-in_err-set_aside-clause-any_moment g c tells sound is committed received keeps =
    counted_keeps (g.D.Disk.state c.args.disk.now) (g.D.Disk.state c.set_aside.new.disk)
    (c.set_aside.ensures.counted tells) committed received keeps

pub returns-in_err-cut_journal-clause-any_moment : goal.returns-in_err-cut_journal-clause-any_moment
returns-in_err-cut_journal-clause-any_moment g c tells sound is committed received keeps =
    let zero = g.D.Disk.state c.args.disk.now in
    let one = g.D.Disk.state c.set_aside.new.disk in
    let told = c.cut_journal.ensures.told tells in
    let aside = c.in_ok-set_aside.ensures.aside told sound in
    c.cut_journal.ensures.any_moment tells aside.now.sound is.octets
    (aside_shown zero one c.args.tail.now is (c.set_aside.ensures.others told) ∙ is.shown) committed received
    (counted_keeps zero one (c.set_aside.ensures.counted told) committed received keeps)

pub returns-clause-any_moment : goal.returns-clause-any_moment
returns-clause-any_moment g c tells sound is committed received keeps =
    let zero = g.D.Disk.state c.args.disk.now in
    let one = g.D.Disk.state c.set_aside.new.disk in
    let told = c.cut_journal.ensures.told tells in
    let aside = c.in_ok-set_aside.ensures.aside told sound in
    c.cut_journal.ensures.any_moment tells aside.now.sound is.octets
    (aside_shown zero one c.args.tail.now is (c.set_aside.ensures.others told) ∙ is.shown) committed received
    (counted_keeps zero one (c.set_aside.ensures.counted told) committed received keeps)

pub returns-clause-sound : goal.returns-clause-sound
returns-clause-sound g c tells sound is =
    let zero = g.D.Disk.state c.args.disk.now in
    let one = g.D.Disk.state c.set_aside.new.disk in
    let told = c.cut_journal.ensures.told tells in
    let aside = c.in_ok-set_aside.ensures.aside told sound in
    c.in_ok-cut_journal.ensures.sound tells aside.now.sound is.octets
    (aside_shown zero one c.args.tail.now is (c.set_aside.ensures.others told) ∙ is.shown)

pub returns-clause-aside : goal.returns-clause-aside
returns-clause-aside g c tells sound is =
    let zero = g.D.Disk.state c.args.disk.now in
    let one = g.D.Disk.state c.set_aside.new.disk in
    let two = g.D.Disk.state c.cut_journal.new.disk in
    let told = c.cut_journal.ensures.told tells in
    let aside = c.in_ok-set_aside.ensures.aside told sound in
    let put = subst (IsAside zero one (aside_name c.args.tail.now.number)) c.deref.ensures.value aside in
    let sound_two = c.in_ok-cut_journal.ensures.sound tells aside.now.sound is.octets
    (aside_shown zero one c.args.tail.now is (c.set_aside.ensures.others told) ∙ is.shown) in
    record {
      number_is = refl;
      counted = omega (arith, c.len.ensures);
      put = cut_aside zero one two c.args.tail.now.number c.args.tail.now.octets.items is.small put
          (c.cut_journal.ensures.others tells) sound_two;
    }

pub returns-clause-beside : goal.returns-clause-beside
returns-clause-beside g c tells sound is =
    let zero = g.D.Disk.state c.args.disk.now in
    let one = g.D.Disk.state c.set_aside.new.disk in
    let two = g.D.Disk.state c.cut_journal.new.disk in
    let told = c.cut_journal.ensures.told tells in
    let aside = c.in_ok-set_aside.ensures.aside told sound in
    let shown = aside_shown zero one c.args.tail.now is (c.set_aside.ensures.others told) ∙ is.shown in
    cut_beside zero one two c.args.tail.now is (c.set_aside.ensures.others told) (c.cut_journal.ensures.others tells)
    (c.in_ok-cut_journal.ensures.cut tells aside.now.sound)
    (c.cut_journal.ensures.shows tells aside.now.sound is.octets shown)

pub returns-in_err-set_aside-clause-cause : goal.returns-in_err-set_aside-clause-cause
returns-in_err-set_aside-clause-cause g c =
    let tells_then = g.D.Disk.tells c.set_aside.new.disk in
    let failed_then = g.D.Disk.has_failed c.set_aside.new.disk in
    let zero = g.D.Disk.state c.args.disk.now in
    let fault = c.in_err-set_aside.field-0.0 in
    at_err c.from_residual.result fault (IsCause (reading_causes tells_then failed_then zero c.args.tail.now.number))
    c.from_residual.ensures.1
    (aside_fails tells_then failed_then zero c.args.tail.now.number fault c.in_err-set_aside.ensures.cause)

pub returns-in_err-cut_journal-clause-cause : goal.returns-in_err-cut_journal-clause-cause
returns-in_err-cut_journal-clause-cause g c =
    let tells_then = g.D.Disk.tells c.cut_journal.new.disk in
    let failed_then = g.D.Disk.has_failed c.cut_journal.new.disk in
    let zero = g.D.Disk.state c.args.disk.now in
    let one = g.D.Disk.state c.set_aside.new.disk in
    let fault = c.in_err-cut_journal.field-0.0 in
    at_err c.from_residual-in_err-cut_journal.result fault
    (IsCause (reading_causes tells_then failed_then zero c.args.tail.now.number))
    c.from_residual-in_err-cut_journal.ensures.1
    (cut_fails tells_then failed_then zero one c.args.tail.now.number
    (λ tells sound.
    let told = c.cut_journal.ensures.told tells in
    let aside = c.in_ok-set_aside.ensures.aside told sound in aside.now.sound)
    (λ tells. aside_leaves zero one c.args.tail.now.number (first_of (omega arith, search rules, grind (arith, common_steps)))
    (c.set_aside.ensures.others (c.cut_journal.ensures.told tells)))
    fault c.in_err-cut_journal.ensures.cause)
