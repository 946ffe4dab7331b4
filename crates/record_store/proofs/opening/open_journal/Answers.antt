use Rattle.std.proofs.Common.{◌<◌, ◌^◌, List, ℕ, arith, refl, subst}
use Rattle.record_store.specs.Causes.{newest_causes, shown_causes}
use Rattle.record_store.specs.Shown.{ShowsTheBatches}
use Rattle.record_store.proofs.Asides.{named_journal, others_files}
use Rattle.record_store.proofs.Causing.{journal_weaker}
use Rattle.record_store.proofs.Opened.{newest_is_journal, newest_shown, opened_gives, opened_older}
use Rattle.record_store.proofs.Opened.{opened_stands}
use Rattle.record_store.proofs.Showing.{batches_within}
use Rattle.record_store.proofs.opening.open_journal.Goals as goal

pub returns-in-Ok-clause-opened : goal.returns-in-Ok-clause-opened
returns-in-Ok-clause-opened g c tells sound octets newest committed received since keeps among within are =
    let zero = g.D.Disk.state c.args.disk.now in
    let new = g.D.Disk.state c.open_shown.new.disk in
    let number = c.args.number in
    let name = c.in_ok-name.name in
    let named = c.in_ok-name.ensures in
    let is = newest_is_journal zero new number octets newest name named in
    let shown = newest_shown zero new number octets newest name named in
    let older = opened_older zero new number octets newest name named since (c.open_shown.ensures.others tells)
    (c.open_shown.ensures.shows tells sound octets shown) within in
    opened_stands zero new number octets newest name named _ committed received since c.in-Ok.batches.items
    (c.open_shown.ensures.any_moment tells sound is octets shown committed received keeps) among older refl
    c.in-Ok.ensures.name
    c.new.ensures.items (c.in-Ok.ensures.settles tells sound) (c.in-Ok.ensures.opened tells sound octets shown) are

pub returns-in-Ok-clause-gives : goal.returns-in-Ok-clause-gives
returns-in-Ok-clause-gives g c tells sound octets newest =
    let zero = g.D.Disk.state c.args.disk.now in
    let new = g.D.Disk.state c.open_shown.new.disk in
    let name = c.in_ok-name.name in
    let shown = newest_shown zero new c.args.number octets newest name c.in_ok-name.ensures in
    opened_gives zero new c.args.number octets newest name c.in_ok-name.ensures c.in-Ok.journal c.in-Ok.batches.items
    (c.in-Ok.ensures.opened tells sound octets shown)

pub returns-in-Ok-clause-any_moment : goal.returns-in-Ok-clause-any_moment
returns-in-Ok-clause-any_moment g c tells sound octets newest committed received keeps =
    let zero = g.D.Disk.state c.args.disk.now in
    let new = g.D.Disk.state c.open_shown.new.disk in
    let name = c.in_ok-name.name in
    let is = newest_is_journal zero new c.args.number octets newest name c.in_ok-name.ensures in
    let shown = newest_shown zero new c.args.number octets newest name c.in_ok-name.ensures in
    c.open_shown.ensures.any_moment tells sound is octets shown committed received keeps

pub returns-in-Ok-clause-shows : goal.returns-in-Ok-clause-shows
returns-in-Ok-clause-shows g c tells sound octets newest since within =
    let zero = g.D.Disk.state c.args.disk.now in
    let new = g.D.Disk.state c.open_shown.new.disk in
    let name = c.in_ok-name.name in
    let shown = newest_shown zero new c.args.number octets newest name c.in_ok-name.ensures in
    batches_within zero new c.args.number octets since newest
    (subst (λ (n : List ℕ). ShowsTheBatches zero new n) c.in_ok-name.ensures
    (c.open_shown.ensures.shows tells sound octets shown)) within

pub returns-in-Err-clause-any_moment : goal.returns-in-Err-clause-any_moment
returns-in-Err-clause-any_moment g c tells sound octets newest committed received keeps =
    let zero = g.D.Disk.state c.args.disk.now in
    let new = g.D.Disk.state c.open_shown.new.disk in
    let name = c.in_ok-name.name in
    let is = newest_is_journal zero new c.args.number octets newest name c.in_ok-name.ensures in
    let shown = newest_shown zero new c.args.number octets newest name c.in_ok-name.ensures in
    c.open_shown.ensures.any_moment tells sound is octets shown committed received keeps

pub returns-in-Err-clause-shows : goal.returns-in-Err-clause-shows
returns-in-Err-clause-shows g c tells sound octets newest since within =
    let zero = g.D.Disk.state c.args.disk.now in
    let new = g.D.Disk.state c.open_shown.new.disk in
    let name = c.in_ok-name.name in
    let shown = newest_shown zero new c.args.number octets newest name c.in_ok-name.ensures in
    batches_within zero new c.args.number octets since newest
    (subst (λ (n : List ℕ). ShowsTheBatches zero new n) c.in_ok-name.ensures
    (c.open_shown.ensures.shows tells sound octets shown)) within

pub returns-in-Err-clause-cause : goal.returns-in-Err-clause-cause
returns-in-Err-clause-cause g c =
    let zero = g.D.Disk.state c.args.disk.now in
    let new = g.D.Disk.state c.open_shown.new.disk in
    let name = c.in_ok-name.name in
    journal_weaker
    (shown_causes (g.D.Disk.tells c.open_shown.new.disk) (g.D.Disk.has_failed c.open_shown.new.disk) zero name)
    (newest_causes (g.D.Disk.tells c.open_shown.new.disk) (g.D.Disk.has_failed c.open_shown.new.disk) zero c.args.number)
    (λ failed. failed) (λ full. full)
    (λ other tells sound octets newest.
    other tells sound octets (newest_shown zero new c.args.number octets newest name c.in_ok-name.ensures))
    (λ long tells sound octets newest. record {
      number = c.args.number;
      octets = octets;
      small = newest.small;
      shown = newest.shown;
      long = long tells sound octets (newest_shown zero new c.args.number octets newest name c.in_ok-name.ensures);
    })
    c.in-Err.fault c.in-Err.ensures.cause

pub returns-in-Ok-clause-files : goal.returns-in-Ok-clause-files
returns-in-Ok-clause-files g c tells =
    let small : c.args.number < 2 ^ 64 = omega (arith, c.ranges.number.fits) in
    others_files (g.D.Disk.state c.args.disk.now) (g.D.Disk.state c.open_shown.new.disk) c.in_ok-name.name
    (named_journal c.args.number c.in_ok-name.name small c.in_ok-name.ensures) (c.open_shown.ensures.others tells)

pub returns-in-Err-clause-files : goal.returns-in-Err-clause-files
returns-in-Err-clause-files g c tells =
    let small : c.args.number < 2 ^ 64 = omega (arith, c.ranges.number.fits) in
    others_files (g.D.Disk.state c.args.disk.now) (g.D.Disk.state c.open_shown.new.disk) c.in_ok-name.name
    (named_journal c.args.number c.in_ok-name.name small c.in_ok-name.ensures) (c.open_shown.ensures.others tells)

pub returns-in-Ok-clause-sound : goal.returns-in-Ok-clause-sound
returns-in-Ok-clause-sound g c tells sound octets newest =
    let zero = g.D.Disk.state c.args.disk.now in
    let new = g.D.Disk.state c.open_shown.new.disk in
    let name = c.in_ok-name.name in
    let shown = newest_shown zero new c.args.number octets newest name c.in_ok-name.ensures in
    let opens = c.in-Ok.ensures.opened tells sound octets shown in
    opens.stands.sound

pub returns-in-Ok-clause-older : goal.returns-in-Ok-clause-older
returns-in-Ok-clause-older g c tells sound octets newest since within =
    let zero = g.D.Disk.state c.args.disk.now in
    let new = g.D.Disk.state c.open_shown.new.disk in
    let name = c.in_ok-name.name in
    let named = c.in_ok-name.ensures in
    let shown = newest_shown zero new c.args.number octets newest name named in
    opened_older zero new c.args.number octets newest name named since (c.open_shown.ensures.others tells)
    (c.open_shown.ensures.shows tells sound octets shown) within

pub returns-in-Err-clause-older : goal.returns-in-Err-clause-older
returns-in-Err-clause-older g c tells sound octets newest since within =
    let zero = g.D.Disk.state c.args.disk.now in
    let new = g.D.Disk.state c.open_shown.new.disk in
    let name = c.in_ok-name.name in
    let named = c.in_ok-name.ensures in
    let shown = newest_shown zero new c.args.number octets newest name named in
    opened_older zero new c.args.number octets newest name named since (c.open_shown.ensures.others tells)
    (c.open_shown.ensures.shows tells sound octets shown) within
