use Rattle.std.proofs.Common.{◌<◌, ◌^◌, List, ℕ, arith, ap, subst, ◌∙◌}
use Rattle.disk.specs.Memory.{shown_now}
use Rattle.record_store.specs.Causes.{reading_causes, shown_causes}
use Rattle.record_store.specs.Shown.{ShowsTheBatches}
use Rattle.record_store.proofs.Asides.{named_journal}
use Rattle.record_store.proofs.Opened.{cut_shown}
use Rattle.record_store.proofs.Causing.{journal_weaker}
use Rattle.record_store.proofs.aside.cut_journal.Goals as goal

pub returns-in-Ok-clause-any_moment : goal.returns-in-Ok-clause-any_moment
returns-in-Ok-clause-any_moment g c tells sound octets shown committed received keeps =
    let zero = g.D.Disk.state c.args.disk.now in
    let small : c.args.number < 2 ^ 64 = omega (arith, c.ranges.number.fits) in
    let here = ap (λ (n : List ℕ). shown_now (zero.entries n)) c.in_ok-name.ensures ∙ shown in
    c.open_shown.ensures.any_moment tells sound
    (named_journal c.args.number c.in_ok-name.name small c.in_ok-name.ensures) octets here committed received keeps

pub returns-in-Ok-clause-shows : goal.returns-in-Ok-clause-shows
returns-in-Ok-clause-shows g c tells sound octets shown =
    let zero = g.D.Disk.state c.args.disk.now in
    let new = g.D.Disk.state c.open_shown.new.disk in
    let here = ap (λ (n : List ℕ). shown_now (zero.entries n)) c.in_ok-name.ensures ∙ shown in
    subst (λ (n : List ℕ). ShowsTheBatches zero new n) c.in_ok-name.ensures
    (c.open_shown.ensures.shows tells sound octets here)

pub returns-in-Err-clause-any_moment : goal.returns-in-Err-clause-any_moment
returns-in-Err-clause-any_moment g c tells sound octets shown committed received keeps =
    let zero = g.D.Disk.state c.args.disk.now in
    let small : c.args.number < 2 ^ 64 = omega (arith, c.ranges.number.fits) in
    let here = ap (λ (n : List ℕ). shown_now (zero.entries n)) c.in_ok-name.ensures ∙ shown in
    c.open_shown.ensures.any_moment tells sound
    (named_journal c.args.number c.in_ok-name.name small c.in_ok-name.ensures) octets here committed received keeps

pub returns-in-Err-clause-shows : goal.returns-in-Err-clause-shows
returns-in-Err-clause-shows g c tells sound octets shown =
    let zero = g.D.Disk.state c.args.disk.now in
    let new = g.D.Disk.state c.open_shown.new.disk in
    let here = ap (λ (n : List ℕ). shown_now (zero.entries n)) c.in_ok-name.ensures ∙ shown in
    subst (λ (n : List ℕ). ShowsTheBatches zero new n) c.in_ok-name.ensures
    (c.open_shown.ensures.shows tells sound octets here)

pub returns-in-Ok-clause-sound : goal.returns-in-Ok-clause-sound
returns-in-Ok-clause-sound g c tells sound octets shown =
    let zero = g.D.Disk.state c.args.disk.now in
    let here = ap (λ (n : List ℕ). shown_now (zero.entries n)) c.in_ok-name.ensures ∙ shown in
    let opens = c.in-Ok.ensures.opened tells sound octets here in
    opens.stands.sound

pub returns-in-Err-clause-cause : goal.returns-in-Err-clause-cause
returns-in-Err-clause-cause g c =
    let zero = g.D.Disk.state c.args.disk.now in
    let name = c.in_ok-name.name in
    journal_weaker
    (shown_causes (g.D.Disk.tells c.open_shown.new.disk) (g.D.Disk.has_failed c.open_shown.new.disk) zero name)
    (reading_causes (g.D.Disk.tells c.open_shown.new.disk) (g.D.Disk.has_failed c.open_shown.new.disk) zero c.args.number)
    (λ failed. failed) (λ full. full)
    (λ other tells sound octets shown.
    other tells sound octets (ap (λ (n : List ℕ). shown_now (zero.entries n)) c.in_ok-name.ensures ∙ shown))
    (λ long tells sound octets shown.
    long tells sound octets (ap (λ (n : List ℕ). shown_now (zero.entries n)) c.in_ok-name.ensures ∙ shown))
    c.in-Err.fault c.in-Err.ensures.cause

pub returns-in-Ok-clause-cut : goal.returns-in-Ok-clause-cut
returns-in-Ok-clause-cut g c tells sound octets bodies shown has =
    let zero = g.D.Disk.state c.args.disk.now in
    let here = ap (λ (n : List ℕ). shown_now (zero.entries n)) c.in_ok-name.ensures ∙ shown in
    let opens = c.in-Ok.ensures.opened tells sound octets here in
    cut_shown (g.D.Disk.state c.open_shown.new.disk) c.args.number c.in_ok-name.name octets bodies has _ opens
    c.in_ok-name.ensures c.in-Ok.ensures.name
