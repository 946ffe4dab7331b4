use Rattle.std.proofs.Common.{◌<◌, ◌^◌, inl, inr, List, ℕ, sym, ◌∙◌, arith, subst}
use Rattle.std.proofs.lemmas.Result.{IfOk-weaker, err_from_is_err_and, on_ok_weaker}
use Rattle.std.specs.Prelude.{Option, Some, None, IfErr}
use Rattle.record_store.specs.Causes.{IsCause, first_causes, newest_causes, opening_causes}
use Rattle.record_store.specs.Names.{IsNewest}
use Rattle.record_store.proofs.Apart.{unchanged_within}
use Rattle.record_store.proofs.Asides.{files_after, files_unchanged}
use Rattle.record_store.proofs.Batches.{nothing_has}
use Rattle.record_store.proofs.Causing.{cause_weaker, disk_cause, result_weaker}
use Rattle.record_store.proofs.Covering.{unchanged_keeps}
use Rattle.record_store.proofs.Newly.{gives_still, newest_of, newest_still, none_newest, none_still, too_long_still}
use Rattle.record_store.proofs.Opened.{given_received}
use Rattle.record_store.proofs.Showing.{same_within, unchanged_shown}
use Rattle.record_store.proofs.opening.open.Goals as goal

pub returns-in-Err-clause-any_moment : goal.returns-in-Err-clause-any_moment
returns-in-Err-clause-any_moment g c tells sound committed received keeps =
    unchanged_keeps (g.D.Disk.state c.args.disk.now) (g.D.Disk.state c.names.new.self) (c.names.ensures.done tells)
    committed received keeps

pub returns-in-Err-clause-shows : goal.returns-in-Err-clause-shows
returns-in-Err-clause-shows g c tells sound since within =
    let zero = g.D.Disk.state c.args.disk.now in
    let one = g.D.Disk.state c.names.new.self in
    same_within zero one since (unchanged_shown zero one (c.names.ensures.done tells)) within

pub returns-in-Err-clause-cause : goal.returns-in-Err-clause-cause
returns-in-Err-clause-cause g c =
    disk_cause c.names.result c.in-Err.fault
    (opening_causes (g.D.Disk.tells c.names.new.self) (g.D.Disk.has_failed c.names.new.self)
    (g.D.Disk.state c.args.disk.now))
    c.in-Err.is c.names.ensures.cause.failed c.names.ensures.cause.full
    (λ missing tells sound. (c.names.ensures.of_folder tells).not_missing missing)
    (λ exists tells sound. (c.names.ensures.of_folder tells).not_exists exists)

pub returns-in-Some-clause-opened : goal.returns-in-Some-clause-opened
returns-in-Some-clause-opened g c =
    let zero = g.D.Disk.state c.args.disk.now in
    let one = g.D.Disk.state c.names.new.self in
    let number = c.in-Some.number in
    let small : number < 2 ^ 64 = omega arith in
    let newest = subst (λ (l : List (List ℕ)). IsNewest l (Some number)) c.deref.ensures.value
    (subst (λ (o : Option ℕ). IsNewest c.deref.result.now o) c.in-Some.is c.newest.ensures) in
    IfOk-weaker c.open_journal.result _ _ (λ r opens tells sound committed received since keeps among within are.
    let told = c.open_journal.ensures.told tells in
    let same = c.names.ensures.done told in
    let found = newest_of zero c.in-Ok.names.items sound (c.in-Ok.ensures.names told) number small newest in
    opens tells (same.lost ∙ sound) found.0 (newest_still zero one same number found.0 found.1) committed received since
    (unchanged_keeps zero one same committed received keeps) among (unchanged_within zero one same since within) are)
    c.open_journal.ensures.opened

pub returns-in-Some-clause-newest : goal.returns-in-Some-clause-newest
returns-in-Some-clause-newest g c =
    let zero = g.D.Disk.state c.args.disk.now in
    let one = g.D.Disk.state c.names.new.self in
    let number = c.in-Some.number in
    let small : number < 2 ^ 64 = omega arith in
    let newest = subst (λ (l : List (List ℕ)). IsNewest l (Some number)) c.deref.ensures.value
    (subst (λ (o : Option ℕ). IsNewest c.deref.result.now o) c.in-Some.is c.newest.ensures) in
    IfOk-weaker c.open_journal.result _ _ (λ r gives tells sound.
    let told = c.open_journal.ensures.told tells in
    let same = c.names.ensures.done told in
    let found = newest_of zero c.in-Ok.names.items sound (c.in-Ok.ensures.names told) number small newest in
    inl (gives_still zero one same r.0.number r.1.items
    (gives tells (same.lost ∙ sound) found.0 (newest_still zero one same number found.0 found.1))))
    c.open_journal.ensures.gives

pub returns-in-Some-clause-received : goal.returns-in-Some-clause-received
returns-in-Some-clause-received g c =
    let zero = g.D.Disk.state c.args.disk.now in
    let one = g.D.Disk.state c.names.new.self in
    let number = c.in-Some.number in
    let small : number < 2 ^ 64 = omega arith in
    let newest = subst (λ (l : List (List ℕ)). IsNewest l (Some number)) c.deref.ensures.value
    (subst (λ (o : Option ℕ). IsNewest c.deref.result.now o) c.in-Some.is c.newest.ensures) in
    IfOk-weaker c.open_journal.result _ _ (λ r gives tells sound committed received keeps e has.
    let told = c.open_journal.ensures.told tells in
    let same = c.names.ensures.done told in
    let found = newest_of zero c.in-Ok.names.items sound (c.in-Ok.ensures.names told) number small newest in
    given_received zero r.0.number r.1.items committed received e keeps
    (inl (gives_still zero one same r.0.number r.1.items
    (gives tells (same.lost ∙ sound) found.0 (newest_still zero one same number found.0 found.1)))) has)
    c.open_journal.ensures.gives

pub returns-in-Some-clause-any_moment : goal.returns-in-Some-clause-any_moment
returns-in-Some-clause-any_moment g c tells sound committed received keeps =
    let zero = g.D.Disk.state c.args.disk.now in
    let one = g.D.Disk.state c.names.new.self in
    let number = c.in-Some.number in
    let small : number < 2 ^ 64 = omega arith in
    let newest = subst (λ (l : List (List ℕ)). IsNewest l (Some number)) c.deref.ensures.value
    (subst (λ (o : Option ℕ). IsNewest c.deref.result.now o) c.in-Some.is c.newest.ensures) in
    let told = c.open_journal.ensures.told tells in
    let same = c.names.ensures.done told in
    let found = newest_of zero c.in-Ok.names.items sound (c.in-Ok.ensures.names told) number small newest in
    c.open_journal.ensures.any_moment tells (same.lost ∙ sound) found.0
    (newest_still zero one same number found.0 found.1) committed received
    (unchanged_keeps zero one same committed received keeps)

pub returns-in-Some-clause-shows : goal.returns-in-Some-clause-shows
returns-in-Some-clause-shows g c tells sound since within =
    let zero = g.D.Disk.state c.args.disk.now in
    let one = g.D.Disk.state c.names.new.self in
    let number = c.in-Some.number in
    let small : number < 2 ^ 64 = omega arith in
    let newest = subst (λ (l : List (List ℕ)). IsNewest l (Some number)) c.deref.ensures.value
    (subst (λ (o : Option ℕ). IsNewest c.deref.result.now o) c.in-Some.is c.newest.ensures) in
    let told = c.open_journal.ensures.told tells in
    let same = c.names.ensures.done told in
    let found = newest_of zero c.in-Ok.names.items sound (c.in-Ok.ensures.names told) number small newest in
    c.open_journal.ensures.shows tells (same.lost ∙ sound) found.0
    (newest_still zero one same number found.0 found.1) since
    (same_within zero one since (unchanged_shown zero one same) within)

pub returns-in-Some-clause-cause : goal.returns-in-Some-clause-cause
returns-in-Some-clause-cause g c =
    let zero = g.D.Disk.state c.args.disk.now in
    let one = g.D.Disk.state c.names.new.self in
    let number = c.in-Some.number in
    let small : number < 2 ^ 64 = omega arith in
    let newest = subst (λ (l : List (List ℕ)). IsNewest l (Some number)) c.deref.ensures.value
    (subst (λ (o : Option ℕ). IsNewest c.deref.result.now o) c.in-Some.is c.newest.ensures) in
    result_weaker
    (newest_causes (g.D.Disk.tells c.open_journal.new.disk) (g.D.Disk.has_failed c.open_journal.new.disk) one number)
    (opening_causes (g.D.Disk.tells c.open_journal.new.disk) (g.D.Disk.has_failed c.open_journal.new.disk) zero)
    (λ failed. failed) (λ full. full)
    (λ other tells sound.
    let told = c.open_journal.ensures.told tells in
    let same = c.names.ensures.done told in
    let found = newest_of zero c.in-Ok.names.items sound (c.in-Ok.ensures.names told) number small newest in
    other tells (same.lost ∙ sound) found.0 (newest_still zero one same number found.0 found.1))
    (λ long tells sound.
    let told = c.open_journal.ensures.told tells in
    let same = c.names.ensures.done told in
    let found = newest_of zero c.in-Ok.names.items sound (c.in-Ok.ensures.names told) number small newest in
    too_long_still zero one same
    (long tells (same.lost ∙ sound) found.0 (newest_still zero one same number found.0 found.1)))
    (λ broken. broken) c.open_journal.result c.open_journal.ensures.cause

pub returns-in_err-begin-in-None-clause-any_moment : goal.returns-in_err-begin-in-None-clause-any_moment
returns-in_err-begin-in-None-clause-any_moment g c tells sound committed received keeps =
    let zero = g.D.Disk.state c.args.disk.now in
    let one = g.D.Disk.state c.names.new.self in
    let newest = subst (λ (l : List (List ℕ)). IsNewest l None) c.deref.ensures.value
    (subst (λ (o : Option ℕ). IsNewest c.deref.result.now o) c.in-None.is c.newest.ensures) in
    let told = c.begin.ensures.told tells in
    let same = c.names.ensures.done told in
    let none = none_still zero one same (none_newest zero c.in-Ok.names.items sound (c.in-Ok.ensures.names told) newest) in
    c.begin.ensures.any_moment tells (same.lost ∙ sound) none committed received
    (unchanged_keeps zero one same committed received keeps)

pub returns-in_err-begin-in-None-clause-shows : goal.returns-in_err-begin-in-None-clause-shows
returns-in_err-begin-in-None-clause-shows g c tells sound since within =
    let zero = g.D.Disk.state c.args.disk.now in
    let one = g.D.Disk.state c.names.new.self in
    let newest = subst (λ (l : List (List ℕ)). IsNewest l None) c.deref.ensures.value
    (subst (λ (o : Option ℕ). IsNewest c.deref.result.now o) c.in-None.is c.newest.ensures) in
    let told = c.begin.ensures.told tells in
    let same = c.names.ensures.done told in
    let none = none_still zero one same (none_newest zero c.in-Ok.names.items sound (c.in-Ok.ensures.names told) newest) in
    c.begin.ensures.shows tells none since

pub returns-clause-any_moment : goal.returns-clause-any_moment
returns-clause-any_moment g c tells sound committed received keeps =
    let zero = g.D.Disk.state c.args.disk.now in
    let one = g.D.Disk.state c.names.new.self in
    let newest = subst (λ (l : List (List ℕ)). IsNewest l None) c.deref.ensures.value
    (subst (λ (o : Option ℕ). IsNewest c.deref.result.now o) c.in-None.is c.newest.ensures) in
    let told = c.begin.ensures.told tells in
    let same = c.names.ensures.done told in
    let none = none_still zero one same (none_newest zero c.in-Ok.names.items sound (c.in-Ok.ensures.names told) newest) in
    c.begin.ensures.any_moment tells (same.lost ∙ sound) none committed received
    (unchanged_keeps zero one same committed received keeps)

pub returns-clause-shows : goal.returns-clause-shows
returns-clause-shows g c tells sound since within =
    let zero = g.D.Disk.state c.args.disk.now in
    let one = g.D.Disk.state c.names.new.self in
    let newest = subst (λ (l : List (List ℕ)). IsNewest l None) c.deref.ensures.value
    (subst (λ (o : Option ℕ). IsNewest c.deref.result.now o) c.in-None.is c.newest.ensures) in
    let told = c.begin.ensures.told tells in
    let same = c.names.ensures.done told in
    let none = none_still zero one same (none_newest zero c.in-Ok.names.items sound (c.in-Ok.ensures.names told) newest) in
    c.begin.ensures.shows tells none since

pub returns-clause-opened : goal.returns-clause-opened
returns-clause-opened g c tells sound committed received since keeps among within are =
    let zero = g.D.Disk.state c.args.disk.now in
    let one = g.D.Disk.state c.names.new.self in
    let newest = subst (λ (l : List (List ℕ)). IsNewest l None) c.deref.ensures.value
    (subst (λ (o : Option ℕ). IsNewest c.deref.result.now o) c.in-None.is c.newest.ensures) in
    let told = c.begin.ensures.told tells in
    let same = c.names.ensures.done told in
    let none = none_still zero one same (none_newest zero c.in-Ok.names.items sound (c.in-Ok.ensures.names told) newest) in
    c.in_ok-begin-in-None.ensures.made tells (same.lost ∙ sound) none committed received since
    (unchanged_keeps zero one same committed received keeps) among

pub returns-clause-newest : goal.returns-clause-newest
returns-clause-newest g c tells sound =
    let zero = g.D.Disk.state c.args.disk.now in
    let one = g.D.Disk.state c.names.new.self in
    let newest = subst (λ (l : List (List ℕ)). IsNewest l None) c.deref.ensures.value
    (subst (λ (o : Option ℕ). IsNewest c.deref.result.now o) c.in-None.is c.newest.ensures) in
    let told = c.begin.ensures.told tells in
    let same = c.names.ensures.done told in
    let none = (none_newest zero c.in-Ok.names.items sound (c.in-Ok.ensures.names told) newest) in
    inr (none, c.in_ok-begin-in-None.ensures.number, c.new.ensures.items)

pub returns-clause-received : goal.returns-clause-received
returns-clause-received g c tells sound committed received keeps e has =
    absurd (nothing_has c.new.result.items e c.new.ensures.items has)

pub returns-in_err-begin-in-None-clause-cause : goal.returns-in_err-begin-in-None-clause-cause
returns-in_err-begin-in-None-clause-cause g c =
    let zero = g.D.Disk.state c.args.disk.now in
    let one = g.D.Disk.state c.names.new.self in
    let newest = subst (λ (l : List (List ℕ)). IsNewest l None) c.deref.ensures.value
    (subst (λ (o : Option ℕ). IsNewest c.deref.result.now o) c.in-None.is c.newest.ensures) in
    let tells_then = g.D.Disk.tells c.begin.new.disk in
    let failed_then = g.D.Disk.has_failed c.begin.new.disk in
    let fault = err_from_is_err_and c.from_residual.result c.from_residual.ensures.1 in
    let first = subst (IsCause (first_causes tells_then failed_then one)) (sym fault.2)
    c.in_err-begin-in-None.ensures.cause in
    subst (λ r. IfErr r (IsCause (opening_causes tells_then failed_then zero))) (sym fault.1)
    (cause_weaker (first_causes tells_then failed_then one) (opening_causes tells_then failed_then zero)
    (λ failed. failed) (λ full. full)
    (λ other tells sound.
    let told = c.begin.ensures.told tells in
    let same = c.names.ensures.done told in
    let none = none_still zero one same (none_newest zero c.in-Ok.names.items sound (c.in-Ok.ensures.names told) newest) in
    other tells none)
    (λ long. absurd long) (λ broken. broken) fault.0 first)

pub returns-in-Err-clause-files : goal.returns-in-Err-clause-files
returns-in-Err-clause-files g c tells =
    files_unchanged (g.D.Disk.state c.args.disk.now) (g.D.Disk.state c.names.new.self) (c.names.ensures.done tells)

pub returns-in-Some-clause-files : goal.returns-in-Some-clause-files
returns-in-Some-clause-files g c tells =
    files_after (g.D.Disk.state c.args.disk.now) (g.D.Disk.state c.names.new.self) (g.D.Disk.state c.open_journal.new.disk)
    (c.names.ensures.done (c.open_journal.ensures.told tells)) (c.open_journal.ensures.files tells)

pub returns-in_err-begin-in-None-clause-files : goal.returns-in_err-begin-in-None-clause-files
returns-in_err-begin-in-None-clause-files g c tells =
    files_after (g.D.Disk.state c.args.disk.now) (g.D.Disk.state c.names.new.self) (g.D.Disk.state c.begin.new.disk)
    (c.names.ensures.done (c.begin.ensures.told tells)) (c.begin.ensures.files tells)

pub returns-clause-files : goal.returns-clause-files
returns-clause-files g c tells =
    files_after (g.D.Disk.state c.args.disk.now) (g.D.Disk.state c.names.new.self) (g.D.Disk.state c.begin.new.disk)
    (c.names.ensures.done (c.begin.ensures.told tells)) (c.begin.ensures.files tells)

pub returns-clause-sound : goal.returns-clause-sound
returns-clause-sound g c tells sound =
    let told = c.begin.ensures.told tells in
    c.in_ok-begin-in-None.ensures.sound tells ((c.names.ensures.done told).lost ∙ sound)

pub returns-in-Some-clause-sound : goal.returns-in-Some-clause-sound
returns-in-Some-clause-sound g c =
    let zero = g.D.Disk.state c.args.disk.now in
    let one = g.D.Disk.state c.names.new.self in
    let number = c.in-Some.number in
    let small : number < 2 ^ 64 = omega arith in
    let newest = subst (λ (l : List (List ℕ)). IsNewest l (Some number)) c.deref.ensures.value
    (subst (λ (o : Option ℕ). IsNewest c.deref.result.now o) c.in-Some.is c.newest.ensures) in
    on_ok_weaker c.open_journal.result (λ sounds tells sound.
    let told = c.open_journal.ensures.told tells in
    let same = c.names.ensures.done told in
    let found = newest_of zero c.in-Ok.names.items sound (c.in-Ok.ensures.names told) number small newest in
    sounds tells (same.lost ∙ sound) found.0 (newest_still zero one same number found.0 found.1))
    c.open_journal.ensures.sound

pub returns-in-Err-clause-older : goal.returns-in-Err-clause-older
returns-in-Err-clause-older g c tells sound since within =
    unchanged_within (g.D.Disk.state c.args.disk.now) (g.D.Disk.state c.names.new.self) (c.names.ensures.done tells) since
    within

pub returns-in-Some-clause-older : goal.returns-in-Some-clause-older
returns-in-Some-clause-older g c tells sound since within =
    let zero = g.D.Disk.state c.args.disk.now in
    let one = g.D.Disk.state c.names.new.self in
    let number = c.in-Some.number in
    let small : number < 2 ^ 64 = omega arith in
    let newest = subst (λ (l : List (List ℕ)). IsNewest l (Some number)) c.deref.ensures.value
    (subst (λ (o : Option ℕ). IsNewest c.deref.result.now o) c.in-Some.is c.newest.ensures) in
    let told = c.open_journal.ensures.told tells in
    let same = c.names.ensures.done told in
    let found = newest_of zero c.in-Ok.names.items sound (c.in-Ok.ensures.names told) number small newest in
    c.open_journal.ensures.older tells (same.lost ∙ sound) found.0
    (newest_still zero one same number found.0 found.1) since (unchanged_within zero one same since within)

pub returns-in_err-begin-in-None-clause-older : goal.returns-in_err-begin-in-None-clause-older
returns-in_err-begin-in-None-clause-older g c tells sound since within =
    let zero = g.D.Disk.state c.args.disk.now in
    let one = g.D.Disk.state c.names.new.self in
    let newest = subst (λ (l : List (List ℕ)). IsNewest l None) c.deref.ensures.value
    (subst (λ (o : Option ℕ). IsNewest c.deref.result.now o) c.in-None.is c.newest.ensures) in
    let told = c.begin.ensures.told tells in
    let same = c.names.ensures.done told in
    let none = none_still zero one same (none_newest zero c.in-Ok.names.items sound (c.in-Ok.ensures.names told) newest) in
    c.begin.ensures.older tells none since

pub returns-clause-older : goal.returns-clause-older
returns-clause-older g c tells sound since within =
    let zero = g.D.Disk.state c.args.disk.now in
    let one = g.D.Disk.state c.names.new.self in
    let newest = subst (λ (l : List (List ℕ)). IsNewest l None) c.deref.ensures.value
    (subst (λ (o : Option ℕ). IsNewest c.deref.result.now o) c.in-None.is c.newest.ensures) in
    let told = c.begin.ensures.told tells in
    let same = c.names.ensures.done told in
    let none = none_still zero one same (none_newest zero c.in-Ok.names.items sound (c.in-Ok.ensures.names told) newest) in
    c.begin.ensures.older tells none since
