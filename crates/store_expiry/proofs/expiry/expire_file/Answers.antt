use Rattle.std.proofs.Common.{inl, refl, ◌∙◌}
use Rattle.std.proofs.lemmas.Result.{err_from_is_err_and}
use Rattle.store_upkeep.specs.Compaction.{shown}
use Rattle.store_expiry.proofs.Finding.{clear_told, none_found, some_found}
use Rattle.store_expiry.proofs.Changing.{clear_none}
use Rattle.store_expiry.proofs.Shedding.{then_sheds, unchanged_sheds, unchanged_stays}
use Rattle.store_expiry.proofs.Telling.{all_after, err_lines, found_fails, found_tells, part_after, writes_no_part}
use Rattle.store_expiry.proofs.Causing.{cause_on}
use Rattle.store_expiry.proofs.expiry.expire_file.Goals as goal

pub returns-in_err-found-clause-sheds : goal.returns-in_err-found-clause-sheds
returns-in_err-found-clause-sheds g c t sound =
    unchanged_sheds c.args.expired.now (g.D.Disk.state c.args.disk.now) (g.D.Disk.state c.find.new.disk)
    (c.find.ensures.same t)

pub returns-in_err-found-clause-lines : goal.returns-in_err-found-clause-lines
returns-in_err-found-clause-lines g c t sound =
    let x = c.args.expired.now in
    let zero = g.D.Disk.state c.args.disk.now in
    let one = g.D.Disk.state c.find.new.disk in
    let taken = (g.W.Output.state c.args.output.now).taken in
    err_lines x zero one taken taken _ c.from_residual.result _
    (err_from_is_err_and c.from_residual.result c.from_residual.ensures.1).1
    (writes_no_part x zero one taken _ (unchanged_stays x zero one (c.find.ensures.same t)))

pub returns-in_default-clause-clear : goal.returns-in_default-clause-clear
returns-in_default-clause-clear g c t sound wet = c.in_ok-found.ensures.none t sound (none_found _ c.in_default.is)

pub returns-in_default-clause-sheds : goal.returns-in_default-clause-sheds
returns-in_default-clause-sheds g c t sound =
    unchanged_sheds c.args.expired.now (g.D.Disk.state c.args.disk.now) (g.D.Disk.state c.find.new.disk)
    (c.find.ensures.same t)

pub returns-in_default-clause-lines : goal.returns-in_default-clause-lines
returns-in_default-clause-lines g c t sound =
    clear_told c.args.expired.now (g.D.Disk.state c.args.disk.now) (g.D.Disk.state c.find.new.disk)
    (c.find.ensures.same t) c.args.name.now (g.W.Output.state c.args.output.now).taken
    (c.in_ok-found.ensures.none t sound (none_found _ c.in_default.is))

pub returns-in_err-tell-clause-sheds : goal.returns-in_err-tell-clause-sheds
returns-in_err-tell-clause-sheds g c t sound =
    unchanged_sheds c.args.expired.now (g.D.Disk.state c.args.disk.now) (g.D.Disk.state c.find.new.disk)
    (c.find.ensures.same t)

pub returns-in_err-tell-clause-lines : goal.returns-in_err-tell-clause-lines
returns-in_err-tell-clause-lines g c t sound =
    let x = c.args.expired.now in
    let zero = g.D.Disk.state c.args.disk.now in
    let one = g.D.Disk.state c.find.new.disk in
    let before = (g.W.Output.state c.args.output.now).taken in
    let after = (g.W.Output.state c.tell.new.output).taken in
    let same = c.find.ensures.same t in
    err_lines x zero one before after _ c.from_residual-in_err-tell.result _
    (err_from_is_err_and c.from_residual-in_err-tell.result c.from_residual-in_err-tell.ensures.1).1
    (part_after x zero one (unchanged_sheds x zero one same) (unchanged_stays x zero one same) one before after _
    (found_fails x one one c.args.name.now c.in-Some.found
    (some_found _ c.in-Some.found _ c.in-Some.is (c.in_ok-found.ensures.found t sound))
    (λ period name segment. inl refl) before after _ c.in_err-tell.ensures.tells))

pub returns-then-dry_run-clause-clear : goal.returns-then-dry_run-clause-clear
returns-then-dry_run-clause-clear g c t sound wet =
    let dry = c.if-dry_run.true in absurd (cc (dry, wet))

pub returns-then-dry_run-clause-sheds : goal.returns-then-dry_run-clause-sheds
returns-then-dry_run-clause-sheds g c t sound =
    unchanged_sheds c.args.expired.now (g.D.Disk.state c.args.disk.now) (g.D.Disk.state c.find.new.disk)
    (c.find.ensures.same t)

pub returns-then-dry_run-clause-lines : goal.returns-then-dry_run-clause-lines
returns-then-dry_run-clause-lines g c t sound =
    let x = c.args.expired.now in
    let zero = g.D.Disk.state c.args.disk.now in
    let one = g.D.Disk.state c.find.new.disk in
    let before = (g.W.Output.state c.args.output.now).taken in
    let after = (g.W.Output.state c.tell.new.output).taken in
    let same = c.find.ensures.same t in
    all_after x zero one (unchanged_sheds x zero one same) (unchanged_stays x zero one same) one before after _
    (found_tells x one one c.args.name.now c.in-Some.found
    (some_found _ c.in-Some.found _ c.in-Some.is (c.in_ok-found.ensures.found t sound))
    (λ period name segment. inl refl) before after one c.in_ok-tell.ensures.tells (λ other apart. refl))

pub returns-in_err-shed-clause-sheds : goal.returns-in_err-shed-clause-sheds
returns-in_err-shed-clause-sheds g c t sound =
    let x = c.args.expired.now in
    let zero = g.D.Disk.state c.args.disk.now in
    let one = g.D.Disk.state c.find.new.disk in
    let told = c.shed.ensures.told t in
    let same = c.find.ensures.same told in
    then_sheds x zero one (g.D.Disk.state c.shed.new.disk) (unchanged_sheds x zero one same)
    (c.shed.ensures.sheds t (same.lost ∙ sound)
    (some_found _ c.in-Some.found _ c.in-Some.is (c.in_ok-found.ensures.found told sound)))

pub returns-in_err-shed-clause-lines : goal.returns-in_err-shed-clause-lines
returns-in_err-shed-clause-lines g c t sound =
    let x = c.args.expired.now in
    let zero = g.D.Disk.state c.args.disk.now in
    let one = g.D.Disk.state c.find.new.disk in
    let two = g.D.Disk.state c.shed.new.disk in
    let before = (g.W.Output.state c.args.output.now).taken in
    let after = (g.W.Output.state c.shed.new.output).taken in
    let told = c.shed.ensures.told t in
    let same = c.find.ensures.same told in
    err_lines x zero two before after _ c.from_residual-in_err-shed.result _
    (err_from_is_err_and c.from_residual-in_err-shed.result c.from_residual-in_err-shed.ensures.1).1
    (part_after x zero one (unchanged_sheds x zero one same) (unchanged_stays x zero one same) two before after _
    (c.in_err-shed.ensures.lines t (same.lost ∙ sound)
    (some_found _ c.in-Some.found _ c.in-Some.is (c.in_ok-found.ensures.found told sound))))

pub returns-in_err-shed-clause-dry : goal.returns-in_err-shed-clause-dry
returns-in_err-shed-clause-dry g c t dry = absurd (cc (c.if-dry_run.false, dry))

pub returns-clause-clear : goal.returns-clause-clear
returns-clause-clear g c t sound wet =
    clear_none c.args.expired.now (shown (g.D.Disk.state c.shed.new.disk)) c.args.name.now (c.in_ok-shed.ensures.gone t)

pub returns-clause-sound : goal.returns-clause-sound
returns-clause-sound g c t sound =
    let told = c.shed.ensures.told t in
    c.in_ok-shed.ensures.sound t ((c.find.ensures.same told).lost ∙ sound)
    (some_found _ c.in-Some.found _ c.in-Some.is (c.in_ok-found.ensures.found told sound))

pub returns-clause-sheds : goal.returns-clause-sheds
returns-clause-sheds g c t sound =
    let x = c.args.expired.now in
    let zero = g.D.Disk.state c.args.disk.now in
    let one = g.D.Disk.state c.find.new.disk in
    let told = c.shed.ensures.told t in
    let same = c.find.ensures.same told in
    then_sheds x zero one (g.D.Disk.state c.shed.new.disk) (unchanged_sheds x zero one same)
    (c.shed.ensures.sheds t (same.lost ∙ sound)
    (some_found _ c.in-Some.found _ c.in-Some.is (c.in_ok-found.ensures.found told sound)))

pub returns-clause-lines : goal.returns-clause-lines
returns-clause-lines g c t sound =
    let x = c.args.expired.now in
    let zero = g.D.Disk.state c.args.disk.now in
    let one = g.D.Disk.state c.find.new.disk in
    let two = g.D.Disk.state c.shed.new.disk in
    let before = (g.W.Output.state c.args.output.now).taken in
    let after = (g.W.Output.state c.shed.new.output).taken in
    let told = c.shed.ensures.told t in
    let same = c.find.ensures.same told in
    all_after x zero one (unchanged_sheds x zero one same) (unchanged_stays x zero one same) two before after _
    (c.in_ok-shed.ensures.lines t (same.lost ∙ sound)
    (some_found _ c.in-Some.found _ c.in-Some.is (c.in_ok-found.ensures.found told sound)))

pub returns-clause-dry : goal.returns-clause-dry
returns-clause-dry g c t dry = absurd (cc (c.if-dry_run.false, dry))

pub returns-in_err-found-clause-cause : goal.returns-in_err-found-clause-cause
returns-in_err-found-clause-cause g c t sound =
    let n = (g.W.Output.state c.args.output.now).failures in
    cause_on c.args.expired.now (shown (g.D.Disk.state c.find.new.disk)) n n n c.from_residual.result
    c.in_err-found.field-0.0 c.from_residual.ensures.1 refl (c.in_err-found.ensures.cause t sound n)

pub returns-in_err-tell-clause-cause : goal.returns-in_err-tell-clause-cause
returns-in_err-tell-clause-cause g c t sound =
    let a = (g.W.Output.state c.args.output.now).failures in
    let b = (g.W.Output.state c.tell.new.output).failures in
    let files = shown (g.D.Disk.state c.find.new.disk) in
    cause_on c.args.expired.now files a a b c.from_residual-in_err-tell.result c.in_err-tell.field-0.0
    c.from_residual-in_err-tell.ensures.1 refl (c.in_err-tell.ensures.cause c.args.expired.now files)

pub returns-then-dry_run-clause-cause : goal.returns-then-dry_run-clause-cause
returns-then-dry_run-clause-cause g c t sound =
    c.in_ok-tell.ensures.cause c.args.expired.now (shown (g.D.Disk.state c.find.new.disk))

pub returns-in_err-shed-clause-cause : goal.returns-in_err-shed-clause-cause
returns-in_err-shed-clause-cause g c t sound =
    let x = c.args.expired.now in
    let a = (g.W.Output.state c.args.output.now).failures in
    let b = (g.W.Output.state c.shed.new.output).failures in
    let told = c.shed.ensures.told t in
    let same = c.find.ensures.same told in
    cause_on x (shown (g.D.Disk.state c.shed.new.disk)) a a b c.from_residual-in_err-shed.result
    c.in_err-shed.field-0.0 c.from_residual-in_err-shed.ensures.1 refl
    (c.in_err-shed.ensures.cause t (same.lost ∙ sound)
    (some_found _ c.in-Some.found _ c.in-Some.is (c.in_ok-found.ensures.found told sound)))

pub returns-clause-cause : goal.returns-clause-cause
returns-clause-cause g c t sound =
    let told = c.shed.ensures.told t in
    let same = c.find.ensures.same told in
    c.in_ok-shed.ensures.cause t (same.lost ∙ sound)
    (some_found _ c.in-Some.found _ c.in-Some.is (c.in_ok-found.ensures.found told sound))

pub returns-in_default-clause-whole : goal.returns-in_default-clause-whole
returns-in_default-clause-whole g c t sound = c.in_ok-found.ensures.whole t sound

pub returns-then-dry_run-clause-whole : goal.returns-then-dry_run-clause-whole
returns-then-dry_run-clause-whole g c t sound = c.in_ok-found.ensures.whole t sound

pub returns-clause-whole : goal.returns-clause-whole
returns-clause-whole g c t sound = c.in_ok-found.ensures.whole (c.shed.ensures.told t) sound
