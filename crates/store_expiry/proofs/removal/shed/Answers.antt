use Rattle.std.proofs.Common.{refl, ◌∙◌}
use Rattle.std.proofs.lemmas.Result.{err_from_is_err_and}
use Rattle.store_expiry.proofs.Shedding.{then_sheds}
use Rattle.store_expiry.proofs.Telling.{as_part, err_lines, found_fails, found_tells, writes_no_part}
use Rattle.store_expiry.specs.declared.fault.ExpireFault.TheVariants.{Store}
use Rattle.store_upkeep.specs.Compaction.{shown}
use Rattle.store_expiry.proofs.Causing.{cause_on}
use Rattle.store_expiry.proofs.removal.shed.Goals as goal

pub returns-in_err-keep_left-clause-lines : goal.returns-in_err-keep_left-clause-lines
returns-in_err-keep_left-clause-lines g c t sound f =
    let zero = g.D.Disk.state c.args.disk.now in
    let one = g.D.Disk.state c.keep_left.new.disk in
    let taken = (g.W.Output.state c.args.output.now).taken in
    err_lines c.args.expired.now zero one taken taken _ c.from_residual.result _
    (err_from_is_err_and c.from_residual.result c.from_residual.ensures.1).1
    (writes_no_part c.args.expired.now zero one taken _ (c.keep_left.ensures.stay t sound f))

pub returns-in_err-tell-clause-lines : goal.returns-in_err-tell-clause-lines
returns-in_err-tell-clause-lines g c t sound f =
    let zero = g.D.Disk.state c.args.disk.now in
    let one = g.D.Disk.state c.keep_left.new.disk in
    let before = (g.W.Output.state c.args.output.now).taken in
    let after = (g.W.Output.state c.tell.new.output).taken in
    err_lines c.args.expired.now zero one before after _ c.from_residual-in_err-tell.result _
    (err_from_is_err_and c.from_residual-in_err-tell.result c.from_residual-in_err-tell.ensures.1).1
    (found_fails c.args.expired.now zero one c.args.name.now c.args.found.now f (c.keep_left.ensures.stay t sound f)
    before after _ c.in_err-tell.ensures.tells)

pub returns-in_err-remove-clause-sheds : goal.returns-in_err-remove-clause-sheds
returns-in_err-remove-clause-sheds g c t sound f =
    let told = c.remove.ensures.told t in
    then_sheds c.args.expired.now (g.D.Disk.state c.args.disk.now) (g.D.Disk.state c.keep_left.new.disk)
    (g.D.Disk.state c.remove.new.disk) (c.keep_left.ensures.sheds told sound f)
    (c.remove.ensures.sheds t c.args.expired.now (c.in_ok-keep_left.ensures.spared told sound f))

pub returns-in_err-remove-clause-lines : goal.returns-in_err-remove-clause-lines
returns-in_err-remove-clause-lines g c t sound f =
    let told = c.remove.ensures.told t in
    let zero = g.D.Disk.state c.args.disk.now in
    let one = g.D.Disk.state c.keep_left.new.disk in
    let two = g.D.Disk.state c.remove.new.disk in
    let before = (g.W.Output.state c.args.output.now).taken in
    let after = (g.W.Output.state c.tell.new.output).taken in
    err_lines c.args.expired.now zero two before after _ c.from_residual-in_err-remove.result _
    (err_from_is_err_and c.from_residual-in_err-remove.result c.from_residual-in_err-remove.ensures.1).1
    (as_part c.args.expired.now zero two before after _
    (found_tells c.args.expired.now zero one c.args.name.now c.args.found.now f (c.keep_left.ensures.stay told sound f)
    before after two c.in_ok-tell.ensures.tells (c.remove.ensures.others t)))

pub returns-clause-sound : goal.returns-clause-sound
returns-clause-sound g c t sound f =
    c.remove.ensures.lost t ∙ c.in_ok-keep_left.ensures.sound (c.remove.ensures.told t) sound f

pub returns-clause-sheds : goal.returns-clause-sheds
returns-clause-sheds g c t sound f =
    let told = c.remove.ensures.told t in
    then_sheds c.args.expired.now (g.D.Disk.state c.args.disk.now) (g.D.Disk.state c.keep_left.new.disk)
    (g.D.Disk.state c.remove.new.disk) (c.keep_left.ensures.sheds told sound f)
    (c.remove.ensures.sheds t c.args.expired.now (c.in_ok-keep_left.ensures.spared told sound f))

pub returns-clause-lines : goal.returns-clause-lines
returns-clause-lines g c t sound f =
    let told = c.remove.ensures.told t in
    found_tells c.args.expired.now (g.D.Disk.state c.args.disk.now) (g.D.Disk.state c.keep_left.new.disk)
    c.args.name.now c.args.found.now f (c.keep_left.ensures.stay told sound f)
    (g.W.Output.state c.args.output.now).taken (g.W.Output.state c.tell.new.output).taken
    (g.D.Disk.state c.remove.new.disk) c.in_ok-tell.ensures.tells (c.remove.ensures.others t)

pub returns-in_err-keep_left-clause-cause : goal.returns-in_err-keep_left-clause-cause
returns-in_err-keep_left-clause-cause g c t sound f =
    let n = (g.W.Output.state c.args.output.now).failures in
    cause_on c.args.expired.now (shown (g.D.Disk.state c.keep_left.new.disk)) n n n c.from_residual.result
    c.in_err-keep_left.field-0.0 c.from_residual.ensures.1 refl (c.in_err-keep_left.ensures.cause t sound f n)

pub returns-in_err-tell-clause-cause : goal.returns-in_err-tell-clause-cause
returns-in_err-tell-clause-cause g c t sound f =
    let a = (g.W.Output.state c.args.output.now).failures in
    let b = (g.W.Output.state c.tell.new.output).failures in
    let files = shown (g.D.Disk.state c.keep_left.new.disk) in
    cause_on c.args.expired.now files a a b c.from_residual-in_err-tell.result c.in_err-tell.field-0.0
    c.from_residual-in_err-tell.ensures.1 refl (c.in_err-tell.ensures.cause c.args.expired.now files)

pub returns-in_err-remove-clause-cause : goal.returns-in_err-remove-clause-cause
returns-in_err-remove-clause-cause g c t sound f =
    let a = (g.W.Output.state c.args.output.now).failures in
    let b = (g.W.Output.state c.tell.new.output).failures in
    let files = shown (g.D.Disk.state c.remove.new.disk) in
    cause_on c.args.expired.now files a a b c.from_residual-in_err-remove.result (Store c.in_err-remove.field-0.0)
    c.from_residual-in_err-remove.ensures.1 refl (c.in_ok-tell.ensures.cause c.args.expired.now files)

pub returns-clause-cause : goal.returns-clause-cause
returns-clause-cause g c t sound f =
    c.in_ok-tell.ensures.cause c.args.expired.now (shown (g.D.Disk.state c.remove.new.disk))
