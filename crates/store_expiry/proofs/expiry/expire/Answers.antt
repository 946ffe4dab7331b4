use Rattle.std.proofs.Common.{◌∙◌, subst, sym, refl}
use Rattle.std.proofs.lemmas.Result.{err_from_is_err_and}
use Rattle.record_store.proofs.Compared.{same_then}
use Rattle.store_upkeep.specs.Compaction.{shown}
use Rattle.store_expiry.specs.Lines.{AreApart}
use Rattle.store_expiry.specs.declared.fault.ExpireFault.TheVariants.{Store}
use Rattle.store_expiry.proofs.Causing.{cause_on}
use Rattle.store_expiry.proofs.Clearing.{all_clear, all_told, all_whole, clear_settled, gone_in_the_end, listed_in_turn}
use Rattle.store_expiry.proofs.Clearing.{told_in_part}
use Rattle.store_expiry.proofs.Shedding.{settled_same, settled_sheds, then_sheds, unchanged_sheds, unchanged_stays}
use Rattle.store_expiry.proofs.Telling.{all_on, as_part, err_lines, part_after, writes_no_part}
use Rattle.store_expiry.proofs.expiry.expire.Goals as goal

pub returns-in_err-names-clause-sheds : goal.returns-in_err-names-clause-sheds
returns-in_err-names-clause-sheds g c t sound =
    unchanged_sheds c.args.expired (g.D.Disk.state c.args.disk.now) (g.D.Disk.state c.list.new.disk)
    (c.list.ensures.same t)

pub returns-in_err-names-clause-lines : goal.returns-in_err-names-clause-lines
returns-in_err-names-clause-lines g c t sound =
    let x = c.args.expired in
    let zero = g.D.Disk.state c.args.disk.now in
    let one = g.D.Disk.state c.list.new.disk in
    let taken = (g.W.Output.state c.args.output.now).taken in
    err_lines x zero one taken taken _ c.from_residual.result _
    (err_from_is_err_and c.from_residual.result c.from_residual.ensures.1).1
    (writes_no_part x zero one taken _ (unchanged_stays x zero one (c.list.ensures.same t)))

pub returns-in_err-names-clause-cause : goal.returns-in_err-names-clause-cause
returns-in_err-names-clause-cause g c t sound =
    let n = (g.W.Output.state c.args.output.now).failures in
    cause_on c.args.expired (shown (g.D.Disk.state c.list.new.disk)) n n n c.from_residual.result
    (Store c.in_err-names.field-0.0) c.from_residual.ensures.1 refl refl

pub returns-in_err-turns-clause-sheds : goal.returns-in_err-turns-clause-sheds
returns-in_err-turns-clause-sheds g c t sound =
    unchanged_sheds c.args.expired (g.D.Disk.state c.args.disk.now) (g.D.Disk.state c.list.new.disk)
    (c.list.ensures.same t)

pub returns-in_err-turns-clause-lines : goal.returns-in_err-turns-clause-lines
returns-in_err-turns-clause-lines g c t sound =
    let x = c.args.expired in
    let zero = g.D.Disk.state c.args.disk.now in
    let one = g.D.Disk.state c.list.new.disk in
    let taken = (g.W.Output.state c.args.output.now).taken in
    err_lines x zero one taken taken _ c.from_residual-in_err-turns.result _
    (err_from_is_err_and c.from_residual-in_err-turns.result c.from_residual-in_err-turns.ensures.1).1
    (writes_no_part x zero one taken _ (unchanged_stays x zero one (c.list.ensures.same t)))

pub returns-in_err-removed-clause-sheds : goal.returns-in_err-removed-clause-sheds
returns-in_err-removed-clause-sheds g c t sound =
    let x = c.args.expired in
    let zero = g.D.Disk.state c.args.disk.now in
    let one = g.D.Disk.state c.list.new.disk in
    let same = c.list.ensures.same (c.expire_each.ensures.told t) in
    then_sheds x zero one (g.D.Disk.state c.expire_each.new.disk) (unchanged_sheds x zero one same)
    (c.expire_each.ensures.sheds t (same.lost ∙ sound))

pub returns-in_err-removed-clause-lines : goal.returns-in_err-removed-clause-lines
returns-in_err-removed-clause-lines g c t sound =
    let x = c.args.expired in
    let zero = g.D.Disk.state c.args.disk.now in
    let one = g.D.Disk.state c.list.new.disk in
    let two = g.D.Disk.state c.expire_each.new.disk in
    let before = (g.W.Output.state c.args.output.now).taken in
    let after = (g.W.Output.state c.expire_each.new.output).taken in
    let same = c.list.ensures.same (c.expire_each.ensures.told t) in
    let apart = subst AreApart (sym c.deref.ensures.value) c.in_ok-turns.ensures.apart in
    err_lines x zero two before after _ c.from_residual-in_err-removed.result _
    (err_from_is_err_and c.from_residual-in_err-removed.result c.from_residual-in_err-removed.ensures.1).1
    (part_after x zero one (unchanged_sheds x zero one same) (unchanged_stays x zero one same) two before after _
    (told_in_part x one two before after _ (c.in_err-removed.ensures.lines t (same.lost ∙ sound) apart)))

pub returns-in_err-removed-clause-dry : goal.returns-in_err-removed-clause-dry
returns-in_err-removed-clause-dry g c t dry =
    same_then (g.D.Disk.state c.args.disk.now) (g.D.Disk.state c.list.new.disk)
    (g.D.Disk.state c.expire_each.new.disk) (c.list.ensures.same (c.expire_each.ensures.told t))
    (c.expire_each.ensures.dry t dry)

pub returns-in_err-removed-clause-cause : goal.returns-in_err-removed-clause-cause
returns-in_err-removed-clause-cause g c t sound =
    let a = (g.W.Output.state c.args.output.now).failures in
    let same = c.list.ensures.same (c.expire_each.ensures.told t) in
    cause_on c.args.expired (shown (g.D.Disk.state c.expire_each.new.disk)) a a
    (g.W.Output.state c.expire_each.new.output).failures c.from_residual-in_err-removed.result
    c.in_err-removed.field-0.0 c.from_residual-in_err-removed.ensures.1 refl
    (c.in_err-removed.ensures.cause t (same.lost ∙ sound))

pub returns-in_err-settle_removals-clause-sheds : goal.returns-in_err-settle_removals-clause-sheds
returns-in_err-settle_removals-clause-sheds g c t sound =
    let x = c.args.expired in
    let zero = g.D.Disk.state c.args.disk.now in
    let one = g.D.Disk.state c.list.new.disk in
    let two = g.D.Disk.state c.expire_each.new.disk in
    let three = g.D.Disk.state c.settle_removals.new.disk in
    let t_two = c.settle_removals.ensures.told t in
    let t_one = c.expire_each.ensures.told t_two in
    let same = c.list.ensures.same t_one in
    then_sheds x zero two three
    (then_sheds x zero one two (unchanged_sheds x zero one same) (c.expire_each.ensures.sheds t_two (same.lost ∙ sound)))
    (settled_sheds x two three (c.settle_removals.ensures.settles t))

pub returns-in_err-settle_removals-clause-lines : goal.returns-in_err-settle_removals-clause-lines
returns-in_err-settle_removals-clause-lines g c t sound =
    let x = c.args.expired in
    let zero = g.D.Disk.state c.args.disk.now in
    let one = g.D.Disk.state c.list.new.disk in
    let two = g.D.Disk.state c.expire_each.new.disk in
    let three = g.D.Disk.state c.settle_removals.new.disk in
    let t_two = c.settle_removals.ensures.told t in
    let t_one = c.expire_each.ensures.told t_two in
    let same = c.list.ensures.same t_one in
    let before = (g.W.Output.state c.args.output.now).taken in
    let after = (g.W.Output.state c.expire_each.new.output).taken in
    let apart = subst AreApart (sym c.deref.ensures.value) c.in_ok-turns.ensures.apart in
    err_lines x zero three before after _ c.from_residual-in_err-settle_removals.result _
    (err_from_is_err_and c.from_residual-in_err-settle_removals.result c.from_residual-in_err-settle_removals.ensures.1).1
    (as_part x zero three before after _
    (all_on x zero two three before after
    (settled_same x two three (c.settle_removals.ensures.settles t)) _
    (all_told x zero one two same c.deref.result.now before after
    (listed_in_turn one _ _ _ _ c.as_slice.ensures.names c.deref.ensures.value c.in_ok-turns.ensures.all
    (c.in_ok-names.ensures.names t_one sound))
    (c.in_ok-removed.ensures.lines t_two (same.lost ∙ sound) apart))))

pub returns-in_err-settle_removals-clause-dry : goal.returns-in_err-settle_removals-clause-dry
returns-in_err-settle_removals-clause-dry g c t dry =
    let x = c.args.expired in
    let zero = g.D.Disk.state c.args.disk.now in
    let one = g.D.Disk.state c.list.new.disk in
    let two = g.D.Disk.state c.expire_each.new.disk in
    let three = g.D.Disk.state c.settle_removals.new.disk in
    let t_two = c.settle_removals.ensures.told t in
    let t_one = c.expire_each.ensures.told t_two in
    let same = c.list.ensures.same t_one in
    same_then zero two three (same_then zero one two same (c.expire_each.ensures.dry t_two dry))
    (c.settle_removals.ensures.same t (c.in_ok-removed.ensures.idle dry))

pub returns-in_err-settle_removals-clause-cause : goal.returns-in_err-settle_removals-clause-cause
returns-in_err-settle_removals-clause-cause g c t sound =
    let x = c.args.expired in
    let zero = g.D.Disk.state c.args.disk.now in
    let one = g.D.Disk.state c.list.new.disk in
    let two = g.D.Disk.state c.expire_each.new.disk in
    let three = g.D.Disk.state c.settle_removals.new.disk in
    let t_two = c.settle_removals.ensures.told t in
    let t_one = c.expire_each.ensures.told t_two in
    let same = c.list.ensures.same t_one in
    let a = (g.W.Output.state c.args.output.now).failures in
    cause_on x (shown three) a a (g.W.Output.state c.expire_each.new.output).failures
    c.from_residual-in_err-settle_removals.result (Store c.in_err-settle_removals.field-0.0)
    c.from_residual-in_err-settle_removals.ensures.1 refl (c.in_ok-removed.ensures.cause t_two (same.lost ∙ sound))

pub returns-clause-sheds : goal.returns-clause-sheds
returns-clause-sheds g c t sound =
    let x = c.args.expired in
    let zero = g.D.Disk.state c.args.disk.now in
    let one = g.D.Disk.state c.list.new.disk in
    let two = g.D.Disk.state c.expire_each.new.disk in
    let three = g.D.Disk.state c.settle_removals.new.disk in
    let t_two = c.settle_removals.ensures.told t in
    let t_one = c.expire_each.ensures.told t_two in
    let same = c.list.ensures.same t_one in
    then_sheds x zero two three
    (then_sheds x zero one two (unchanged_sheds x zero one same) (c.expire_each.ensures.sheds t_two (same.lost ∙ sound)))
    (settled_sheds x two three (c.settle_removals.ensures.settles t))

pub returns-clause-lines : goal.returns-clause-lines
returns-clause-lines g c t sound =
    let x = c.args.expired in
    let zero = g.D.Disk.state c.args.disk.now in
    let one = g.D.Disk.state c.list.new.disk in
    let two = g.D.Disk.state c.expire_each.new.disk in
    let three = g.D.Disk.state c.settle_removals.new.disk in
    let t_two = c.settle_removals.ensures.told t in
    let t_one = c.expire_each.ensures.told t_two in
    let same = c.list.ensures.same t_one in
    let before = (g.W.Output.state c.args.output.now).taken in
    let after = (g.W.Output.state c.expire_each.new.output).taken in
    let apart = subst AreApart (sym c.deref.ensures.value) c.in_ok-turns.ensures.apart in
    all_on x zero two three before after
    (settled_same x two three (c.settle_removals.ensures.settles t)) _
    (all_told x zero one two same c.deref.result.now before after
    (listed_in_turn one _ _ _ _ c.as_slice.ensures.names c.deref.ensures.value c.in_ok-turns.ensures.all
    (c.in_ok-names.ensures.names t_one sound))
    (c.in_ok-removed.ensures.lines t_two (same.lost ∙ sound) apart))

pub returns-clause-dry : goal.returns-clause-dry
returns-clause-dry g c t dry =
    let x = c.args.expired in
    let zero = g.D.Disk.state c.args.disk.now in
    let one = g.D.Disk.state c.list.new.disk in
    let two = g.D.Disk.state c.expire_each.new.disk in
    let three = g.D.Disk.state c.settle_removals.new.disk in
    let t_two = c.settle_removals.ensures.told t in
    let t_one = c.expire_each.ensures.told t_two in
    let same = c.list.ensures.same t_one in
    same_then zero two three (same_then zero one two same (c.expire_each.ensures.dry t_two dry))
    (c.settle_removals.ensures.same t (c.in_ok-removed.ensures.idle dry))

pub returns-clause-cause : goal.returns-clause-cause
returns-clause-cause g c t sound =
    let x = c.args.expired in
    let zero = g.D.Disk.state c.args.disk.now in
    let one = g.D.Disk.state c.list.new.disk in
    let two = g.D.Disk.state c.expire_each.new.disk in
    let three = g.D.Disk.state c.settle_removals.new.disk in
    let t_two = c.settle_removals.ensures.told t in
    let t_one = c.expire_each.ensures.told t_two in
    let same = c.list.ensures.same t_one in
    c.in_ok-removed.ensures.cause t_two (same.lost ∙ sound)

pub returns-clause-clear : goal.returns-clause-clear
returns-clause-clear g c t sound wet =
    let x = c.args.expired in
    let zero = g.D.Disk.state c.args.disk.now in
    let one = g.D.Disk.state c.list.new.disk in
    let two = g.D.Disk.state c.expire_each.new.disk in
    let three = g.D.Disk.state c.settle_removals.new.disk in
    let t_two = c.settle_removals.ensures.told t in
    let t_one = c.expire_each.ensures.told t_two in
    let same = c.list.ensures.same t_one in
    let now = same.lost ∙ sound in
    clear_settled x two three (c.settle_removals.ensures.settles t)
    (all_clear x one two c.deref.result.now
    (listed_in_turn one _ _ _ _ c.as_slice.ensures.names c.deref.ensures.value c.in_ok-turns.ensures.all
    (c.in_ok-names.ensures.names t_one sound))
    (c.expire_each.ensures.sheds t_two now) (c.in_ok-removed.ensures.clear t_two now wet))

pub returns-clause-whole : goal.returns-clause-whole
returns-clause-whole g c t sound =
    let x = c.args.expired in
    let zero = g.D.Disk.state c.args.disk.now in
    let one = g.D.Disk.state c.list.new.disk in
    let two = g.D.Disk.state c.expire_each.new.disk in
    let three = g.D.Disk.state c.settle_removals.new.disk in
    let t_two = c.settle_removals.ensures.told t in
    let t_one = c.expire_each.ensures.told t_two in
    let same = c.list.ensures.same t_one in
    all_whole x zero one c.deref.result.now same
    (listed_in_turn one _ _ _ _ c.as_slice.ensures.names c.deref.ensures.value c.in_ok-turns.ensures.all
    (c.in_ok-names.ensures.names t_one sound))
    (c.in_ok-removed.ensures.whole t_two (same.lost ∙ sound))

pub returns-clause-gone : goal.returns-clause-gone
returns-clause-gone g c t sound =
    let x = c.args.expired in
    let zero = g.D.Disk.state c.args.disk.now in
    let one = g.D.Disk.state c.list.new.disk in
    let two = g.D.Disk.state c.expire_each.new.disk in
    let three = g.D.Disk.state c.settle_removals.new.disk in
    let t_two = c.settle_removals.ensures.told t in
    let t_one = c.expire_each.ensures.told t_two in
    let same = c.list.ensures.same t_one in
    gone_in_the_end zero one two three c.in_ok-removed.removed same (c.in_ok-removed.ensures.removed t_two)
    (c.settle_removals.ensures.same t)
    (c.in_ok-settle_removals.ensures.gone t (c.in_ok-removed.ensures.sound t_two (same.lost ∙ sound)))
