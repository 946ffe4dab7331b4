use Rattle.std.proofs.Common.{◌∙◌}
use Rattle.store_upkeep.proofs.DaysKept.{then_damaged, then_files, unchanged_damaged, unchanged_files}
use Rattle.store_upkeep.proofs.SameSets.{then_set, unchanged_set}
use Rattle.store_upkeep.proofs.compaction.compact.Goals as goal

pub returns-in_err-names-clause-set : goal.returns-in_err-names-clause-set
returns-in_err-names-clause-set g c t sound =
    unchanged_set (g.D.Disk.state c.args.disk.now) (g.D.Disk.state c.list.new.disk) (c.list.ensures.same t)

pub returns-in_err-compact_days-clause-set : goal.returns-in_err-compact_days-clause-set
returns-in_err-compact_days-clause-set g c t sound =
    let zero = g.D.Disk.state c.args.disk.now in
    let one = g.D.Disk.state c.list.new.disk in
    let before = c.compact_days.ensures.told t in
    let same = c.list.ensures.same before in
    let listed = c.in_ok-names.ensures.names before sound in
    then_set zero one (g.D.Disk.state c.compact_days.new.disk) (unchanged_set zero one same)
    (c.compact_days.ensures.set t (same.lost ∙ sound) listed)

pub returns-clause-few : goal.returns-clause-few
returns-clause-few g c t sound =
    let one = g.D.Disk.state c.list.new.disk in
    let before = c.compact_days.ensures.told t in
    let same = c.list.ensures.same before in
    let listed = c.in_ok-names.ensures.names before sound in
    c.in_ok-compact_days.ensures.few t (same.lost ∙ sound) listed

pub returns-clause-set : goal.returns-clause-set
returns-clause-set g c t sound =
    let zero = g.D.Disk.state c.args.disk.now in
    let one = g.D.Disk.state c.list.new.disk in
    let before = c.compact_days.ensures.told t in
    let same = c.list.ensures.same before in
    let listed = c.in_ok-names.ensures.names before sound in
    then_set zero one (g.D.Disk.state c.compact_days.new.disk) (unchanged_set zero one same)
    (c.compact_days.ensures.set t (same.lost ∙ sound) listed)

pub returns-in_err-names-clause-others : goal.returns-in_err-names-clause-others
returns-in_err-names-clause-others g c t =
    unchanged_files (g.D.Disk.state c.args.disk.now) (g.D.Disk.state c.list.new.disk) (c.list.ensures.same t)

pub returns-in_err-names-clause-damaged : goal.returns-in_err-names-clause-damaged
returns-in_err-names-clause-damaged g c t sound =
    unchanged_damaged (g.D.Disk.state c.args.disk.now) (g.D.Disk.state c.list.new.disk) (c.list.ensures.same t)

pub returns-in_err-compact_days-clause-others : goal.returns-in_err-compact_days-clause-others
returns-in_err-compact_days-clause-others g c t =
    let zero = g.D.Disk.state c.args.disk.now in
    let one = g.D.Disk.state c.list.new.disk in
    then_files zero one (g.D.Disk.state c.compact_days.new.disk)
    (unchanged_files zero one (c.list.ensures.same (c.compact_days.ensures.told t))) (c.compact_days.ensures.others t)

pub returns-in_err-compact_days-clause-damaged : goal.returns-in_err-compact_days-clause-damaged
returns-in_err-compact_days-clause-damaged g c t sound =
    let zero = g.D.Disk.state c.args.disk.now in
    let one = g.D.Disk.state c.list.new.disk in
    let before = c.compact_days.ensures.told t in
    let same = c.list.ensures.same before in
    let listed = c.in_ok-names.ensures.names before sound in
    then_damaged zero one (g.D.Disk.state c.compact_days.new.disk) (unchanged_damaged zero one same)
    (c.compact_days.ensures.damaged t (same.lost ∙ sound) listed)

pub returns-clause-others : goal.returns-clause-others
returns-clause-others g c t =
    let zero = g.D.Disk.state c.args.disk.now in
    let one = g.D.Disk.state c.list.new.disk in
    then_files zero one (g.D.Disk.state c.compact_days.new.disk)
    (unchanged_files zero one (c.list.ensures.same (c.compact_days.ensures.told t))) (c.compact_days.ensures.others t)

pub returns-clause-damaged : goal.returns-clause-damaged
returns-clause-damaged g c t sound =
    let zero = g.D.Disk.state c.args.disk.now in
    let one = g.D.Disk.state c.list.new.disk in
    let before = c.compact_days.ensures.told t in
    let same = c.list.ensures.same before in
    let listed = c.in_ok-names.ensures.names before sound in
    then_damaged zero one (g.D.Disk.state c.compact_days.new.disk) (unchanged_damaged zero one same)
    (c.compact_days.ensures.damaged t (same.lost ∙ sound) listed)
