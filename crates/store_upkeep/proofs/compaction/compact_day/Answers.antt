use Rattle.std.proofs.Common.{arith, List, ℕ, subst, sym, ◌∙◌}
use Rattle.store_upkeep.specs.Compaction.{AreDayNames}
use Rattle.store_upkeep.proofs.DaysKept.{few_listed, listed_day, then_apart, unchanged_apart, unchanged_then_unless}
use Rattle.store_upkeep.proofs.DaysKept.{unchanged_unless}
use Rattle.store_upkeep.proofs.SameSets.{then_set, unchanged_set}
use Rattle.store_upkeep.proofs.compaction.compact_day.Goals as goal

pub returns-in_err-join_day-clause-set : goal.returns-in_err-join_day-clause-set
returns-in_err-join_day-clause-set g c t sound =
    let zero = g.D.Disk.state c.args.disk.now in
    let one = g.D.Disk.state c.list.new.disk in
    let two = g.D.Disk.state c.join_day.new.disk in
    let names = c.in_ok-names.names in
    let before = c.join_day.ensures.told t in
    let same = c.list.ensures.same before in
    let listed = c.in_ok-names.ensures.names before sound in
    let found = subst (λ (l : List (List ℕ)). AreDayNames names c.args.period.now l) (sym c.deref.ensures.value)
    c.in_ok-segments.ensures in
    then_set zero one two (unchanged_set zero one same)
    (c.join_day.ensures.set t (same.lost ∙ sound) names listed found)

pub returns-clause-set : goal.returns-clause-set
returns-clause-set g c t sound =
    let zero = g.D.Disk.state c.args.disk.now in
    let one = g.D.Disk.state c.list.new.disk in
    let two = g.D.Disk.state c.join_day.new.disk in
    let names = c.in_ok-names.names in
    let before = c.join_day.ensures.told t in
    let same = c.list.ensures.same before in
    let listed = c.in_ok-names.ensures.names before sound in
    let found = subst (λ (l : List (List ℕ)). AreDayNames names c.args.period.now l) (sym c.deref.ensures.value)
    c.in_ok-segments.ensures in
    then_set zero one two (unchanged_set zero one same)
    (c.join_day.ensures.set t (same.lost ∙ sound) names listed found)

pub returns-clause-few : goal.returns-clause-few
returns-clause-few g c t sound enough =
    let zero = g.D.Disk.state c.args.disk.now in
    let one = g.D.Disk.state c.list.new.disk in
    let two = g.D.Disk.state c.join_day.new.disk in
    let names = c.in_ok-names.names in
    let before = c.join_day.ensures.told t in
    let same = c.list.ensures.same before in
    let listed = c.in_ok-names.ensures.names before sound in
    let found = subst (λ (l : List (List ℕ)). AreDayNames names c.args.period.now l) (sym c.deref.ensures.value)
    c.in_ok-segments.ensures in
    c.in_ok-join_day.ensures.few t (same.lost ∙ sound) names listed found c.args.most enough

pub returns-clause-sound : goal.returns-clause-sound
returns-clause-sound g c t sound =
    let zero = g.D.Disk.state c.args.disk.now in
    let one = g.D.Disk.state c.list.new.disk in
    let two = g.D.Disk.state c.join_day.new.disk in
    let names = c.in_ok-names.names in
    let before = c.join_day.ensures.told t in
    let same = c.list.ensures.same before in
    let listed = c.in_ok-names.ensures.names before sound in
    let found = subst (λ (l : List (List ℕ)). AreDayNames names c.args.period.now l) (sym c.deref.ensures.value)
    c.in_ok-segments.ensures in
    c.in_ok-join_day.ensures.sound t (same.lost ∙ sound) names listed found

pub returns-in_err-join_day-clause-others : goal.returns-in_err-join_day-clause-others
returns-in_err-join_day-clause-others g c t =
    let zero = g.D.Disk.state c.args.disk.now in
    let one = g.D.Disk.state c.list.new.disk in
    let two = g.D.Disk.state c.join_day.new.disk in
    let names = c.in_ok-names.names in
    let before = c.join_day.ensures.told t in
    let found = subst (λ (l : List (List ℕ)). AreDayNames names c.args.period.now l) (sym c.deref.ensures.value)
    c.in_ok-segments.ensures in
    then_apart zero one two c.args.period.now (unchanged_apart zero one c.args.period.now (c.list.ensures.same before))
    (c.join_day.ensures.others t names found)

pub returns-clause-others : goal.returns-clause-others
returns-clause-others g c t =
    let zero = g.D.Disk.state c.args.disk.now in
    let one = g.D.Disk.state c.list.new.disk in
    let two = g.D.Disk.state c.join_day.new.disk in
    let names = c.in_ok-names.names in
    let before = c.join_day.ensures.told t in
    let found = subst (λ (l : List (List ℕ)). AreDayNames names c.args.period.now l) (sym c.deref.ensures.value)
    c.in_ok-segments.ensures in
    then_apart zero one two c.args.period.now (unchanged_apart zero one c.args.period.now (c.list.ensures.same before))
    (c.join_day.ensures.others t names found)

pub returns-then-len-most-clause-few : goal.returns-then-len-most-clause-few
returns-then-len-most-clause-few g c t sound enough =
    let one = g.D.Disk.state c.list.new.disk in
    let names = c.in_ok-names.names in
    few_listed c.args.most one names c.in_ok-segments.segments.items c.args.period.now
    (listed_day one names c.args.period.now (c.in_ok-names.ensures.names t sound))
    c.in_ok-segments.ensures (omega arith)

pub returns-then-len-most-clause-set : goal.returns-then-len-most-clause-set
returns-then-len-most-clause-set g c t sound =
    unchanged_set (g.D.Disk.state c.args.disk.now) (g.D.Disk.state c.list.new.disk) (c.list.ensures.same t)

pub returns-in_err-names-clause-set : goal.returns-in_err-names-clause-set
returns-in_err-names-clause-set g c t sound =
    unchanged_set (g.D.Disk.state c.args.disk.now) (g.D.Disk.state c.list.new.disk) (c.list.ensures.same t)

pub returns-in_err-segments-clause-set : goal.returns-in_err-segments-clause-set
returns-in_err-segments-clause-set g c t sound =
    unchanged_set (g.D.Disk.state c.args.disk.now) (g.D.Disk.state c.list.new.disk) (c.list.ensures.same t)

pub returns-in_err-join_day-clause-whole : goal.returns-in_err-join_day-clause-whole
returns-in_err-join_day-clause-whole g c t sound =
    let zero = g.D.Disk.state c.args.disk.now in
    let one = g.D.Disk.state c.list.new.disk in
    let names = c.in_ok-names.names in
    let before = c.join_day.ensures.told t in
    let same = c.list.ensures.same before in
    let listed = c.in_ok-names.ensures.names before sound in
    let found = subst (λ (l : List (List ℕ)). AreDayNames names c.args.period.now l) (sym c.deref.ensures.value)
    c.in_ok-segments.ensures in
    unchanged_then_unless zero one (g.D.Disk.state c.join_day.new.disk) c.args.period.now same
    (c.join_day.ensures.whole t (same.lost ∙ sound) names listed found)

pub returns-clause-whole : goal.returns-clause-whole
returns-clause-whole g c t sound =
    let zero = g.D.Disk.state c.args.disk.now in
    let one = g.D.Disk.state c.list.new.disk in
    let names = c.in_ok-names.names in
    let before = c.join_day.ensures.told t in
    let same = c.list.ensures.same before in
    let listed = c.in_ok-names.ensures.names before sound in
    let found = subst (λ (l : List (List ℕ)). AreDayNames names c.args.period.now l) (sym c.deref.ensures.value)
    c.in_ok-segments.ensures in
    unchanged_then_unless zero one (g.D.Disk.state c.join_day.new.disk) c.args.period.now same
    (c.join_day.ensures.whole t (same.lost ∙ sound) names listed found)

pub returns-then-len-most-clause-whole : goal.returns-then-len-most-clause-whole
returns-then-len-most-clause-whole g c t sound =
    unchanged_unless (g.D.Disk.state c.args.disk.now) (g.D.Disk.state c.list.new.disk) c.args.period.now
    (c.list.ensures.same t)

pub returns-in_err-names-clause-whole : goal.returns-in_err-names-clause-whole
returns-in_err-names-clause-whole g c t sound =
    unchanged_unless (g.D.Disk.state c.args.disk.now) (g.D.Disk.state c.list.new.disk) c.args.period.now
    (c.list.ensures.same t)

pub returns-in_err-segments-clause-whole : goal.returns-in_err-segments-clause-whole
returns-in_err-segments-clause-whole g c t sound =
    unchanged_unless (g.D.Disk.state c.args.disk.now) (g.D.Disk.state c.list.new.disk) c.args.period.now
    (c.list.ensures.same t)
