use Rattle.std.proofs.Common.{inr, ◌∙◌}
use Rattle.store_upkeep.proofs.DaysKept.{aside_apart, aside_unless, few_four, placed_apart, placed_three}
use Rattle.store_upkeep.proofs.DaysKept.{removed_apart, removed_four, sound_three, then_apart, unchanged_apart}
use Rattle.store_upkeep.proofs.DaysKept.{whole_day}
use Rattle.store_upkeep.proofs.SameSets.{aside_set, then_set, unchanged_set}
use Rattle.store_upkeep.proofs.compaction.join_day.Goals as goal

pub returns-in_err-join_segments-clause-set : goal.returns-in_err-join_segments-clause-set
returns-in_err-join_segments-clause-set g c t sound names listed found =
    aside_set (g.D.Disk.state c.args.disk.now) (g.D.Disk.state c.join_segments.new.disk) c.in_ok-draft.draft
    (c.join_segments.ensures.others t) c.in_ok-draft.ensures.apart

pub returns-in_err-join_segments-clause-others : goal.returns-in_err-join_segments-clause-others
returns-in_err-join_segments-clause-others g c t names found =
    aside_apart (g.D.Disk.state c.args.disk.now) (g.D.Disk.state c.join_segments.new.disk) c.in_ok-draft.draft
    c.args.period.now (c.join_segments.ensures.others t) c.in_ok-draft.ensures.named

pub returns-in_err-joined-clause-set : goal.returns-in_err-joined-clause-set
returns-in_err-joined-clause-set g c t sound names listed found =
    let zero = g.D.Disk.state c.args.disk.now in
    let one = g.D.Disk.state c.join_segments.new.disk in
    let two = g.D.Disk.state c.name_of_draft.new.disk in
    then_set zero one two
    (aside_set zero one c.in_ok-draft.draft (c.join_segments.ensures.others (c.name_of_draft.ensures.told t))
    c.in_ok-draft.ensures.apart)
    (unchanged_set one two (c.name_of_draft.ensures.same t))

pub returns-in_err-joined-clause-others : goal.returns-in_err-joined-clause-others
returns-in_err-joined-clause-others g c t names found =
    let zero = g.D.Disk.state c.args.disk.now in
    let one = g.D.Disk.state c.join_segments.new.disk in
    let two = g.D.Disk.state c.name_of_draft.new.disk in
    let day = c.args.period.now in
    then_apart zero one two day
    (aside_apart zero one c.in_ok-draft.draft day
    (c.join_segments.ensures.others (c.name_of_draft.ensures.told t)) c.in_ok-draft.ensures.named)
    (unchanged_apart one two day (c.name_of_draft.ensures.same t))

pub returns-in-Err-clause-set : goal.returns-in-Err-clause-set
returns-in-Err-clause-set g c t sound names listed found =
    let zero = g.D.Disk.state c.args.disk.now in
    let one = g.D.Disk.state c.join_segments.new.disk in
    let two = g.D.Disk.state c.name_of_draft.new.disk in
    let three = g.D.Disk.state c.place.new.disk in
    let t_two = c.place.ensures.told t in
    let t_one = c.name_of_draft.ensures.told t_two in
    let j = c.in_ok-join_segments.ensures.joined t_one sound found.are in
    placed_three zero one two three c.in_ok-draft.draft c.in_ok-joined.joined c.args.period.now names
    c.args.segments.now j c.in_ok-draft.ensures.apart (c.join_segments.ensures.others t_one)
    (c.name_of_draft.ensures.same t_two) listed found c.in_ok-joined.ensures.segment
    (c.in_ok-joined.ensures.name t_two j.draft_is.sound) (c.place.ensures.set t)

pub returns-in-Err-clause-others : goal.returns-in-Err-clause-others
returns-in-Err-clause-others g c t names found =
    let zero = g.D.Disk.state c.args.disk.now in
    let one = g.D.Disk.state c.join_segments.new.disk in
    let two = g.D.Disk.state c.name_of_draft.new.disk in
    let three = g.D.Disk.state c.place.new.disk in
    let t_two = c.place.ensures.told t in
    let t_one = c.name_of_draft.ensures.told t_two in
    let day = c.args.period.now in
    then_apart zero two three day
    (then_apart zero one two day
    (aside_apart zero one c.in_ok-draft.draft day (c.join_segments.ensures.others t_one) c.in_ok-draft.ensures.named)
    (unchanged_apart one two day (c.name_of_draft.ensures.same t_two)))
    (placed_apart two three c.in_ok-draft.draft c.in_ok-joined.joined day (c.place.ensures.others t)
    c.in_ok-draft.ensures.named c.in_ok-joined.ensures.segment)

pub returns-in_err-remove_joined-clause-set : goal.returns-in_err-remove_joined-clause-set
returns-in_err-remove_joined-clause-set g c t sound names listed found =
    let zero = g.D.Disk.state c.args.disk.now in
    let one = g.D.Disk.state c.join_segments.new.disk in
    let two = g.D.Disk.state c.name_of_draft.new.disk in
    let three = g.D.Disk.state c.place.new.disk in
    let four = g.D.Disk.state c.remove_joined.new.disk in
    let t_three = c.remove_joined.ensures.told t in
    let t_two = c.place.ensures.told t_three in
    let t_one = c.name_of_draft.ensures.told t_two in
    let j = c.in_ok-join_segments.ensures.joined t_one sound found.are in
    removed_four zero one two three c.in_ok-draft.draft c.in_ok-joined.joined c.args.period.now names
    c.args.segments.now j c.in_ok-draft.ensures.apart (c.join_segments.ensures.others t_one)
    (c.name_of_draft.ensures.same t_two) listed found c.in_ok-joined.ensures.segment
    (c.in_ok-joined.ensures.name t_two j.draft_is.sound) (c.place.ensures.set t_three)
    (c.place.ensures.others t_three) (c.in_default.ensures.placed t_three) four (c.remove_joined.ensures.set t)

pub returns-in_err-remove_joined-clause-others : goal.returns-in_err-remove_joined-clause-others
returns-in_err-remove_joined-clause-others g c t names found =
    let zero = g.D.Disk.state c.args.disk.now in
    let one = g.D.Disk.state c.join_segments.new.disk in
    let two = g.D.Disk.state c.name_of_draft.new.disk in
    let three = g.D.Disk.state c.place.new.disk in
    let four = g.D.Disk.state c.remove_joined.new.disk in
    let t_three = c.remove_joined.ensures.told t in
    let t_two = c.place.ensures.told t_three in
    let t_one = c.name_of_draft.ensures.told t_two in
    let day = c.args.period.now in
    then_apart zero three four day
    (then_apart zero two three day
    (then_apart zero one two day
    (aside_apart zero one c.in_ok-draft.draft day (c.join_segments.ensures.others t_one) c.in_ok-draft.ensures.named)
    (unchanged_apart one two day (c.name_of_draft.ensures.same t_two)))
    (placed_apart two three c.in_ok-draft.draft c.in_ok-joined.joined day (c.place.ensures.others t_three)
    c.in_ok-draft.ensures.named c.in_ok-joined.ensures.segment))
    (removed_apart three four day names c.args.segments.now found (c.remove_joined.ensures.others t))

pub returns-clause-few : goal.returns-clause-few
returns-clause-few g c t sound names listed found most enough =
    let zero = g.D.Disk.state c.args.disk.now in
    let one = g.D.Disk.state c.join_segments.new.disk in
    let two = g.D.Disk.state c.name_of_draft.new.disk in
    let three = g.D.Disk.state c.place.new.disk in
    let four = g.D.Disk.state c.remove_joined.new.disk in
    let t_three = c.remove_joined.ensures.told t in
    let t_two = c.place.ensures.told t_three in
    let t_one = c.name_of_draft.ensures.told t_two in
    let j = c.in_ok-join_segments.ensures.joined t_one sound found.are in
    few_four zero one two three c.in_ok-draft.draft c.in_ok-joined.joined c.args.period.now names
    c.args.segments.now j c.in_ok-draft.ensures.apart (c.join_segments.ensures.others t_one)
    (c.name_of_draft.ensures.same t_two) listed found c.in_ok-joined.ensures.segment
    (c.in_ok-joined.ensures.name t_two j.draft_is.sound) (c.place.ensures.set t_three)
    (c.place.ensures.others t_three) (c.in_default.ensures.placed t_three) four (c.remove_joined.ensures.less t)
    (c.in_ok-remove_joined.ensures.gone t) most enough

pub returns-clause-sound : goal.returns-clause-sound
returns-clause-sound g c t sound names listed found =
    let zero = g.D.Disk.state c.args.disk.now in
    let one = g.D.Disk.state c.join_segments.new.disk in
    let two = g.D.Disk.state c.name_of_draft.new.disk in
    let three = g.D.Disk.state c.place.new.disk in
    let t_three = c.remove_joined.ensures.told t in
    let t_two = c.place.ensures.told t_three in
    let t_one = c.name_of_draft.ensures.told t_two in
    let j = c.in_ok-join_segments.ensures.joined t_one sound found.are in
    c.remove_joined.ensures.lost t
    ∙ sound_three zero one two three c.in_ok-draft.draft c.in_ok-joined.joined c.args.period.now names
    c.args.segments.now j c.in_ok-draft.ensures.apart (c.join_segments.ensures.others t_one)
    (c.name_of_draft.ensures.same t_two) listed found c.in_ok-joined.ensures.segment
    (c.in_ok-joined.ensures.name t_two j.draft_is.sound) (c.place.ensures.set t_three)
    (c.place.ensures.others t_three) (c.in_default.ensures.placed t_three)

pub returns-clause-set : goal.returns-clause-set
returns-clause-set g c t sound names listed found =
    let zero = g.D.Disk.state c.args.disk.now in
    let one = g.D.Disk.state c.join_segments.new.disk in
    let two = g.D.Disk.state c.name_of_draft.new.disk in
    let three = g.D.Disk.state c.place.new.disk in
    let four = g.D.Disk.state c.remove_joined.new.disk in
    let t_three = c.remove_joined.ensures.told t in
    let t_two = c.place.ensures.told t_three in
    let t_one = c.name_of_draft.ensures.told t_two in
    let j = c.in_ok-join_segments.ensures.joined t_one sound found.are in
    removed_four zero one two three c.in_ok-draft.draft c.in_ok-joined.joined c.args.period.now names
    c.args.segments.now j c.in_ok-draft.ensures.apart (c.join_segments.ensures.others t_one)
    (c.name_of_draft.ensures.same t_two) listed found c.in_ok-joined.ensures.segment
    (c.in_ok-joined.ensures.name t_two j.draft_is.sound) (c.place.ensures.set t_three)
    (c.place.ensures.others t_three) (c.in_default.ensures.placed t_three) four (c.remove_joined.ensures.set t)

pub returns-clause-others : goal.returns-clause-others
returns-clause-others g c t names found =
    let zero = g.D.Disk.state c.args.disk.now in
    let one = g.D.Disk.state c.join_segments.new.disk in
    let two = g.D.Disk.state c.name_of_draft.new.disk in
    let three = g.D.Disk.state c.place.new.disk in
    let four = g.D.Disk.state c.remove_joined.new.disk in
    let t_three = c.remove_joined.ensures.told t in
    let t_two = c.place.ensures.told t_three in
    let t_one = c.name_of_draft.ensures.told t_two in
    let day = c.args.period.now in
    then_apart zero three four day
    (then_apart zero two three day
    (then_apart zero one two day
    (aside_apart zero one c.in_ok-draft.draft day (c.join_segments.ensures.others t_one) c.in_ok-draft.ensures.named)
    (unchanged_apart one two day (c.name_of_draft.ensures.same t_two)))
    (placed_apart two three c.in_ok-draft.draft c.in_ok-joined.joined day (c.place.ensures.others t_three)
    c.in_ok-draft.ensures.named c.in_ok-joined.ensures.segment))
    (removed_apart three four day names c.args.segments.now found (c.remove_joined.ensures.others t))

pub returns-in_err-join_segments-clause-whole : goal.returns-in_err-join_segments-clause-whole
returns-in_err-join_segments-clause-whole g c t sound names listed found =
    aside_unless (g.D.Disk.state c.args.disk.now) (g.D.Disk.state c.join_segments.new.disk) c.in_ok-draft.draft
    c.args.period.now (c.join_segments.ensures.others t) c.in_ok-draft.ensures.named

pub returns-in_err-joined-clause-whole : goal.returns-in_err-joined-clause-whole
returns-in_err-joined-clause-whole g c t sound names listed found =
    let t_one = c.name_of_draft.ensures.told t in
    inr (whole_day (g.D.Disk.state c.args.disk.now) names c.args.segments.now c.args.period.now listed found
    (c.in_ok-join_segments.ensures.whole t_one sound found.are))

pub returns-in-Err-clause-whole : goal.returns-in-Err-clause-whole
returns-in-Err-clause-whole g c t sound names listed found =
    let t_one = c.name_of_draft.ensures.told (c.place.ensures.told t) in
    inr (whole_day (g.D.Disk.state c.args.disk.now) names c.args.segments.now c.args.period.now listed found
    (c.in_ok-join_segments.ensures.whole t_one sound found.are))

pub returns-in_err-remove_joined-clause-whole : goal.returns-in_err-remove_joined-clause-whole
returns-in_err-remove_joined-clause-whole g c t sound names listed found =
    let t_one = c.name_of_draft.ensures.told (c.place.ensures.told (c.remove_joined.ensures.told t)) in
    inr (whole_day (g.D.Disk.state c.args.disk.now) names c.args.segments.now c.args.period.now listed found
    (c.in_ok-join_segments.ensures.whole t_one sound found.are))

pub returns-clause-whole : goal.returns-clause-whole
returns-clause-whole g c t sound names listed found =
    let t_one = c.name_of_draft.ensures.told (c.place.ensures.told (c.remove_joined.ensures.told t)) in
    inr (whole_day (g.D.Disk.state c.args.disk.now) names c.args.segments.now c.args.period.now listed found
    (c.in_ok-join_segments.ensures.whole t_one sound found.are))
