use Rattle.std.proofs.Common.{arith, rules, subst, sym}
use Rattle.record_store.specs.Names.{IsSegment}
use Rattle.store_upkeep.specs.declared.compaction.TheConstants.{SEGMENTS_MAX}
use Rattle.store_upkeep.proofs.DaysKept.{day_damaged, day_files, few_last, few_named, few_or_listed, few_still}
use Rattle.store_upkeep.proofs.DaysKept.{goes_on, on_with}
use Rattle.store_upkeep.proofs.compaction.compact_day_of.Goals as goal

pub returns-in_default-clause-few : goal.returns-in_default-clause-few
returns-in_default-clause-few g c t on day text segment =
    absurd (cc (c.in_default.ensures.only day text (subst (IsSegment day) (sym c.as_octets.ensures.value) segment)))

pub returns-then-is_last-clause-few : goal.returns-then-is_last-clause-few
returns-then-is_last-clause-few g c t on other text named =
    let zero = g.D.Disk.state c.args.disk.now in
    let day = c.in-Some.period in
    let segment = subst (IsSegment c.in-Some.period) c.as_octets.ensures.value c.in-Some.ensures.some.1 in
    few_named SEGMENTS_MAX zero day other c.args.name.now
    (few_last SEGMENTS_MAX zero c.args.names.now c.args.last day on (c.is_last.ensures (search rules))) segment named

pub returns-then-len-le-SEGMENTS_MAX-clause-goes_on : goal.returns-then-len-le-SEGMENTS_MAX-clause-goes_on
returns-then-len-le-SEGMENTS_MAX-clause-goes_on g c t on =
    let zero = g.D.Disk.state c.args.disk.now in
    let day = c.in-Some.period in
    let few = few_or_listed SEGMENTS_MAX zero c.args.names.now c.in_ok-listed.listed.items day (on.days day)
    c.in_ok-listed.ensures (omega arith) in
    on_with SEGMENTS_MAX zero c.args.names.now c.args.last day on few

pub returns-then-len-le-SEGMENTS_MAX-clause-few : goal.returns-then-len-le-SEGMENTS_MAX-clause-few
returns-then-len-le-SEGMENTS_MAX-clause-few g c t on other text named =
    let zero = g.D.Disk.state c.args.disk.now in
    let day = c.in-Some.period in
    let segment = subst (IsSegment c.in-Some.period) c.as_octets.ensures.value c.in-Some.ensures.some.1 in
    let few = few_or_listed SEGMENTS_MAX zero c.args.names.now c.in_ok-listed.listed.items day (on.days day)
    c.in_ok-listed.ensures (omega arith) in
    few_named SEGMENTS_MAX zero day other c.args.name.now few segment named

pub returns-clause-goes_on : goal.returns-clause-goes_on
returns-clause-goes_on g c t on =
    goes_on SEGMENTS_MAX (g.D.Disk.state c.args.disk.now) (g.D.Disk.state c.compact_day.new.disk) c.in-Some.period
    (c.in_ok-compact_day.ensures.few t on.sound (omega arith)) (c.compact_day.ensures.others t) c.args.names.now c.args.last on
    (c.in_ok-compact_day.ensures.sound t on.sound)

pub returns-clause-few : goal.returns-clause-few
returns-clause-few g c t on other text named =
    let segment = subst (IsSegment c.in-Some.period) c.as_octets.ensures.value c.in-Some.ensures.some.1 in
    few_named SEGMENTS_MAX (g.D.Disk.state c.compact_day.new.disk) c.in-Some.period other c.args.name.now
    (c.in_ok-compact_day.ensures.few t on.sound (omega arith)) segment named

pub returns-clause-still : goal.returns-clause-still
returns-clause-still g c t on other h =
    few_still SEGMENTS_MAX (g.D.Disk.state c.args.disk.now) (g.D.Disk.state c.compact_day.new.disk) c.in-Some.period
    (c.in_ok-compact_day.ensures.few t on.sound (omega arith)) (c.compact_day.ensures.others t) other h

pub returns-in_err-compact_day-clause-others : goal.returns-in_err-compact_day-clause-others
returns-in_err-compact_day-clause-others g c t =
    day_files (g.D.Disk.state c.args.disk.now) (g.D.Disk.state c.compact_day.new.disk) c.in-Some.period
    c.in-Some.ensures.some.0 (c.compact_day.ensures.others t)

pub returns-in_err-compact_day-clause-damaged : goal.returns-in_err-compact_day-clause-damaged
returns-in_err-compact_day-clause-damaged g c t sound =
    day_damaged (g.D.Disk.state c.args.disk.now) (g.D.Disk.state c.compact_day.new.disk) c.in-Some.period
    (c.compact_day.ensures.others t) (c.compact_day.ensures.whole t sound)

pub returns-clause-others : goal.returns-clause-others
returns-clause-others g c t =
    day_files (g.D.Disk.state c.args.disk.now) (g.D.Disk.state c.compact_day.new.disk) c.in-Some.period
    c.in-Some.ensures.some.0 (c.compact_day.ensures.others t)

pub returns-clause-damaged : goal.returns-clause-damaged
returns-clause-damaged g c t sound =
    day_damaged (g.D.Disk.state c.args.disk.now) (g.D.Disk.state c.compact_day.new.disk) c.in-Some.period
    (c.compact_day.ensures.others t) (c.compact_day.ensures.whole t sound)
