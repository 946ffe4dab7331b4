use Rattle.std.proofs.Common.{List, ℕ, ◌∷◌, ap, subst, sym, ◌∙◌}
use Rattle.std.proofs.lemmas.Bool.{false≢true}
use Rattle.archive_text.specs.Periods.{IsIn}
use Rattle.archive_text.specs.declared.period.Period.TheVariants.{Day as day_Period}
use Rattle.archive_text.specs.Entries.{Entry}
use Rattle.archive_text.specs.EntryViews.{entry_of}
use Rattle.archive_pages.specs.Paged.{entries_from}
use Rattle.durable_store.proofs.Daily.{gains_none, share_grows_all, share_kept, share_of, share_skipped}
use Rattle.durable_store.proofs.Growth.{nothing_grows}
use Rattle.durable_store.proofs.Syncing.{syncs_none, syncs_none_all, syncs_one, syncs_one_all}
use Rattle.durable_store.proofs.segments.write_share.Goals as goal

pub write_day-requires : goal.write_day-requires
write_day-requires g c =
    subst (λ (d : List ℕ). IsIn day_Period d (entry_of c.args.first.now)) (sym c.deref-2.ensures.value) c.in_ok-day.ensures

pub returns-in_err-day-clause-gains : goal.returns-in_err-day-clause-gains
returns-in_err-day-clause-gains g c tells sound archive = gains_none (g.D.Disk.state c.args.disk.now) _ _

pub returns-then-not-is_share-clause-gains : goal.returns-then-not-is_share-clause-gains
returns-then-not-is_share-clause-gains g c tells sound archive = gains_none (g.D.Disk.state c.args.disk.now) _ _

pub returns-in_err-day-clause-grows : goal.returns-in_err-day-clause-grows
returns-in_err-day-clause-grows g c tells sound = nothing_grows c.args.total _ (g.D.Disk.state c.args.disk.now)

pub returns-then-not-is_share-clause-grows : goal.returns-then-not-is_share-clause-grows
returns-then-not-is_share-clause-grows g c tells sound = nothing_grows c.args.total _ (g.D.Disk.state c.args.disk.now)

pub returns-then-not-is_share-clause-wrote : goal.returns-then-not-is_share-clause-wrote
returns-then-not-is_share-clause-wrote g c =
    let first = entry_of c.args.first.now in
    let of = subst (λ (d : List ℕ). IsIn day_Period d first) (sym c.deref.ensures.value) c.in_ok-day.ensures in
    share_skipped (g.D.Disk.tells c.args.disk.now) c.args.total c.day_len-len.result.0 (g.D.Disk.state c.args.disk.now)
    c.deref.result.now first (entries_from c.args.set.now c.args.behind) (entries_from c.args.set.now c.day_len-len.result.1)
    c.ranges.total.fits of c.day_len-len.ensures (λ share. false≢true (sym c.if-not-is_share.true ∙ c.is_share.ensures.1 share))

pub returns-in_err-place-clause-grows : goal.returns-in_err-place-clause-grows
returns-in_err-place-clause-grows g c tells sound =
    share_grows_all c.args.total c.day_len-len.result.0 c.deref.result.now (entry_of c.args.first.now)
    (entries_from c.args.set.now c.args.behind) (entries_from c.args.set.now c.day_len-len.result.1)
    (g.D.Disk.state c.args.disk.now) (g.D.Disk.state c.write_day.new.disk) c.day_len-len.ensures
    (c.is_share.ensures.0 c.if-not-is_share.false)
    (c.write_day.ensures.segments tells sound)

pub returns-clause-grows : goal.returns-clause-grows
returns-clause-grows g c tells sound =
    share_grows_all c.args.total c.day_len-len.result.0 c.deref.result.now (entry_of c.args.first.now)
    (entries_from c.args.set.now c.args.behind) (entries_from c.args.set.now c.day_len-len.result.1)
    (g.D.Disk.state c.args.disk.now) (g.D.Disk.state c.write_day.new.disk) c.day_len-len.ensures
    (c.is_share.ensures.0 c.if-not-is_share.false)
    (c.write_day.ensures.segments tells sound)

pub returns-clause-wrote : goal.returns-clause-wrote
returns-clause-wrote g c =
    let first = entry_of c.args.first.now in
    let behind = entries_from c.args.set.now c.args.behind in
    let left = entries_from c.args.set.now c.in_ok-place.place in
    let of = subst (λ (d : List ℕ). IsIn day_Period d first) (sym c.deref.ensures.value) c.in_ok-day.ensures in
    let writes = c.in_ok-place.ensures.wrote in
    share_kept (g.D.Disk.tells c.write_day.new.disk) c.args.total (g.D.Disk.state c.args.disk.now)
    (g.D.Disk.state c.write_day.new.disk) (first ∷ behind) left writes
    (share_of c.args.total c.day_len-len.result.0 c.deref.result.now first behind
    (entries_from c.args.set.now c.day_len-len.result.1) writes.run left of c.day_len-len.ensures
    (c.is_share.ensures.0 c.if-not-is_share.false) writes.is)
    c.write_day.ensures.segments

pub returns-in_err-day-clause-syncs : goal.returns-in_err-day-clause-syncs
returns-in_err-day-clause-syncs g c = syncs_none_all c.args.total _ (g.D.Disk.syncs c.args.disk.now)

pub returns-then-not-is_share-clause-syncs : goal.returns-then-not-is_share-clause-syncs
returns-then-not-is_share-clause-syncs g c = syncs_none_all c.args.total _ (g.D.Disk.syncs c.args.disk.now)

pub returns-then-not-is_share-clause-along : goal.returns-then-not-is_share-clause-along
returns-then-not-is_share-clause-along g c =
    let first = entry_of c.args.first.now in
    let counts = c.day_len-len.ensures in
    syncs_none c.args.total (first ∷ entries_from c.args.set.now c.args.behind) (first ∷ counts.front)
    (entries_from c.args.set.now c.day_len-len.result.1) (g.D.Disk.syncs c.args.disk.now)
    (ap (λ (l : List Entry). first ∷ l) counts.parts)

pub returns-in_err-place-clause-syncs : goal.returns-in_err-place-clause-syncs
returns-in_err-place-clause-syncs g c =
    syncs_one_all c.args.total c.day_len-len.result.0 c.deref.result.now (entry_of c.args.first.now)
    (entries_from c.args.set.now c.args.behind) (entries_from c.args.set.now c.day_len-len.result.1)
    (g.D.Disk.syncs c.args.disk.now) (g.D.Disk.syncs c.write_day.new.disk) c.day_len-len.ensures
    (c.is_share.ensures.0 c.if-not-is_share.false) c.write_day.ensures.syncs

pub returns-clause-syncs : goal.returns-clause-syncs
returns-clause-syncs g c =
    syncs_one_all c.args.total c.day_len-len.result.0 c.deref.result.now (entry_of c.args.first.now)
    (entries_from c.args.set.now c.args.behind) (entries_from c.args.set.now c.day_len-len.result.1)
    (g.D.Disk.syncs c.args.disk.now) (g.D.Disk.syncs c.write_day.new.disk) c.day_len-len.ensures
    (c.is_share.ensures.0 c.if-not-is_share.false) c.write_day.ensures.syncs

pub returns-clause-along : goal.returns-clause-along
returns-clause-along g c =
    let first = entry_of c.args.first.now in
    let behind = entries_from c.args.set.now c.args.behind in
    let left = entries_from c.args.set.now c.in_ok-place.place in
    let of = subst (λ (d : List ℕ). IsIn day_Period d first) (sym c.deref.ensures.value) c.in_ok-day.ensures in
    let writes = c.in_ok-place.ensures.wrote in
    syncs_one c.args.total (first ∷ behind) writes.run left (g.D.Disk.syncs c.args.disk.now)
    (g.D.Disk.syncs c.write_day.new.disk) writes.is.parts
    (share_of c.args.total c.day_len-len.result.0 c.deref.result.now first behind
    (entries_from c.args.set.now c.day_len-len.result.1) writes.run left of c.day_len-len.ensures
    (c.is_share.ensures.0 c.if-not-is_share.false) writes.is)
    writes.is.some c.write_day.ensures.syncs
