use Rattle.std.proofs.Common.{List, ℕ, subst, sym}
use Rattle.archive_text.specs.Periods.{IsIn}
use Rattle.archive_text.specs.declared.period.Period.TheVariants.{Day as day_Period}
use Rattle.archive_text.specs.EntryViews.{entry_of}
use Rattle.archive_pages.specs.Paged.{entries_from}
use Rattle.durable_store.proofs.Daily.{day_mixed, ok_weaker, share_left_out}
use Rattle.durable_store.proofs.mixed.mix_day.Goals as goal

pub returns-then-is_share-clause-put : goal.returns-then-is_share-clause-put
returns-then-is_share-clause-put g c =
    let first = entry_of c.args.first.now in
    let of = subst (λ (d : List ℕ). IsIn day_Period d first) (sym c.deref.ensures.value) c.in_ok-day.ensures in
    share_left_out (g.D.Disk.tells c.args.disk.now) c.args.total c.day_len-len.result.0 c.args.draft.now
    (g.D.Disk.state c.args.disk.now) c.args.buffer.now.items c.deref.result.now first
    (entries_from c.args.set.now c.args.behind) (entries_from c.args.set.now c.day_len-len.result.1) of c.day_len-len.ensures
    (c.is_share.ensures.0 c.if-is_share.true)

pub returns-clause-put : goal.returns-clause-put
returns-clause-put g c =
    let first = entry_of c.args.first.now in
    let of = subst (λ (d : List ℕ). IsIn day_Period d first) (sym c.deref-2.ensures.value) c.in_ok-day.ensures in
    ok_weaker _ _
    (λ place put. day_mixed (g.D.Disk.tells c.put_entries.new.disk) c.args.total c.args.draft.now
    (g.D.Disk.state c.args.disk.now) c.args.buffer.now.items c.put_entries.new.draft
    (g.D.Disk.state c.put_entries.new.disk) c.put_entries.new.buffer.items c.deref-2.result.now first
    (entries_from c.args.set.now c.args.behind) (entries_from c.args.set.now place) of put)
    c.put_entries.result c.put_entries.ensures.put
