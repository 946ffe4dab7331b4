use Rattle.std.proofs.Common.{List, [], ◌∷◌, inl, inr, subst, sym}
use Rattle.std.specs.Prelude.{false}
use Rattle.archive_text.specs.Entries.{Entry}
use Rattle.archive_text.specs.EntryViews.{entry_of}
use Rattle.archive_pages.specs.Paged.{entries_from, entries_in}
use Rattle.journal.specs.Journals.{IsSound}
use Rattle.durable_store.specs.Segments.{octets_of}
use Rattle.durable_store.specs.Shares.{SyncsAlong}
use Rattle.durable_store.proofs.Daily.{DaysWritten, days_gain, days_grow, days_grown, days_more, days_shorter, days_written}
use Rattle.durable_store.proofs.Daily.{none_written}
use Rattle.durable_store.proofs.Failing.{keeping_less}
use Rattle.durable_store.proofs.Readable.{at_err}
use Rattle.durable_store.proofs.Syncing.{syncs_then, syncs_none}
use Rattle.durable_store.proofs.segments.write_days.Goals as goal

pub days-init : goal.days-init
days-init g c = record {
  syncs = syncs_none c.args.total (entries_in c.args.set.now) [] (entries_from c.args.set.now c.first-place.result)
      (g.D.Disk.syncs c.args.disk.now) (sym (c.first-place.ensures c.args.set.now));
  told = λ tells. tells;
  written = subst (λ (l : List Entry). DaysWritten (g.D.Disk.tells c.args.disk.now) c.args.total (octets_of c.args.name)
      (g.D.Disk.state c.args.disk.now) (g.D.Disk.state c.args.disk.now) false (entries_in c.args.set.now) l)
      (sym (c.first-place.ensures c.args.set.now))
      (none_written (g.D.Disk.tells c.args.disk.now) c.args.total (octets_of c.args.name) (g.D.Disk.state c.args.disk.now)
      (entries_in c.args.set.now));
}

pub days-preserved : goal.days-preserved
days-preserved g c = record {
  syncs = syncs_then c.args.total (entries_in c.args.set.now) (entries_from c.args.set.now c.days.place)
      (entry_of c.in-Some.entry ∷ entries_from c.args.set.now c.in-Some.behind)
      (entries_from c.args.set.now c.in_ok-wrote.next) (g.D.Disk.syncs c.args.disk.now) (g.D.Disk.syncs c.days.disk)
      (g.D.Disk.syncs c.write_share.new.disk) c.days.invariant.syncs c.in-Some.ensures.some c.in_ok-wrote.ensures.along;
  told = λ tells. c.days.invariant.told (c.write_share.ensures.told tells);
  written = days_more (g.D.Disk.tells c.write_share.new.disk) (g.D.Disk.tells c.days.disk) c.args.total
      (octets_of c.args.name) (g.D.Disk.state c.args.disk.now) (g.D.Disk.state c.days.disk) (g.D.Disk.state c.write_share.new.disk) c.days.skipped
      (entries_in c.args.set.now) (entries_from c.args.set.now c.days.place)
      (entries_from c.args.set.now c.in-Some.behind) (entry_of c.in-Some.entry) c.write_share.ensures.told
      c.days.invariant.written c.in-Some.ensures.some c.args.set.now.paged.archive
      c.in_ok-wrote.wrote (entries_from c.args.set.now c.in_ok-wrote.next) c.in_ok-wrote.ensures.wrote
      c.write_share.ensures.gains c.is_skipped-skipped.result (λ yes. c.is_skipped-skipped.ensures.1 (inl yes))
      (λ not. c.is_skipped-skipped.ensures.1 (inr not));
}

pub days-smaller : goal.days-smaller
days-smaller g c =
    days_shorter (entry_of c.in-Some.entry) (entries_from c.args.set.now c.days.place)
    (entries_from c.args.set.now c.in-Some.behind) c.in_ok-wrote.ensures.wrote.run
    (entries_from c.args.set.now c.in_ok-wrote.next) c.in-Some.ensures.some c.in_ok-wrote.ensures.wrote.is

pub returns-in_err-wrote-clause-gains : goal.returns-in_err-wrote-clause-gains
returns-in_err-wrote-clause-gains g c =
    days_gain (g.D.Disk.tells c.write_share.new.disk) (g.D.Disk.tells c.days.disk) c.args.total
    (octets_of c.args.name) (g.D.Disk.state c.args.disk.now) (g.D.Disk.state c.days.disk) (g.D.Disk.state c.write_share.new.disk) c.days.skipped
    (entries_in c.args.set.now) (entries_from c.args.set.now c.days.place)
    (entries_from c.args.set.now c.in-Some.behind) (entry_of c.in-Some.entry) c.write_share.ensures.told
    c.days.invariant.written c.in-Some.ensures.some c.args.set.now.paged.archive
    c.write_share.ensures.gains

pub returns-in_err-wrote-clause-grows : goal.returns-in_err-wrote-clause-grows
returns-in_err-wrote-clause-grows g c =
    days_grow (g.D.Disk.tells c.write_share.new.disk) (g.D.Disk.tells c.days.disk) c.args.total
    (octets_of c.args.name) (g.D.Disk.state c.args.disk.now) (g.D.Disk.state c.days.disk) (g.D.Disk.state c.write_share.new.disk) c.days.skipped
    (entries_in c.args.set.now) (entries_from c.args.set.now c.days.place)
    (entries_from c.args.set.now c.in-Some.behind) (entry_of c.in-Some.entry) c.write_share.ensures.told
    c.days.invariant.written c.in-Some.ensures.some c.args.set.now.paged.archive
    c.write_share.ensures.grows

pub returns-in_err-wrote-clause-cause : goal.returns-in_err-wrote-clause-cause
returns-in_err-wrote-clause-cause g c =
    let fault = c.in_err-wrote.field-0.0 in
    at_err c.from_residual.result fault _ c.from_residual.ensures.1
    (keeping_less (g.D.Disk.tells c.write_share.new.disk) (g.D.Disk.has_failed c.write_share.new.disk)
    (IsSound (g.D.Disk.state c.days.disk)) (IsSound (g.D.Disk.state c.args.disk.now))
    (g.D.Disk.state c.write_share.new.disk) fault
    (λ tell. c.days.invariant.written.writes.sound (c.write_share.ensures.told tell))
    c.in_err-wrote.ensures.cause)

pub returns-clause-wrote : goal.returns-clause-wrote
returns-clause-wrote g c =
    days_written (g.D.Disk.tells c.days.disk) c.args.total (octets_of c.args.name) (g.D.Disk.state c.args.disk.now)
    (g.D.Disk.state c.days.disk)
    c.days.skipped (entries_in c.args.set.now) (entries_from c.args.set.now c.days.place) c.days.invariant.written
    c.in_default.ensures.none

pub returns-clause-gains : goal.returns-clause-gains
returns-clause-gains g c = c.days.invariant.written.gains

pub returns-clause-grows : goal.returns-clause-grows
returns-clause-grows g c =
    days_grown (g.D.Disk.tells c.days.disk) c.args.total (octets_of c.args.name) (g.D.Disk.state c.args.disk.now)
    (g.D.Disk.state c.days.disk)
    c.days.skipped (entries_in c.args.set.now) (entries_from c.args.set.now c.days.place) c.days.invariant.written
    c.in_default.ensures.none

pub returns-in_err-wrote-clause-syncs : goal.returns-in_err-wrote-clause-syncs
returns-in_err-wrote-clause-syncs g c =
    syncs_then c.args.total (entries_in c.args.set.now) (entries_from c.args.set.now c.days.place)
    (entry_of c.in-Some.entry ∷ entries_from c.args.set.now c.in-Some.behind) [] (g.D.Disk.syncs c.args.disk.now)
    (g.D.Disk.syncs c.days.disk) (g.D.Disk.syncs c.write_share.new.disk) c.days.invariant.syncs c.in-Some.ensures.some
    c.write_share.ensures.syncs

pub returns-clause-syncs : goal.returns-clause-syncs
returns-clause-syncs g c =
    subst (λ (l : List Entry). SyncsAlong c.args.total (entries_in c.args.set.now) l (g.D.Disk.syncs c.args.disk.now)
    (g.D.Disk.syncs c.days.disk)) c.in_default.ensures.none c.days.invariant.syncs
