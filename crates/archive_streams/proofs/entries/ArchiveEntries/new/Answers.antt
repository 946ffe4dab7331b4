use Rattle.archive_streams.proofs.EntrySteps.{none_read}
use Rattle.archive_streams.proofs.Turns.{near_start}
use Rattle.archive_streams.proofs.entries.ArchiveEntries.new.Goals as goal

pub invariant_of-result : goal.invariant_of-result
invariant_of-result c = record {
  room = c.in_ok-new.ensures.room;
  spare_room = c.in_ok-new-2.ensures.room;
  size = c.in_ok-new.ensures.size;
  start = c.in_ok-new.ensures.start;
  near = λ _. near_start c.in_ok-new.field-0 c.in_ok-new.ensures.unused c.in_ok-new.ensures.position;
}

pub returns-clause-none : goal.returns-clause-none
returns-clause-none c = λ d.
    let r = c.in_ok-new.ensures in
    none_read c.in_ok-new.field-0 d r.unused r.position r.calls r.ends r.empty
