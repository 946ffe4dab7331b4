use Rattle.std.proofs.Common.{List, take}
use Rattle.archive_text.specs.Entries.{Entry}
use Rattle.syslog_collect.specs.Collectors.{GoesOn, Stands, behind}
use Rattle.syslog_collect.specs.History.{AcceptedEvent, history_of}
use Rattle.syslog_collect.specs.Logs.{Grows, IsLogOf, waiting}
use Rattle.syslog_collect.specs.Runs.{accepted_all}
use Rattle.syslog_collect.specs.Stops.{EndWell}
use Rattle.syslog_collect.proofs.collector.Collector.run.Given as goal

-- so far it stands after the events accepted, and their outcomes were logged
abbrev pub invariant-loop-at : goal.invariant-loop-at
invariant-loop-at g l = record {
  goes_on : GoesOn (g.S.Store.entries) l.fn.self l.self (accepted_all (take l.at l.events));
  log : (past first : List Entry) (before : List AcceptedEvent) →
      Stands (behind past (g.S.Store.entries)) l.fn.self first before →
      Grows (IsLogOf l.fn.self.reading (history_of before) (waiting l.fn.self.connections)
      (accepted_all (take l.at l.events)) (waiting l.self.connections)
      (g.S.Store.entries l.fn.self.store) (g.S.Store.entries l.self.store)) l.fn.log.items l.log.items;
  ends : (past first : List Entry) (before : List AcceptedEvent) →
      Stands (behind past (g.S.Store.entries)) l.fn.self first before →
      EndWell (history_of before) (take l.at l.events);
}
