use Rattle.syslog_frame.proofs.scanner.Scanner.push.Goals as goal
use Rattle.syslog_frame.proofs.scanner.Scanner.push.Goals.{in-Ok, in-Err-Failed, in-Err-StreamTooLong}

pub returns-clause-takes : goal.returns-clause-takes
returns-clause-takes c = elim c.match-push.branch [
  | in-Ok w ↦ rw w.result-is (rw (← c.self.view_is) w.in-Ok.ensures.takes)
  | in-Err-Failed w ↦ rw w.result-is tt
  | in-Err-StreamTooLong w ↦ rw w.result-is tt
]

pub returns-clause-stands : goal.returns-clause-stands
returns-clause-stands c = elim c.match-push.branch [
  | in-Ok w ↦ rw w.result-is (rw (← c.self.view_is) w.in-Ok.ensures.stands)
  | in-Err-Failed w ↦ rw w.result-is tt
  | in-Err-StreamTooLong w ↦ rw w.result-is tt
]

pub returns-clause-reads : goal.returns-clause-reads
returns-clause-reads c = elim c.match-push.branch [
  | in-Ok w ↦ rw w.result-is (rw (← c.self.view_is) w.in-Ok.ensures.reads)
  | in-Err-Failed w ↦ rw w.result-is tt
  | in-Err-StreamTooLong w ↦ rw w.result-is tt
]
