use Rattle.std.proofs.Common.{◌≡◌, ℕ, ◌+◌, ◌-◌, ◌≤◌, List, length, take}
use Rattle.syslog_collect.specs.History.{Stream}
use Rattle.syslog_collect.specs.Logs.{ready_count}
use Rattle.syslog_collect.specs.Observers.{HearsLog}
use Rattle.syslog_collect.specs.Runs.{Logs, pending}
use Rattle.syslog_collect.specs.Standing.{IsAt}
use Rattle.syslog_collect.specs.Stops.{IsBetween, MayGoOn}
use Rattle.syslog_collect.proofs.piece.take_piece.Given as goal

-- so much of the piece was accepted
abbrev pub invariant-pieces : goal.invariant-pieces
invariant-pieces g l = record {
  within : l.taken ≤ length l.piece;
  number : l.connection.number ≡ l.fn.connection.number;
  reserved : l.connection.scanner.reserved ≡ l.fn.connection.scanner.reserved;
  so_far : (s : Stream) (d : List (List ℕ)) → IsAt l.fn.connection s d →
      Logs l.fn.reading l.fn.connection l.connection (g.S.Store.entries l.fn.store) (g.S.Store.entries l.store)
      (take l.taken l.piece) l.fn.log.items l.log.items s d;
  heard : (s : Stream) (d : List (List ℕ)) → IsAt l.fn.connection s d →
      HearsLog (g.O.Observer.observes) l.connection (take l.taken l.piece) l.fn.log.items l.log.items s d l.fn.observer
      l.observer;
  goes_on : (s : Stream) (d : List (List ℕ)) → IsAt l.fn.connection s d → MayGoOn l.piece l.taken s;
  between : (s : Stream) (d : List (List ℕ)) → IsAt l.fn.connection s d →
      IsBetween l.piece l.taken (ready_count l.connection.scanner.phase) s;
}

abbrev pub decreases-pieces : goal.decreases-pieces
decreases-pieces g l = pending l.connection.scanner.phase + (length l.piece - l.taken)
