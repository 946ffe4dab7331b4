use Rattle.std.proofs.Common.{ℕ, Ok, Result, ◌+◌, ◌*◌, ◌≤◌, length}
use Rattle.reconcile.specs.Ranges.{AreWithin, IsInside, IsProper}
use Rattle.reconcile.specs.Reconciling.{Going}
use Rattle.reconcile.specs.Requests.{Did, Sends, allowance}
use Rattle.reconcile.specs.declared.stopped.Stopped.{Stopped}
use Rattle.reconcile.proofs.ask.reconcile.Given as goal

abbrev pub invariant-turns : goal.invariant-turns
invariant-turns g l =
    let a = g.S.RangedSet.entries l.fn.own in
    let b = g.P.Peer.held l.fn.peer in
    let own = g.S.RangedSet.entries l.own in
    let seen = g.P.Peer.seen in
    record {
      within : AreWithin l.range l.pending.items;
      did : Did (IsInside l.range) a own (seen l.fn.peer) (seen l.peer) (let r : Result ℕ Stopped = Ok 0 in r);
      sends : Sends (3 * l.counter + 1) (seen l.fn.peer) (seen l.peer) (let r : Result ℕ Stopped = Ok 0 in r);
      honest : IsProper l.range → g.P.Peer.is_honest l.fn.peer → g.P.Peer.is_honest l.peer
          × Going l.range a b own (g.P.Peer.held l.peer) l.pending.items
          × ((seen l.peer).requests + allowance l.pending.items ≤ (seen l.fn.peer).requests + 3 * length b + 3);
    }
