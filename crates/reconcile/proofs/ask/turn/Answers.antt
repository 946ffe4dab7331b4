use Rattle.std.proofs.Common.{◌≡◌, ◌+◌, ◌≤◌, ◌++◌, Ok, Err, Result, ap, append_assoc, arith, length, refl}
use Rattle.std.proofs.Common.{subst, sym}
use Rattle.std.specs.List.{AllByRecursion}
use Rattle.std.proofs.lemmas.Result.{err_from_is_err_and}
use Rattle.archive_text.proofs.Members.{all_right}
use Rattle.reconcile.specs.Ranges.{AreWithin, Covers, IsInside, IsProper}
use Rattle.reconcile.specs.Reconciling.{Going, Settles}
use Rattle.reconcile.specs.Requests.{Did, allowance}
use Rattle.reconcile.specs.declared.part.Part.{Part}
use Rattle.reconcile.specs.declared.stopped.Stopped.{Stopped}
use Rattle.reconcile.proofs.Costs.{costs_some}
use Rattle.reconcile.proofs.Done.{did_none, did_stopped, did_then, did_wider}
use Rattle.reconcile.proofs.Popping.{refines_within, turn_costs, within_large, within_small}
use Rattle.reconcile.proofs.Turns.{goes_refined, going_settled, told_now}
use Rattle.reconcile.proofs.ask.turn.Goals as goal

pub returns-in_err-settle-clause-did : goal.returns-in_err-settle-clause-did
returns-in_err-settle-clause-did g c r w =
    let own = g.S.RangedSet.entries c.args.own.now in
    let now = g.S.RangedSet.entries c.settle.new.own in
    let old = g.P.Peer.seen c.args.peer.now in
    let new = g.P.Peer.seen c.settle.new.peer in
    let small = c.in_ok-sorted.sorted.small.items in
    let p = err_from_is_err_and c.from_residual-in_err-settle.result c.from_residual-in_err-settle.ensures.1 in
    let res : Result (Unit {0}) Stopped = Err c.in_err-settle.field-0.0 in
    let did : Did (Covers small) own now old new res =
    subst (λ l. Did {A = Unit {0}} (Covers l) own now old new res) c.as_slice.ensures.value
    (subst (λ l. Did {A = Unit {0}} (Covers c.as_slice.result.now) l now old new res) c.in_ok-sorted.ensures.kept
    c.in_err-settle.ensures.did) in
    let inside = within_small r c.sort_parts.new.pending.items c.in_ok-sorted.sorted.large.items small
    (c.in_ok-sorted.ensures.within r w) in
    rw p.1 (
      did_stopped (IsInside r) own now old new res p.0
          (did_wider (Covers small) (IsInside r) own now old new res inside did),
      tt,
    )

pub returns-in_err-settle-clause-most : goal.returns-in_err-settle-clause-most
returns-in_err-settle-clause-most g c =
    let small = c.in_ok-sorted.sorted.small.items in
    let same : length c.as_slice.result.now ≡ length small = ap length c.as_slice.ensures.value in
    omega (arith, c.in_err-settle.ensures.few, same, costs_some small, c.in_ok-sorted.ensures.costs)

pub returns-clause-did : goal.returns-clause-did
returns-clause-did g c r w =
    let own = g.S.RangedSet.entries c.args.own.now in
    let now = g.S.RangedSet.entries c.settle.new.own in
    let seen = g.P.Peer.seen in
    let old = seen c.args.peer.now in
    let mid = seen c.settle.new.peer in
    let new = seen c.refine.new.peer in
    let ps = c.sort_parts.new.pending.items in
    let large = c.in_ok-sorted.sorted.large.items in
    let small = c.in_ok-sorted.sorted.small.items in
    let within = c.in_ok-sorted.ensures.within r w in
    let res : Result (Unit {0}) Stopped = Ok c.in_ok-settle.field-0 in
    let did : Did (Covers small) own now old mid res =
    subst (λ l. Did {A = Unit {0}} (Covers l) own now old mid res) c.as_slice.ensures.value
    (subst (λ l. Did {A = Unit {0}} (Covers c.as_slice.result.now) l now old mid res) c.in_ok-sorted.ensures.kept
    c.in_ok-settle.ensures.did) in
    let wide = did_wider (Covers small) (IsInside r) own now old mid res (within_small r ps large small within) did in
    let rest : AreWithin r (ps ++ c.as_slice-2.result.now) =
    subst (λ l. AreWithin r (ps ++ l)) (sym c.as_slice-2.ensures.value) (within_large r ps large small within) in (
      did_then (IsInside r) own now now old mid new c.in_ok-settle.field-0 c.refine.result wide
          (did_none (IsInside r) now now 1 mid new c.refine.result did.archive refl c.refine.ensures.sends),
      refines_within c.refine.result r ps c.as_slice-2.result.now c.refine.new.pending.items rest
          c.refine.ensures.finer,
    )

pub returns-clause-costs : goal.returns-clause-costs
returns-clause-costs g c =
    let seen = g.P.Peer.seen in
    let ps = c.sort_parts.new.pending.items in
    let large = c.in_ok-sorted.sorted.large.items in
    let small = c.in_ok-sorted.sorted.small.items in
    let same : length c.as_slice.result.now ≡ length small = ap length c.as_slice.ensures.value in
    let also : allowance c.as_slice-2.result.now ≡ allowance large = ap allowance c.as_slice-2.ensures.value in
    let first : (seen c.settle.new.peer).requests ≤ (seen c.args.peer.now).requests + allowance small =
    omega (arith, c.in_ok-settle.ensures.few, same, costs_some small) in
    turn_costs c.refine.result ps c.as_slice-2.result.now c.refine.new.pending.items (seen c.args.peer.now).requests
    (seen c.settle.new.peer).requests
    (seen c.refine.new.peer).requests (allowance c.args.pending.now.items) (allowance small) first c.refine.ensures.few
    (omega (arith, also, c.in_ok-sorted.ensures.costs)) c.refine.ensures.finer

pub returns-clause-most : goal.returns-clause-most
returns-clause-most g c =
    let large = c.in_ok-sorted.sorted.large.items in
    let small = c.in_ok-sorted.sorted.small.items in
    let same : length c.as_slice.result.now ≡ length small = ap length c.as_slice.ensures.value in
    let also : length c.as_slice-2.result.now ≡ length large = ap length c.as_slice-2.ensures.value in
    omega (
      arith,
      c.in_ok-settle.ensures.few,
      c.refine.ensures.few,
      same,
      also,
      costs_some small,
      costs_some large,
      c.in_ok-sorted.ensures.costs,
    )

pub returns-clause-honest : goal.returns-clause-honest
returns-clause-honest g c r a b sa sb hon going =
    let own = g.S.RangedSet.entries c.args.own.now in
    let now = g.S.RangedSet.entries c.settle.new.own in
    let held = g.P.Peer.held c.args.peer.now in
    let mid = g.P.Peer.held c.settle.new.peer in
    let ps = c.sort_parts.new.pending.items in
    let large = c.as_slice-2.result.now in
    let small = c.as_slice.result.now in
    let first = c.in_ok-sorted.ensures.going r a b held sa sb going in
    let sorted : Going r a b own held (ps ++ (large ++ small)) =
    subst (λ l. Going r a b own held (ps ++ (l ++ small))) (sym c.as_slice-2.ensures.value)
    (subst (λ l. Going r a b own held (ps ++ (c.in_ok-sorted.sorted.large.items ++ l)))
    (sym c.as_slice.ensures.value) first) in
    let apart : Going r a b own held ((ps ++ large) ++ small) = subst (Going r a b own held)
    (sym (append_assoc ps large small)) sorted in
    let s = c.in_ok-settle.ensures.honest hon in
    let res : Result (Unit {0}) Stopped = Ok c.in_ok-settle.field-0 in
    let settles : Settles (Covers small) own held now mid res =
    subst (λ l. Settles {A = Unit {0}} (Covers small) l held now mid res) c.in_ok-sorted.ensures.kept s.1 in
    let left : Going r a b now mid (ps ++ large) = going_settled r a b own held now mid (ps ++ large) small apart
    settles in
    let two = subst (AllByRecursion (λ (p : Part). 2 ≤ p.sum.records)) (sym c.as_slice-2.ensures.value)
    c.in_ok-sorted.ensures.large in
    let h = c.refine.ensures.honest s.0 (all_right (λ (p : Part). IsProper p.range) ps large left.proper)
    (told_now r a b now mid ps large left) two in (
      h.0,
      goes_refined r a b now mid (g.P.Peer.held c.refine.new.peer) ps large c.refine.new.pending.items
          c.refine.result left h.1 h.2,
    )
