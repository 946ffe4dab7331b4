use Rattle.std.proofs.Common.{◌≡◌, ◌+◌, ◌*◌, [], ℕ, Ok, Err, Result, Some, arith, option_copied, refl}
use Rattle.std.proofs.Common.{subst, sym, vec_len}
use Rattle.std.proofs.lemmas.Bool.{eqb-true}
use Rattle.std.proofs.lemmas.Result.{err_from_is_err_and}
use Rattle.reconcile.specs.Ranges.{Chain, IsInside}
use Rattle.reconcile.specs.Reconciling.{Going}
use Rattle.reconcile.specs.declared.stopped.Stopped.{Stopped}
use Rattle.reconcile.proofs.Costs.{none_left}
use Rattle.reconcile.proofs.Done.{did_none, did_so_far, did_stopped, did_then, sends_any, sends_then}
use Rattle.reconcile.proofs.Parts.{chain_within}
use Rattle.reconcile.proofs.Turns.{first_costs, going_first, united_last}
use Rattle.reconcile.proofs.ask.reconcile.Goals as goal

pub turns-init : goal.turns-init
turns-init g c =
    let r = c.args.range.now in
    let own = g.S.RangedSet.entries c.args.own.now in
    let b = g.P.Peer.held c.args.peer.now in
    let old = g.P.Peer.seen c.args.peer.now in
    let new = g.P.Peer.seen c.parts.new.self in
    let parts = c.in_ok-pending.pending.items in
    let ok : Result ℕ Stopped = Ok 0 in
    let told : Chain (Some r.low) (option_copied c.as_ref.result) c.as_slice.result.now =
    c.if-not-is_chain.ensures.0 refl in
    let chain : Chain (Some r.low) r.high parts = subst (λ h. Chain (Some r.low) h parts) c.as_ref.ensures.value
    (subst (Chain (Some r.low) (option_copied c.as_ref.result)) c.as_slice.ensures.value told) in
    let sends = sends_any 1 old new c.in_ok-pending.pending ok c.in_ok-pending.ensures.sends in
    record {
      within = chain_within r parts chain;
      did = did_none (IsInside r) own own 1 old new ok (g.met.S.RangedSet.archive c.args.own.now) refl sends;
      sends = sends;
      honest = λ proper hon.
          let h = c.in_ok-pending.ensures.honest hon in
          let cost = first_costs b r parts (g.met.P.Peer.archive c.args.peer.now hon) (h.2 proper) in (
            h.0,
            going_first r own b (g.P.Peer.held c.parts.new.self) parts h.1 (h.2 proper),
            omega
                (arith, sends.requests, cost),
          );
    }

pub turns-preserved : goal.turns-preserved
turns-preserved g c =
    let r = c.args.range.now in
    let own = g.S.RangedSet.entries c.args.own.now in
    let mid = g.S.RangedSet.entries c.turns.own in
    let now = g.S.RangedSet.entries c.turn.new.own in
    let b = g.P.Peer.held c.args.peer.now in
    let old = g.P.Peer.seen c.args.peer.now in
    let half = g.P.Peer.seen c.turns.peer in
    let new = g.P.Peer.seen c.turn.new.peer in
    let ok : Result ℕ Stopped = Ok 0 in
    let inv = c.turns.invariant in
    let did = c.in_ok-turn.ensures.did r inv.within in
    let sends = sends_any 3 half new c.in_ok-turn.field-0 ok c.in_ok-turn.ensures.sends in
    record {
      within = did.1;
      did = did_then (IsInside r) own mid now old half new 0 ok inv.did
          (did_so_far (IsInside r) mid now half new c.in_ok-turn.field-0 0 did.0);
      sends = record {
        requests = omega (arith, inv.sends.requests, sends.requests);
        kept = (sends_then (3 * c.turns.counter + 1) 3 old half new 0 ok inv.sends sends).kept;
      };
      honest = λ proper hon.
          let i = inv.honest proper hon in
          let k = c.in_ok-turn.ensures.honest r own b (g.met.S.RangedSet.archive c.args.own.now)
          (g.met.P.Peer.archive c.args.peer.now hon) i.0 i.1 in
          (k.0, k.1, omega (arith, c.in_ok-turn.ensures.costs, i.2));
    }

pub returns-then-is_empty-clause-honest : goal.returns-then-is_empty-clause-honest
returns-then-is_empty-clause-honest g c proper hon =
    let r = c.args.range.now in
    let own = g.S.RangedSet.entries c.args.own.now in
    let now = g.S.RangedSet.entries c.turns.own in
    let b = g.P.Peer.held c.args.peer.now in
    let b_now = g.P.Peer.held c.turns.peer in
    let inv = c.turns.invariant in
    let i = inv.honest proper hon in
    let empty : c.turns.pending.items ≡ [] = none_left c.turns.pending.items
    (let none = eqb-true (vec_len c.turns.pending) 0 (sym c.if-is_empty.ensures) in
    omega (arith, none, c.turns.pending.ok)) in
    record {
      outcome = united_last r own b now b_now inv.did.archive (g.met.P.Peer.archive c.turns.peer i.0)
          (subst (Going r own b now b_now) empty i.1);
      between = i.1.between;
      requests = omega (arith, i.2);
    }

pub returns-in_err-turn-clause-did : goal.returns-in_err-turn-clause-did
returns-in_err-turn-clause-did g c =
    let r = c.args.range.now in
    let own = g.S.RangedSet.entries c.args.own.now in
    let mid = g.S.RangedSet.entries c.turns.own in
    let now = g.S.RangedSet.entries c.turn.new.own in
    let old = g.P.Peer.seen c.args.peer.now in
    let half = g.P.Peer.seen c.turns.peer in
    let new = g.P.Peer.seen c.turn.new.peer in
    let p = err_from_is_err_and c.from_residual-in_err-turn.result c.from_residual-in_err-turn.ensures.1 in
    let did = c.in_err-turn.ensures.did r c.turns.invariant.within in
    let res : Result (Unit {0}) Stopped = Err c.in_err-turn.field-0.0 in
    let last : Result (Unit {0}) Stopped = Err p.0 in
    rw p.1 (did_then (IsInside r) own mid now old half new 0 last c.turns.invariant.did
    (did_stopped (IsInside r) mid now half new res p.0 did.0))

pub returns-in_err-turn-clause-honest : goal.returns-in_err-turn-clause-honest
returns-in_err-turn-clause-honest g c proper hon =
    let r = c.args.range.now in
    let own = g.S.RangedSet.entries c.args.own.now in
    let b = g.P.Peer.held c.args.peer.now in
    let i = c.turns.invariant.honest proper hon in
    let p = err_from_is_err_and c.from_residual-in_err-turn.result c.from_residual-in_err-turn.ensures.1 in
    let k = c.in_err-turn.ensures.honest r own b (g.met.S.RangedSet.archive c.args.own.now)
    (g.met.P.Peer.archive c.args.peer.now hon) i.0 i.1 in
    rw (p.1, p.2) (record {
      outcome = k.1.1;
      between = k.1.0;
      requests = omega (arith, c.in_err-turn.ensures.most, i.2);
    })
