use Rattle.std.proofs.Common.{[], refl, sym, subst, length}
use Rattle.std.proofs.lemmas.Bool.{eqb-true, false≢true}
use Rattle.std.proofs.lemmas.List.{append-nil}
use Rattle.reconcile.specs.Requests.{AreCuts, lists_of}
use Rattle.reconcile.proofs.Costs.{none_left}
use Rattle.reconcile.proofs.Turns.{honest_cuts, honest_told}
use Rattle.reconcile.proofs.ask.refine.Goals as goal

pub returns-then-is_empty-clause-honest : goal.returns-then-is_empty-clause-honest
returns-then-is_empty-clause-honest g c hon proper told two =
    let parts = c.args.parts.now in
    let none = none_left parts (eqb-true (length parts) 0 (sym c.if-is_empty.ensures)) in (
      hon,
      refl,
      (
        record {
          cuts = [];
          pending = sym (append-nil c.args.pending.now.items);
          finer = subst (λ l. AreCuts l [])
              (sym none) tt;
        },
        tt,
      ),
    )

pub returns-then-not-are_cuts-clause-honest : goal.returns-then-not-are_cuts-clause-honest
returns-then-not-are_cuts-clause-honest g c hon proper told two =
    let held = g.P.Peer.held c.args.peer.now in
    let parts = c.args.parts.now in
    let h = c.in_ok-cuts.ensures.honest hon in
    let cuts = honest_cuts held parts (lists_of c.in_ok-cuts.cuts.items) (h.2 proper) told two in
    absurd (false≢true (c.if-not-are_cuts.ensures.1
    (subst (λ l. AreCuts parts (lists_of l)) (sym c.as_slice.ensures.value) cuts)))

pub returns-clause-honest : goal.returns-clause-honest
returns-clause-honest g c hon proper told two =
    let held = g.P.Peer.held c.args.peer.now in
    let parts = c.args.parts.now in
    let lists = lists_of c.in_ok-cuts.cuts.items in
    let h = c.in_ok-cuts.ensures.honest hon in (
      h.0,
      h.1,
      (
        record {
          cuts = lists;
          pending = c.in_ok-push_all.ensures;
          finer = honest_cuts held parts lists (h.2 proper) told two;
        },
        honest_told held parts lists (h.2 proper),
      ),
    )
