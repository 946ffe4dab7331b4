use Rattle.std.proofs.Common.{refl, subst, sym}
use Rattle.std.specs.Prelude.{All}
use Rattle.std.proofs.lemmas.Bool.{false≢true}
use Rattle.std.proofs.lemmas.List.Elements.{All-from_recursion, recursion_from_All}
use Rattle.archive_text.proofs.Members.{of_all, of_member}
use Rattle.reconcile.specs.Ranges.{Covers}
use Rattle.reconcile.specs.Unions.{IsJoined, IsPartly, Joins}
use Rattle.reconcile.proofs.Done.{did_get, sends_any, sends_then}
use Rattle.reconcile.proofs.Settling.{joined_partly, settles}
use Rattle.reconcile.proofs.ask.settle.Goals as goal

pub returns-then-not-are_covered-clause-honest : goal.returns-then-not-are_covered-clause-honest
returns-then-not-are_covered-clause-honest g c hon =
    let P = Covers c.args.parts.now in
    let got = c.in_ok-got.got in
    let h = c.in_ok-got.ensures.honest hon in
    let all : All (λ x. P x) got = All-from_recursion P got (of_all P got (λ x m. ((h.2.members x).0 m).1)) in
    absurd (false≢true (c.if-not-are_covered.ensures.1
    (subst (λ l. All (λ x. P x) l) (sym c.entries.ensures.value) all)))

pub returns-in_err-add-clause-did : goal.returns-in_err-add-clause-did
returns-in_err-add-clause-did g c =
    let P = Covers c.args.parts.now in
    let got = c.in_ok-got.got in
    let own = g.S.RangedSet.entries c.args.own.now in
    let now = g.S.RangedSet.entries c.add.new.self in
    let all : All (λ x. P x) got = subst (λ l. All (λ x. P x) l) c.entries.ensures.value
    (c.if-not-are_covered.ensures.0 refl) in
    let partly : IsPartly own got now = subst (λ l. IsPartly l got now) c.in_ok-missing.ensures.kept
    c.in_err-add.ensures in
    did_get P own now got 1 (g.P.Peer.seen c.args.peer.now) (g.P.Peer.seen c.get.new.self) _
    (λ x m. of_member P got x (recursion_from_All P got all) m) partly
    (sends_any 1 (g.P.Peer.seen c.args.peer.now) (g.P.Peer.seen c.get.new.self) got _ c.in_ok-got.ensures.sends)

pub returns-clause-did : goal.returns-clause-did
returns-clause-did g c =
    let P = Covers c.args.parts.now in
    let got = c.in_ok-got.got in
    let own = g.S.RangedSet.entries c.args.own.now in
    let now = g.S.RangedSet.entries c.add.new.self in
    let seen = g.P.Peer.seen in
    let all : All (λ x. P x) got = subst (λ l. All (λ x. P x) l) c.entries.ensures.value
    (c.if-not-are_covered.ensures.0 refl) in
    let joined : IsJoined own got now = subst (λ l. IsJoined l got now) c.in_ok-missing.ensures.kept
    c.in_ok-add.ensures in
    did_get P own now got 2 (seen c.args.peer.now) (seen c.hand_over.new.peer) c.hand_over.result
    (λ x m. of_member P got x (recursion_from_All P got all) m) (joined_partly own got now joined)
    (sends_then 1 1 (seen c.args.peer.now) (seen c.get.new.self) (seen c.hand_over.new.peer) got c.hand_over.result
    c.in_ok-got.ensures.sends c.hand_over.ensures.sends)

pub returns-clause-honest : goal.returns-clause-honest
returns-clause-honest g c hon =
    let P = Covers c.args.parts.now in
    let got = c.in_ok-got.got in
    let missing = c.in_ok-missing.missing in
    let own = g.S.RangedSet.entries c.args.own.now in
    let now = g.S.RangedSet.entries c.add.new.self in
    let b = g.P.Peer.held c.args.peer.now in
    let b_now = g.P.Peer.held c.hand_over.new.peer in
    let h = c.in_ok-got.ensures.honest hon in
    let k = c.hand_over.ensures.honest h.0 in
    let joined : IsJoined own got now = subst (λ l. IsJoined l got now) c.in_ok-missing.ensures.kept
    c.in_ok-add.ensures in
    let joins : Joins b missing b_now c.hand_over.result = subst (λ l. Joins l missing b_now c.hand_over.result) h.1
    k.1 in
    (k.0, settles P own b got missing now b_now c.hand_over.result h.2 c.in_ok-missing.ensures.lacking joined joins k.2)
