use Rattle.std.proofs.Common.{arith, ◌≡◌, ◌++◌, ◌∷◌, [], List, ℕ, map, rules, sym, subst}
use Rattle.std.specs.Prelude.{Contains}
use Rattle.std.specs.Map.Iter.{deref_pair}
use Rattle.std.proofs.lemmas.Grind.{common_steps}
use Rattle.std.proofs.lemmas.Map.Iter.{iter_end}
use Rattle.ledger_engine.specs.Findings.{WasSetAside}
use Rattle.ledger_engine.proofs.Comparing.{AreTaken, absent_taken, taken_aside, taken_missing, taken_none}
use Rattle.ledger_engine.proofs.findings.missing_of.Goals as goal

pub listed-init : goal.listed-init
listed-init c =
    subst (AreTaken (Contains c.args.names.now) []) (sym c.new-missing.ensures.items) (taken_none (Contains c.args.names.now))

pub listed-preserved : goal.listed-preserved
listed-preserved c =
    taken_aside (Contains c.args.names.now) c.listed.yielded c.listed.missing.items (c.in-Some.name, c.in-Some.listed)
    c.listed.invariant
    (subst (λ (n : List ℕ). WasSetAside (Contains c.args.names.now) n c.in-Some.listed.now) c.deref.ensures.value
    (c.in_ok-was_set_aside.ensures.0 c.if-not-branch.false))

pub listed-preserved-in_ok-push : goal.listed-preserved-in_ok-push
listed-preserved-in_ok-push c =
    let copied : c.in_ok-to_vec.field-0.items ≡ c.in-Some.name.now.items = grind (arith, common_steps) in
    subst (AreTaken (Contains c.args.names.now) (c.listed.yielded ++ (c.in-Some.name, c.in-Some.listed) ∷ []))
    (sym c.in_ok-push.ensures.items)
    (taken_missing (Contains c.args.names.now) c.listed.yielded c.listed.missing.items (c.in-Some.name, c.in-Some.listed)
    c.in_ok-to_vec.field-0 c.listed.invariant copied)

pub returns : goal.returns
returns c =
    let e : map deref_pair c.listed.yielded ≡ c.args.absent.now.segments.entries = search (rules, iter_end) in
    absent_taken (Contains c.args.names.now) c.args.absent.now c.listed.yielded c.listed.missing.items e c.listed.invariant
    c.listed-name-items.ensures.listed
