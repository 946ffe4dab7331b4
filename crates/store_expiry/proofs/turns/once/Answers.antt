use Rattle.std.proofs.Common.{List, ℕ, [], subst, sym}
use Rattle.std.proofs.lemmas.List.{take_all}
use Rattle.store_expiry.specs.Turns.{AreOnce}
use Rattle.store_expiry.proofs.Turning.{once_none}
use Rattle.store_expiry.proofs.turns.once.Goals as goal

pub names-init : goal.names-init
names-init c up = subst (AreOnce []) (sym c.new-each.ensures.items) once_none

pub names-preserved : goal.names-preserved
names-preserved c up = c.in_ok-put_once.ensures up (c.names.invariant up)

pub returns : goal.returns
returns c up =
    subst (λ (l : List (List ℕ)). AreOnce l c.names.each.items)
    (take_all c.names.at c.args.names.now c.names-test.false) (c.names.invariant up)
