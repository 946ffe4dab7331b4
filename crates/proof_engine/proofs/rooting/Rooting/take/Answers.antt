use Rattle.std.proofs.Common.{◌++◌, ◌∷◌, [], List, ℕ, ap, subst}
use Rattle.archive_text.specs.Entries.{Entry}
use Rattle.archive_tree.specs.Trees.{HasTaken}
use Rattle.proof_engine.proofs.rooting.Rooting.take.Goals as goal

pub returns-clause-taken : goal.returns-clause-taken
returns-clause-taken c =
    λ xs room h.
    subst (λ (o : List ℕ). HasTaken c.push.new.self (xs ++ o ∷ [])) (ap (λ (e : Entry). e.octets) c.entry-entry.ensures)
    (c.push.ensures.taken xs room h)
