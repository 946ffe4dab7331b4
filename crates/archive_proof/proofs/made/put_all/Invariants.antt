use Rattle.std.proofs.Common.{◌≡◌, ◌++◌, drop}
use Rattle.archive_proof.specs.Making.{made_texts}
use Rattle.archive_proof.proofs.made.put_all.Given as goal

abbrev pub invariant-loop-search : goal.invariant-loop-search
invariant-loop-search l =
    l.text.items ++ made_texts (drop l.search-index l.searches) l.rest
    ≡ l.fn.text.items ++ made_texts l.searches l.paths
