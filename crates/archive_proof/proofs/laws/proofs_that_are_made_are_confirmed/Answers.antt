use Rattle.archive_proof.proofs.Confirmations.{confirmed}
use Rattle.archive_proof.proofs.laws.proofs_that_are_made_are_confirmed.Goals as goal

pub returns : goal.returns
returns c =
    λ head xs rs text answers left t h.
    confirmed head xs rs t.ps h.ps answers text h.rest left t.proofs t.made t.is_text h.read h.begins h.says h.is_left
