use Rattle.archive_proof.proofs.reading.+push_hashes.Given as goal

abbrev pub decreases-push_hashes : goal.decreases-push_hashes
decreases-push_hashes l = l.number
