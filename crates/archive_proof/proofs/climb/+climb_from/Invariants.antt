use Rattle.archive_proof.proofs.climb.+climb_from.Given as goal

abbrev pub decreases-climb_from : goal.decreases-climb_from
decreases-climb_from l = l.level
