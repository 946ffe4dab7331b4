use Rattle.store_upkeep.proofs.verification.verify_file.Goals as goal

pub returns-clause-added : goal.returns-clause-added
returns-clause-added g c = (_, c.in_ok-push.ensures.items)
