use Rattle.archive_spill.proofs.RunLists.{spilled_kept}
use Rattle.archive_spill.proofs.spilled.SpilledArchive+P+P+Run.spill_pages.Goals as goal

pub returns-clause-ok : goal.returns-clause-ok
returns-clause-ok g c = λ es k. record {
  told = c.in_ok-run.ensures.tells k.told;
  kept = spilled_kept g.P.Run.Input.state _ _ _ _ _ es c.in-Ok.ensures.items c.new.ensures
      (c.in_ok-run.ensures.written k.told) k.kept;
}
