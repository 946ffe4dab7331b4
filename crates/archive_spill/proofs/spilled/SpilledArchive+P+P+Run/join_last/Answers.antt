use Rattle.std.proofs.Common.{◌∙◌, sym, ap, subst, take, map, length}
use Rattle.archive_pages.specs.Paged.{entries_in}
use Rattle.archive_spill.specs.Runs.{AreKeptIn}
use Rattle.archive_spill.proofs.RunLists.{joined_kept, written_back}
use Rattle.archive_spill.proofs.spilled.SpilledArchive+P+P+Run.join_last.Goals as goal

pub returns-clause-ok : goal.returns-clause-ok
returns-clause-ok g c = λ es k.
    let same = c.deref_mut.ensures.value in
    record {
      told = c.in_ok-joined.ensures.tells k.told;
      kept = joined_kept g.P.Run.Input.state _ _ _ _ _ _ es
          (c.truncate.ensures.items
          ∙ ap (take _) (written_back _ _ _ (c.in_ok-joined.ensures.size ∙ c.deref_mut.ensures.len)
          (ap length (sym same) ∙ c.deref_mut.ensures.len))
          ∙ c.in_ok-joined.ensures.front)
          c.in-Ok.ensures.items (c.in_ok-joined.ensures.joins k.told)
          (subst (λ l. AreKeptIn (map g.P.Run.Input.state l) (entries_in c.args.self.now.pages) es) (sym same) k.kept);
    }
