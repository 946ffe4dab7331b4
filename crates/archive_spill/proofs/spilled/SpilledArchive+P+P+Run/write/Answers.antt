use Rattle.std.proofs.Common.{List, sym, subst, map}
use Rattle.std.proofs.lemmas.Result.{err_from_is_err_and}
use Rattle.archive_text.specs.Entries.{Entry}
use Rattle.archive_text.specs.Text.{text_of}
use Rattle.archive_spill.specs.Runs.{AreRunsOf}
use Rattle.archive_spill.specs.Writing.{WritesOut}
use Rattle.archive_spill.proofs.JoinedRuns.{none_out}
use Rattle.archive_spill.proofs.RunLists.{none_mapped, only_pages, only_runs}
use Rattle.archive_spill.proofs.spilled.SpilledArchive+P+P+Run.write.Goals as goal

pub returns-then-is_empty-clause-written : goal.returns-then-is_empty-clause-written
returns-then-is_empty-clause-written g c = λ es ys h archive same.
    subst (λ (l : List Entry). WritesOut (g.W.Output.state c.args.output.now) (g.W.Output.state c.write_out.new.output)
    (text_of l) c.write_out.result)
    (only_pages (map g.P.Run.Input.state c.args.self.runs.items) _ es ys
    (none_mapped g.P.Run.Input.state _ _ c.args.self.runs.ok.0 c.if-is_empty.ensures) c.write_out.ensures.archive
    archive h.keeps.kept same)
    c.write_out.ensures.written

pub returns-in_err-gather-clause-written : goal.returns-in_err-gather-clause-written
returns-in_err-gather-clause-written g c = λ es ys h archive same.
    let p = err_from_is_err_and c.from_residual.result c.from_residual.ensures.1 in
    rw p.1 (rw p.2 (none_out (Unit {0}) _ _ _ c.in_err-gather.ensures.fault))

pub returns-clause-written : goal.returns-clause-written
returns-clause-written g c = λ es ys h archive same.
    let k = c.in_ok-gather.ensures.ok es h.keeps in
    c.join_out.ensures k.kept.xss ys
    (subst (λ l. AreRunsOf (map g.P.Run.Input.state l) k.kept.xss) (sym c.deref_mut.ensures.value) k.kept.runs) archive
    (only_runs _ _ es ys c.in_ok-gather.ensures.none k.kept same)
