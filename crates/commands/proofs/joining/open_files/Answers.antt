use Rattle.std.proofs.Common.{inr, sym, ◌∙◌}
use Rattle.commands.proofs.JoinLemmas.{lacks_at, opened_next}
use Rattle.commands.proofs.joining.open_files.Goals as goal

pub returns-in_default-reader-clause-told : goal.returns-in_default-reader-clause-told
returns-in_default-reader-clause-told g c =
    let i = c.loop-input.invariant in
    inr (lacks_at (λ s. s.now) c.args.how (g.F.Files.stored c.args.files.now) c.args.names.now c.loop-input.input _ _ _ _ _
    c.loop-input-test.true i.opened (rw i.stored at c.in_default-reader.ensures.found)
    (rw i.untold at c.report_on_input.ensures))

pub loop-input-preserved : goal.loop-input-preserved
loop-input-preserved g c =
    let i = c.loop-input.invariant in
    record {
      stored = c.in-Some.ensures.same ∙ i.stored;
      untold = i.untold;
      opened =
          opened_next (λ s. s.now) g.F.Reader.Input.state (g.F.Files.stored c.args.files.now) c.args.names.now
          c.loop-input.input _ c.loop-input.readers.items _ c.in-Some.reader c.push.result c.loop-input-test.true i.opened
          (rw i.stored at c.in-Some.ensures.found, c.in-Some.ensures.unused)
          (sym c.is_err.ensures.value ∙ c.if-is_err.false) c.push.ensures.items;
    }
