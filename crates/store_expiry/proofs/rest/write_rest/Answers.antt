use Rattle.std.proofs.Common.{◌∙◌}
use Rattle.store_upkeep.specs.Compaction.{shown}
use Rattle.store_expiry.proofs.Resting.{others_on, rest_written}
use Rattle.store_expiry.proofs.rest.write_rest.Goals as goal

pub returns-clause-rest : goal.returns-clause-rest
returns-clause-rest g c tells sound es archive file =
    let begun = c.settle.ensures.told tells in
    let opened = c.begin.ensures.told begun in
    let same = c.open.ensures.same opened in
    rest_written c.args.expired.now (g.D.Disk.state c.settle.new.disk) (shown (g.D.Disk.state c.args.disk.now))
    c.args.name.now c.args.draft.now es _ _ _ (g.D.Draft.Output.state c.select_stream.new.writer).taken _
    (c.in_ok-file.ensures.opened opened sound) file archive (c.in_ok-writer.ensures.empty begun)
    c.in_default.ensures.outcome
    (λ text is. c.in_ok-settle.ensures.settled tells text is (c.begin.ensures.lost begun ∙ (same.lost ∙ sound)))

pub returns-clause-others : goal.returns-clause-others
returns-clause-others g c tells =
    let begun = c.settle.ensures.told tells in
    let opened = c.begin.ensures.told begun in
    others_on (g.D.Disk.state c.args.disk.now) (g.D.Disk.state c.open.new.disk)
    (g.D.Disk.state c.begin.new.disk) (g.D.Disk.state c.settle.new.disk) c.args.draft.now
    (c.open.ensures.same opened) (c.begin.ensures.others begun) (c.settle.ensures.others tells)
