use Rattle.store_statistics.proofs.Seeing.{segment_seen}
use Rattle.store_statistics.proofs.look.look_at_segment.Goals as goal

pub returns-clause-seen : goal.returns-clause-seen
returns-clause-seen g c tells text segment =
    segment_seen (g.F.Folder.files c.args.folder.now) c.args.name.now c.args.period.now
    (g.F.File.Input.state c.in_ok-file.file) text segment
    (c.in_ok-file.ensures.opened tells) c.count_segment.result c.seen_by.result
    c.count_segment.ensures.counted c.count_segment.ensures.damaged c.seen_by.ensures.seen
