use Rattle.archive_streams.specs.Pieces.{unused}
use Rattle.archive_streams.proofs.Giving.{ReadsOn-moved}
use Rattle.archive_streams.proofs.pieces.Pieces.take.Goals as goal

pub returns-clause-reads : goal.returns-clause-reads
returns-clause-reads g c =
    let moved = c.move_behind.ensures in
    ReadsOn-moved c.args.self.now c.fill.new.self c.move_behind.new.self _ _ (unused c.args.self.now)
    (unused c.fill.new.self) c.args.text.now.items _ _ c.min-used.result c.fill.ensures.reads moved.size moved.calls moved.ends
    moved.text moved.unused
