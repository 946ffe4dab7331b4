use Rattle.archive_streams.proofs.Giving.{used_of}
use Rattle.archive_streams.proofs.pieces.Pieces.move_behind.Goals as goal

pub returns-clause-unused : goal.returns-clause-unused
returns-clause-unused c =
    used_of c.args.self.now.start c.args.self.now.end c.args.used c.args.self.now.piece.items c.requires.within
