use Rattle.std.proofs.Common.{◌≡◌, length, arith}
use Rattle.archive_join.proofs.Leasts.{alone_holds}
use Rattle.archive_join.proofs.joining.Join.note.Goals as goal

pub returns-clause-holders : goal.returns-clause-holders
returns-clause-holders c =
    let was = c.args.self.now in
    let same : length was.holders.items ≡ length was.heads.items =
    omega (arith, was.holders.ok.0, was.heads.ok.0, was.sizes) in
    alone_holds was.heads.items was.holders.items c.args.least c.requires.idle same c.requires.found c.if-least.false
