use Rattle.std.proofs.Common.{arith}
use Rattle.ledger.proofs.ReadingLemmas.{too_long}
use Rattle.ledger.proofs.reader.Reading.take.Goals as goal

pub returns-then-len-ge-LINE_MAX : goal.returns-then-len-ge-LINE_MAX
returns-then-len-ge-LINE_MAX c =
    λ text more h. too_long c.args.self.now text more c.args.octet c.if-octet-eq10.false (omega arith) h
