use Rattle.std.proofs.Common.{arith}
use Rattle.journal.proofs.Readings.{begins}
use Rattle.journal.proofs.reading.batch_len.Goals as goal

pub returns-clause-found : goal.returns-clause-found
returns-clause-found c =
    begins c.args.octets.now c.from_le_bytes-len.result c.if-octets-lt-HEAD.false c.if-octets-ne-OPEN.false
    c.if-len-octets.false (λ i. omega (arith, c.type_inv.octets i)) c.from_le_bytes-len.ensures
    c.from_le_bytes-len.type_inv
