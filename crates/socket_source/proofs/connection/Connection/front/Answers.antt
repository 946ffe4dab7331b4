use Rattle.std.proofs.Common.{arith}
use Rattle.socket_source.proofs.Beginnings.{begun_less}
use Rattle.socket_source.proofs.connection.Connection.front.Goals as goal

pub returns-in-Some-clause-few : goal.returns-in-Some-clause-few
returns-in-Some-clause-few c = rw c.in-Some.is (λ n within.
    let front = c.begin-front in
    omega (
      arith,
      front.ensures.frames,
      front.ensures.few,
      begun_less c.args.self.now.framing c.in-Some.allowed.place c.args.octets.now n front.result.len within,
    ))
