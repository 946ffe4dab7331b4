use Rattle.std.proofs.Common.{subst, sym}
use Rattle.ledger.specs.Words.{IsHash}
use Rattle.ledger.proofs.WordLemmas.{number_is}
use Rattle.ledger.proofs.body.read_sealed.Goals as goal

pub returns-in_err-root : goal.returns-in_err-root
returns-in_err-root c =
    rw c.from_residual-in_err-root.ensures
    (λ n root small valid e.
    c.in_err-root.ensures {u = tt}
    (subst IsHash (sym ((number_is c.args.text.now c.in_ok-octets.rest.now root c.in_ok-octets.octets n
    c.in_ok-octets.ensures.0 c.in_ok-octets.ensures.1 small e).1)) valid))
