use Rattle.ledger.proofs.WordLemmas.{number_is}
use Rattle.ledger.specs.Lines.{removal_text}
use Rattle.ledger.proofs.body.read_gone.Goals as goal

pub returns-in_err-removal : goal.returns-in_err-removal
returns-in_err-removal c =
    rw c.from_residual-in_err-removal.ensures
    (λ n why small valid e.
    c.in_err-removal.ensures {u = tt} why valid
    ((number_is c.args.text.now c.in_ok-octets.rest.now (removal_text why) c.in_ok-octets.octets n
    c.in_ok-octets.ensures.0 c.in_ok-octets.ensures.1 small e).1))
