use Rattle.std.specs.Prelude.{decimal}
use Rattle.ledger.proofs.WordLemmas.{first_is, number_free}
use Rattle.ledger.proofs.words.read_number.Goals as goal

pub returns-in_err-number : goal.returns-in_err-number
returns-in_err-number c =
    rw c.from_residual-in_err-number.ensures
    (λ n rest small e.
    c.in_err-number.ensures {u = tt} n small
    ((first_is c.args.text.now c.in_ok-word.word.now c.in_ok-word.rest.now (decimal n) rest c.in_ok-word.ensures.0
    c.in_ok-word.ensures.1 (number_free n small) e).0))
