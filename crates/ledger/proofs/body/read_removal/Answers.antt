use Rattle.ledger.proofs.BodyLemmas.{no_removal, other_removal}
use Rattle.ledger.proofs.WordLemmas.{not_both}
use Rattle.ledger.proofs.body.read_removal.Goals as goal

pub returns-in_err-word : goal.returns-in_err-word
returns-in_err-word c =
    rw c.from_residual.ensures
    (no_removal c.args.text.now (λ e. not_both c.is.result c.if-is.false (c.is.ensures.1 e))
    (c.in_err-word.ensures {u = tt}))

pub returns-then-not-is : goal.returns-then-not-is
returns-then-not-is c =
    other_removal c.args.text.now c.in_ok-word.word.now c.in_ok-word.rest.now
    (λ e. not_both c.is.result c.if-is.false (c.is.ensures.1 e)) c.in_ok-word.ensures.0 c.in_ok-word.ensures.1
    (λ e. not_both c.is-2.result c.if-not-is.true (c.is-2.ensures.1 e))
