use Rattle.ledger.specs.Lines.{said_of}
use Rattle.ledger.proofs.HeadLemmas.{not_first}
use Rattle.ledger.proofs.head.ChainHead.behind.Goals as goal

pub returns-then-number-eq0 : goal.returns-then-number-eq0
returns-then-number-eq0 c =
    λ h.
    let told = c.in_ok-number.ensures {u = tt} in
    not_first c.args.line.now c.in_ok-body.body.now c.in_ok-body.chain told.0 (said_of c.in_ok-number._entry) h
    c.in_ok-body.ensures.0.size c.in_ok-body.ensures.1
    (rw c.if-number-eq0.true at told.1) (rw c.if-number-eq0.true at told.2)
