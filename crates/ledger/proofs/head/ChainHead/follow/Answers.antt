use Rattle.std.proofs.Common.{◌∙◌, arith, sym}
use Rattle.ledger.specs.Lines.{body_text, chain_behind, said_of}
use Rattle.ledger.proofs.HeadLemmas.{chain_hash, one_number, parts_are}
use Rattle.ledger.proofs.WordLemmas.{not_both}
use Rattle.ledger.proofs.head.ChainHead.follow.Goals as goal
use Rattle.ledger.proofs.head.ChainHead.follow.Goals.{then-self-via-then-self, then-self-via-else-self+then-number-self}

pub returns-in_err-body : goal.returns-in_err-body
returns-in_err-body c =
    rw c.from_residual.ensures
    (λ s h k.
    let body = body_text h.number k.time s in
    c.in_err-body.ensures {u = tt} body (chain_behind c.args.self.now.chain body)
    (chain_hash c.args.self.now.chain body) k.text)

pub returns-then-not-is : goal.returns-then-not-is
returns-then-not-is c =
    λ s h k.
    let parts = parts_are c.args.self.now c.args.line.now c.in_ok-body.body.now c.in_ok-body.chain s h k
    c.in_ok-body.ensures.0.size c.in_ok-body.ensures.1 in
    not_both c.is.result c.if-not-is.true (c.is.ensures.1 (parts.1 ∙ sym c.chain_behind.ensures))

pub returns-in_err-number : goal.returns-in_err-number
returns-in_err-number c =
    rw c.from_residual-in_err-number.ensures
    (λ s h k.
    let parts = parts_are c.args.self.now c.args.line.now c.in_ok-body.body.now c.in_ok-body.chain s h k
    c.in_ok-body.ensures.0.size c.in_ok-body.ensures.1 in
    c.in_err-number.ensures {u = tt} h.number k.time s k.valid parts.0)

pub returns-then-self : goal.returns-then-self
returns-then-self c =
    λ s h k.
    let parts = parts_are c.args.self.now c.args.line.now c.in_ok-body.body.now c.in_ok-body.chain s h k
    c.in_ok-body.ensures.0.size c.in_ok-body.ensures.1 in
    let told = c.in_ok-number.ensures {u = tt} in
    let same = one_number c.in_ok-body.body.now told.0 k.time c.in_ok-number.number h.number
    (said_of c.in_ok-number.entry) s told.1 told.2 k.valid parts.0 in
    let fits = k.valid.number_fits in
    let next = k.next in
    elim c.then-self.branch [
      | then-self-via-then-self w ↦ omega (arith, w.if-self.true, fits, next)
      | then-self-via-else-self+then-number-self w ↦ omega (arith, w.if-number-self.true, same, next)
    ]
