use Rattle.std.proofs.Common.{◌≡◌, arith, rules, sym, ◌∙◌}
use Rattle.std.specs.Prelude.{false}
use Rattle.std.proofs.lemmas.Bool.{false≢true}
use Rattle.store_reading.proofs.Readable.{other_seal, seal_is}
use Rattle.store_reading.proofs.journals.check_seal.Goals as goal

pub returns-then-seals-clause-sealed : goal.returns-then-seals-clause-sealed
returns-then-seals-clause-sealed c text parts =
    seal_is c.args.body.now c.args.rest.now text c.split_at.result.0.now c.split_at.result.1.now
    c.saturating_sub.result (omega arith) c.split_at.ensures.front c.split_at.ensures.back parts
    (c.seals.ensures.0 (search rules))

pub returns-clause-damaged : goal.returns-clause-damaged
returns-clause-damaged c text parts =
    let off : c.seals.result ≡ false = search rules in
    other_seal c.args.body.now c.args.rest.now text c.split_at.result.0.now c.split_at.result.1.now
    c.saturating_sub.result (omega arith) c.split_at.ensures.front c.split_at.ensures.back parts c.args.offset
    c.saturating_add-at.result (λ seals. false≢true (sym off ∙ c.seals.ensures.1 seals)) (omega arith)
