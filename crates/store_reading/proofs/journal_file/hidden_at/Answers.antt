use Rattle.std.proofs.Common.{◌≡◌, arith, rules, sym, ◌∙◌}
use Rattle.std.specs.Prelude.{false}
use Rattle.std.proofs.lemmas.Bool.{false≢true}
use Rattle.store_reading.proofs.Batched.{shorter_rest}
use Rattle.store_reading.proofs.Tails.{tail_begun, tail_hidden, tail_more, tail_plain}
use Rattle.store_reading.proofs.journal_file.hidden_at.Goals as goal

pub batches-init : goal.batches-init
batches-init c = tail_begun c.args.octets.now

pub batches-preserved : goal.batches-preserved
batches-preserved c =
    tail_more c.args.octets.now c.batches.rest.now _ c.in-Some.behind.now c.batches.invariant c.in-Some.ensures.some

pub batches-smaller : goal.batches-smaller
batches-smaller c = shorter_rest c.batches.rest.now _ c.in-Some.behind.now c.in-Some.ensures.some

pub returns-clause-some : goal.returns-clause-some
returns-clause-some c =
    tail_hidden c.args.octets.now c.batches.rest.now _ c.batches.invariant c.in_default.ensures.none
    (c.hides_batches.ensures.0 (search rules)) (omega arith)

pub returns-then-not-hides_batches-clause-none : goal.returns-then-not-hides_batches-clause-none
returns-then-not-hides_batches-clause-none c =
    let off : c.hides_batches.result ≡ false = search rules in
    tail_plain c.args.octets.now c.batches.rest.now c.batches.invariant c.in_default.ensures.none
    (λ hides. false≢true (sym off ∙ c.hides_batches.ensures.1 hides))
