use Rattle.std.proofs.Common.{IsTrue, subst, sym, arith, ◌∙◌}
use Rattle.std.specs.Prelude.{◌↔◌}
use Rattle.std.proofs.lemmas.Bool.{false≢true}
use Rattle.octet_patterns.specs.Occurrences.{HasWithin}
use Rattle.octet_patterns.proofs.Finding.{found_within, stand_nowhere}
use Rattle.octet_patterns.proofs.occurrence.has_within.Goals as goal

pub returns-then-text-octets : goal.returns-then-text-octets
returns-then-text-octets c =
    stand_nowhere c.args.octets.now c.args.text.now (λ k h. omega (arith, h.fits, c.if-text-octets.true))

pub returns-then-not-may_have : goal.returns-then-not-may_have
returns-then-not-may_have c = stand_nowhere c.args.octets.now c.args.text.now
    (λ k h. false≢true (sym c.if-not-may_have.true ∙ c.may_have.ensures k h))

pub returns : goal.returns
returns c =
    subst (λ b. IsTrue b ↔ HasWithin c.args.octets.now c.args.text.now) (sym c.is_some.ensures)
    (found_within c.args.octets.now c.args.text.now c.find.result c.find.ensures)
