use Rattle.std.proofs.Common.{◌∙◌, sym, arith, rules}
use Rattle.std.proofs.lemmas.Bool.{false≢true}
use Rattle.memchr.specs.Find.{Passes, is_byte2}
use Rattle.syslog_fields.proofs.FirstElements.{nowhere_more}
use Rattle.syslog_fields.proofs.near.either_from.Goals as goal

pub returns-then-is_either : goal.returns-then-is_either
returns-then-is_either c = (
  record { low = omega arith; high = search rules; before = c.loop-i.invariant },
  sym c.is_either.ensures ∙ c.if-is_either.true,
)

pub loop-i-preserved : goal.loop-i-preserved
loop-i-preserved c =
    nowhere_more (Passes (is_byte2 c.args.first c.args.second) c.args.octets.now) c.loop-i.i c.loop-i.invariant
    (λ p. false≢true (sym c.if-is_either.false ∙ c.is_either.ensures ∙ p))

pub returns : goal.returns
returns c = λ k low less p. c.loop-i.invariant k low (omega (arith, less, c.loop-i-test.false)) p
