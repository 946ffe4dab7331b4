use Rattle.std.proofs.Common.{◌∙◌, sym, arith, rules}
use Rattle.std.proofs.lemmas.Bool.{false≢true}
use Rattle.memchr.specs.Find.{Passes}
use Rattle.syslog_fields.proofs.FirstElements.{nowhere_more}
use Rattle.record_json.specs.Texts.{is_escaped}
use Rattle.record_json.proofs.stops.escaped_from.Goals as goal

pub returns-then-is_escaped : goal.returns-then-is_escaped
returns-then-is_escaped c = (
  record { low = omega arith; high = search rules; before = c.loop-i.invariant },
  sym c.is_escaped.ensures ∙ c.if-is_escaped.true,
)

pub loop-i-preserved : goal.loop-i-preserved
loop-i-preserved c =
    nowhere_more (Passes is_escaped c.args.octets.now) c.loop-i.i c.loop-i.invariant
    (λ p. false≢true (sym c.if-is_escaped.false ∙ c.is_escaped.ensures ∙ p))

pub returns : goal.returns
returns c = λ k low less p. c.loop-i.invariant k low (omega (arith, less, c.loop-i-test.false)) p
