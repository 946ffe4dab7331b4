use Rattle.std.proofs.Common.{◌∙◌, sym}
use Rattle.std.proofs.lemmas.Bool.{false≢true}
use Rattle.std.proofs.lemmas.Slice.Eq.{bytes_eq-Decides}
use Rattle.syslog_reading.proofs.Rising.{new_more}
use Rattle.syslog_reading.proofs.few_ids.FewIds.lacks.Goals as goal

pub loop-i-preserved : goal.loop-i-preserved
loop-i-preserved c = new_more c.args.id.now c.loop-i.i _ c.in-Some.kept.now c.loop-i-test.true
    (λ e. false≢true (sym c.if-eq.false ∙ c.eq.ensures ∙ (bytes_eq-Decides _ c.args.id.now).1 e)) c.loop-i.invariant
