use Rattle.std.proofs.Common.{sym, ◌∙◌}
use Rattle.std.proofs.lemmas.Bool.{false≢true}
use Rattle.std.proofs.lemmas.Slice.Eq.{bytes_eq-Decides}
use Rattle.syslog_reading.specs.Views.{element_span}
use Rattle.syslog_reading.proofs.Repeating.{seeks_more, seeks_found, seeks_end}
use Rattle.syslog_reading.proofs.repeated.holds_id.Goals as goal

pub returns-then-eq : goal.returns-then-eq
returns-then-eq c = seeks_found c.args.elements.now c.args.id.now c.loop-first.rest.now c.first_element.result.1.now
    c.in-Some._after.now c.in-Some._first (element_span c.first_element.result.0) c.in-Some.ensures
    c.first_element.ensures.element (sym c.id.ensures
    ∙ (bytes_eq-Decides c.id.result.now c.args.id.now).0 (sym c.eq.ensures ∙ c.if-eq.true)) c.loop-first.invariant

pub loop-first-preserved : goal.loop-first-preserved
loop-first-preserved c = seeks_more c.args.elements.now c.args.id.now c.loop-first.rest.now c.first_element.result.1.now
    c.in-Some._after.now c.in-Some._first (element_span c.first_element.result.0) c.in-Some.ensures
    c.first_element.ensures.element (λ e. false≢true
    (sym c.if-eq.false ∙ c.eq.ensures ∙ (bytes_eq-Decides c.id.result.now c.args.id.now).1 (c.id.ensures ∙ e)))
    c.loop-first.invariant

pub returns : goal.returns
returns c = seeks_end c.args.elements.now c.args.id.now c.loop-first.rest.now c.in_default.ensures
    c.loop-first.invariant
