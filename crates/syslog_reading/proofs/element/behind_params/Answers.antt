use Rattle.std.proofs.Common.{◌≡◌, ◌≢◌, ℕ, ◌∷◌, ◌∙◌, [], ap, subst, sym, Bool}
use Rattle.std.proofs.lemmas.Result.{err_from_is_err_and}
use Rattle.octet_language.specs.Language.{AnyOf, Each}
use Rattle.syslog_fields.specs.Canonical.{param_form}
use Rattle.syslog_fields.specs.Forms.{ReadsForm, params_form}
use Rattle.syslog_fields.specs.Grammar.{Param}
use Rattle.syslog_reading.specs.Views.{param_span}
use Rattle.syslog_fields.proofs.ReadForms.{more_read, none_read}
use Rattle.syslog_fields.proofs.Runs.{IfFirst-cons, IfFirst-empty}
use Rattle.syslog_fields.proofs.Loops.{carries_all, carries_more, carried_fails, carried_ends, takes_some, Fails-empty}
use Rattle.syslog_fields.proofs.ParamTexts.{IsPrefixFree-param, Fails-param, Follows-param, param_some, some_param}
use Rattle.syslog_reading.proofs.element.behind_params.Goals as goal

pub loop-first-init : goal.loop-first-init
loop-first-init c = record {
  carries = carries_all Param _ c.args.octets.now;
  form =
      none_read Param param_form c.args.octets.now;
}

pub returns-then-first-eq93-clause-reads : goal.returns-then-first-eq93-clause-reads
returns-then-first-eq93-clause-reads c = carried_ends Param 93 c.args.octets.now c.loop-first.rest.now
    c.in-Some.after.now c.in-Some.first c.loop-first.invariant.carries c.in-Some.ensures c.if-first-eq93.true

pub returns-in_err-_param : goal.returns-in_err-_param
returns-in_err-_param c =
    let p = err_from_is_err_and c.from_residual.result c.from_residual.ensures.1 in
    rw (p.1, p.2) (record {
      reads = carried_fails Param 93 c.args.octets.now c.loop-first.rest.now _
          (IfFirst-cons (λ x. x ≢ 93) _ _ _ c.in-Some.ensures c.if-first-eq93.false) c.loop-first.invariant.carries
          (Fails-param _ _ c.in_err-_param.ensures.reads);
      form = tt;
    })

pub loop-first-smaller : goal.loop-first-smaller
loop-first-smaller c = takes_some (AnyOf Param) c.loop-first.rest.now c.in_ok-_param.behind.now param_some
    (Follows-param _ _ (param_span c.in_ok-_param._param) c.in_ok-_param.ensures.reads)

pub loop-first-preserved : goal.loop-first-preserved
loop-first-preserved c =
    record {
      carries =
          carries_more Param 93 c.args.octets.now c.loop-first.rest.now c.in_ok-_param.behind.now IsPrefixFree-param
          (IfFirst-cons (λ x. x ≢ 93) _ _ _ c.in-Some.ensures c.if-first-eq93.false)
          (Follows-param _ _ (param_span c.in_ok-_param._param) c.in_ok-_param.ensures.reads)
          c.loop-first.invariant.carries;
      form =
          subst (λ (a : Bool). ReadsForm (Each Param) params_form a c.args.octets.now c.in_ok-_param.behind.now)
          (sym c.both-is_form.ensures)
          (more_read Param param_form c.loop-first.is_form c.in_ok-_param.param_is_form c.args.octets.now
          c.loop-first.rest.now c.in_ok-_param.behind.now c.loop-first.invariant.form c.in_ok-_param.ensures.form);
    }

pub returns-then-first-eq93-clause-form : goal.returns-then-first-eq93-clause-form
returns-then-first-eq93-clause-form c =
    let e : c.loop-first.rest.now ≡ 93 ∷ c.in-Some.after.now =
    c.in-Some.ensures ∙ ap (λ (n : ℕ). n ∷ c.in-Some.after.now) c.if-first-eq93.true in
    subst (ReadsForm (Each Param) params_form c.loop-first.is_form c.args.octets.now) e c.loop-first.invariant.form

pub returns : goal.returns
returns c =
    let e : c.loop-first.rest.now ≡ [] = c.in_default.ensures in
    record {
      reads = carried_fails Param 93 c.args.octets.now c.loop-first.rest.now _ (IfFirst-empty (λ x. x ≢ 93) _ e)
          c.loop-first.invariant.carries (Fails-empty (AnyOf Param) _ _ some_param param_some e);
      form = tt;
    }
