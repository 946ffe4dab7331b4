use Rattle.std.proofs.lemmas.Result.{err_from_is_err_and}
use Rattle.octet_language.specs.Language.{AnyOf}
use Rattle.syslog_reading.specs.Views.{element_span}
use Rattle.syslog_fields.proofs.ReadForms.{element_read}
use Rattle.syslog_fields.proofs.ParamTexts.{SpannedParams, as_element, bad_octet, bad_name, bad_behind, whole_element}
use Rattle.syslog_fields.proofs.ParamTexts.{no_params, IsPrefixFree-spanned_params, params_start}
use Rattle.syslog_reading.proofs.element.element.Goals as goal

pub returns-in_err-rest : goal.returns-in_err-rest
returns-in_err-rest c =
    let p = err_from_is_err_and c.from_residual.result c.from_residual.ensures.1 in
    rw (p.1, p.2) (record {
      reads = as_element _ _
          (bad_octet 91 (AnyOf SpannedParams) _ _ _ no_params c.in_err-rest.ensures);
      form = tt;
    })

pub returns-in_err-id : goal.returns-in_err-id
returns-in_err-id c =
    let p = err_from_is_err_and c.from_residual-in_err-id.result c.from_residual-in_err-id.ensures.1 in
    rw (p.1, p.2) (record {
      reads = as_element _ _
          (bad_name 91 (AnyOf SpannedParams) _ c.in_ok-rest.rest.now _ _ no_params IsPrefixFree-spanned_params
          params_start c.in_ok-rest.ensures c.in_err-id.ensures);
      form = tt;
    })

pub returns-in_err-params : goal.returns-in_err-params
returns-in_err-params c =
    let p = err_from_is_err_and c.from_residual-in_err-params.result c.from_residual-in_err-params.ensures.1 in
    rw (p.1, p.2) (record {
      reads = as_element _ _
          (bad_behind 91 (AnyOf SpannedParams) _ c.in_ok-rest.rest.now c.in_ok-id.rest.now c.in_ok-id.id.now _
          params_start c.in_ok-rest.ensures c.in_ok-id.ensures c.in_err-params.ensures.reads);
      form = tt;
    })

pub returns-clause-reads : goal.returns-clause-reads
returns-clause-reads c = whole_element c.args.octets.now c.in_ok-rest.rest.now c.in_ok-id.rest.now
    c.in_ok-params.rest.now (element_span record { id = c.in_ok-id.id; params = c.in_ok-params.params })
    c.in_ok-rest.ensures c.in_ok-id.ensures.0 c.in_ok-params.ensures.reads

pub returns-clause-form : goal.returns-clause-form
returns-clause-form c = element_read c.in_ok-params.is_form
    (element_span record { id = c.in_ok-id.id; params = c.in_ok-params.params }) c.args.octets.now
    c.in_ok-params.rest.now (returns-clause-reads c) c.in_ok-params.ensures.form
