use Rattle.std.proofs.lemmas.Result.{err_from_is_err_and}
use Rattle.octet_language.specs.Language.{AnyOf}
use Rattle.syslog_fields.specs.Spans.{SpannedValue}
use Rattle.syslog_reading.specs.Views.{param_span}
use Rattle.syslog_fields.proofs.ReadForms.{param_read}
use Rattle.syslog_fields.proofs.ParamTexts.{as_param, bad_octet, bad_name, bad_behind, whole_param, empty_value}
use Rattle.syslog_fields.proofs.ParamTexts.{IsPrefixFree-spanned_value, value_starts}
use Rattle.syslog_reading.proofs.element.param.Goals as goal

pub returns-in_err-rest : goal.returns-in_err-rest
returns-in_err-rest c =
    let p = err_from_is_err_and c.from_residual.result c.from_residual.ensures.1 in
    rw (p.1, p.2) (record {
      reads = as_param _ _
          (bad_octet 32 (AnyOf SpannedValue) _ _ _ empty_value c.in_err-rest.ensures);
      form = tt;
    })

pub returns-in_err-name : goal.returns-in_err-name
returns-in_err-name c =
    let p = err_from_is_err_and c.from_residual-in_err-name.result c.from_residual-in_err-name.ensures.1 in
    rw (p.1, p.2) (record {
      reads = as_param _ _
          (bad_name 32 (AnyOf SpannedValue) _ c.in_ok-rest.rest.now _ _ empty_value IsPrefixFree-spanned_value
          value_starts c.in_ok-rest.ensures c.in_err-name.ensures);
      form = tt;
    })

pub returns-in_err-raw : goal.returns-in_err-raw
returns-in_err-raw c =
    let p = err_from_is_err_and c.from_residual-in_err-raw.result c.from_residual-in_err-raw.ensures.1 in
    rw (p.1, p.2) (record {
      reads = as_param _ _
          (bad_behind 32 (AnyOf SpannedValue) _ c.in_ok-rest.rest.now c.in_ok-name.rest.now c.in_ok-name.name.now _
          value_starts c.in_ok-rest.ensures c.in_ok-name.ensures c.in_err-raw.ensures.reads);
      form = tt;
    })

pub returns-clause-reads : goal.returns-clause-reads
returns-clause-reads c = whole_param c.args.octets.now c.in_ok-rest.rest.now c.in_ok-name.rest.now c.in_ok-raw.rest.now
    (param_span record { name = c.in_ok-name.name; raw = c.in_ok-raw.raw }) c.in_ok-rest.ensures c.in_ok-name.ensures.0
    c.in_ok-raw.ensures.reads

pub returns-clause-form : goal.returns-clause-form
returns-clause-form c = param_read c.in_ok-raw.is_form
    (param_span record { name = c.in_ok-name.name; raw = c.in_ok-raw.raw }) c.args.octets.now c.in_ok-raw.rest.now
    (returns-clause-reads c) c.in_ok-raw.ensures.form
