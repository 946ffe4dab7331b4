use Rattle.std.proofs.lemmas.Result.{err_from_is_err_and}
use Rattle.octet_language.specs.Language.{AnyOf, Each}
use Rattle.syslog_fields.specs.Values.{Piece}
use Rattle.syslog_fields.specs.Forms.{pieces_form}
use Rattle.syslog_fields.proofs.ReadForms.{taken_form, value_form}
use Rattle.syslog_fields.proofs.Texts.{Fails-text}
use Rattle.syslog_fields.proofs.value.value_of_pieces.Goals as goal

pub returns-in_err-rest : goal.returns-in_err-rest
returns-in_err-rest c =
    let p = err_from_is_err_and c.from_residual.result c.from_residual.ensures.1 in
    rw (p.1, p.2) (record { reads = Fails-text (AnyOf (Each Piece)) _ _ _ c.in_err-rest.ensures.reads; form = tt })

pub returns-clause-form : goal.returns-clause-form
returns-clause-form c =
    value_form c.in_ok-rest.is_form c.split_at.result.0.now
    (taken_form (Each Piece) pieces_form c.in_ok-rest.is_form c.args.octets.now c.in_ok-rest.rest.now
    c.split_at.result.0.now 34 c.in_ok-rest.ensures.form c.split_at.ensures.front)
