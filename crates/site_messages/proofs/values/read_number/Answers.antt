use Rattle.std.proofs.lemmas.Result.{err_from_is_err_and}
use Rattle.std.specs.Prelude.{decimal}
use Rattle.site_messages.specs.Words.{IsNumber}
use Rattle.site_messages.proofs.ValueLemmas.{number_words}
use Rattle.site_messages.proofs.WordLemmas.{value_gap, value_none, value_whole}
use Rattle.site_messages.proofs.values.read_number.Goals as goal

pub returns-in_err-word : goal.returns-in_err-word
returns-in_err-word c =
    let p = err_from_is_err_and c.from_residual.result c.from_residual.ensures.1 in
    rw (p.1, p.2) (value_gap 32 20 IsNumber decimal number_words c.args.octets.now c.in_err-word.field-0.0
    c.in_err-word.ensures)

pub returns-in-Some : goal.returns-in-Some
returns-in-Some c =
    value_whole 32 20 IsNumber decimal number_words c.args.octets.now c.in_ok-word.word.now c.in_ok-word.rest.now
    c.in_ok-word.ensures c.in-Some.number c.in-Some.ensures.0 c.in-Some.ensures.1

pub returns-in-None : goal.returns-in-None
returns-in-None c =
    value_none 32 20 IsNumber decimal number_words c.args.octets.now c.in_ok-word.word.now c.in_ok-word.rest.now
    c.in_ok-word.ensures c.in-None.ensures
