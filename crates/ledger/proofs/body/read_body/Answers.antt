use Rattle.ledger.specs.Lines.{said_text}
use Rattle.ledger.specs.Words.{word_and}
use Rattle.ledger.specs.declared.body.TheConstants.{TIME_MAX}
use Rattle.ledger.proofs.BodyLemmas.{name_is}
use Rattle.ledger.proofs.WordLemmas.{number_is}
use Rattle.ledger.proofs.body.read_body.Goals as goal

pub returns-in_err-_time : goal.returns-in_err-_time
returns-in_err-_time c =
    rw c.from_residual-in_err-_time.ensures
    (λ n time s valid e.
    let number = number_is c.args.text.now c.in_ok-number.rest.now (word_and time (said_text s)) c.in_ok-number.number n
    c.in_ok-number.ensures.0 c.in_ok-number.ensures.1 valid.number_fits e in
    c.in_err-_time.ensures {u = tt} time _ valid.time_word number.1)

pub returns-in_err-entry : goal.returns-in_err-entry
returns-in_err-entry c =
    rw c.from_residual-in_err-entry.ensures
    (λ n time s valid e.
    let number = number_is c.args.text.now c.in_ok-number.rest.now (word_and time (said_text s)) c.in_ok-number.number n
    c.in_ok-number.ensures.0 c.in_ok-number.ensures.1 valid.number_fits e in
    let word = name_is TIME_MAX TIME_MAX c.in_ok-number.rest.now c.in_ok-_time._time.now c.in_ok-_time.rest.now time
    (said_text s) c.in_ok-_time.ensures.0 c.in_ok-_time.ensures.1 valid.time_word number.1 in
    c.in_err-entry.ensures {u = tt} s valid.said word.1)
