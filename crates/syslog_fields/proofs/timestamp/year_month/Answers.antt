use Rattle.std.proofs.lemmas.Result.{err_from_is_err_and}
use Rattle.octet_language.specs.Language.{AnyOf}
use Rattle.syslog_fields.specs.Time.{Two, YearText}
use Rattle.syslog_fields.proofs.Separated.{as_pair, bad_first, bad_middle, bad_second, both_read}
use Rattle.syslog_fields.proofs.Times.{IsPrefixFree-year, some_month}
use Rattle.syslog_fields.proofs.timestamp.year_month.Goals as goal

pub returns-in_err-year : goal.returns-in_err-year
returns-in_err-year c =
    let p = err_from_is_err_and c.from_residual.result c.from_residual.ensures.1 in
    rw (p.1, p.2) (as_pair (YearText) (Two 1 12) 45 _ _
    (bad_first (AnyOf (YearText)) (AnyOf (Two 1 12)) 45 _ _ _ (some_month) c.in_err-year.ensures))

pub returns-in_err-rest : goal.returns-in_err-rest
returns-in_err-rest c =
    let p = err_from_is_err_and c.from_residual-in_err-rest.result c.from_residual-in_err-rest.ensures.1 in
    let f = c.in_ok-year.ensures in
    rw (p.1, p.2) (as_pair (YearText) (Two 1 12) 45 _ _
    (bad_middle (AnyOf (YearText)) (AnyOf (Two 1 12)) 45 _ c.in_ok-year.rest.now _ _ (IsPrefixFree-year)
    (some_month) (f.0, f.1, (c.in_ok-year.year, f.2)) c.in_err-rest.ensures))

pub returns-in_err-month : goal.returns-in_err-month
returns-in_err-month c =
    let p = err_from_is_err_and c.from_residual-in_err-month.result c.from_residual-in_err-month.ensures.1 in
    let f = c.in_ok-year.ensures in
    rw (p.1, p.2) (as_pair (YearText) (Two 1 12) 45 _ _
    (bad_second (AnyOf (YearText)) (AnyOf (Two 1 12)) 45 _ c.in_ok-year.rest.now c.in_ok-rest.rest.now _
    (IsPrefixFree-year) (f.0, f.1, (c.in_ok-year.year, f.2)) c.in_ok-rest.ensures c.in_err-month.ensures))

pub returns : goal.returns
returns c = both_read (YearText c.in_ok-year.year) (Two 1 12 c.in_ok-month.month) 45 c.args.octets.now
    c.in_ok-year.rest.now c.in_ok-rest.rest.now c.in_ok-month.rest.now c.in_ok-year.ensures c.in_ok-rest.ensures
    c.in_ok-month.ensures
