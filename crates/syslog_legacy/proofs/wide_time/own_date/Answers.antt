use Rattle.syslog_legacy.proofs.WideReads.{own_date_read}
use Rattle.syslog_legacy.proofs.wide_time.own_date.Goals as goal

pub returns : goal.returns
returns c =
    own_date_read c.args.octets.now c.in_ok-year.rest.now c.in_ok-rest.rest.now c.in_ok-month.rest.now
    c.in_ok-rest-2.rest.now c.in_ok-day.rest.now c.in_ok-year.year c.in_ok-month.month c.in_ok-day.day
    c.last_day.result c.in_ok-year.ensures c.in_ok-rest.ensures c.in_ok-month.ensures c.in_ok-rest-2.ensures
    c.last_day.ensures.value c.in_ok-day.ensures
