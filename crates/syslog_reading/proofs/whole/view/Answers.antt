use Rattle.std.proofs.lemmas.Result.{err_from_is_err_and}
use Rattle.syslog_reading.proofs.Excluded.{no_syntax}
use Rattle.syslog_reading.proofs.whole.view.Goals as goal

pub returns-in_err-spelling-clause-none : goal.returns-in_err-spelling-clause-none
returns-in_err-spelling-clause-none c =
    let p = err_from_is_err_and c.from_residual.result c.from_residual.ensures.1 in
    rw p.1 (no_syntax c.args.octets.now c.in_err-spelling.field-0.0 c.in_err-spelling.ensures)
