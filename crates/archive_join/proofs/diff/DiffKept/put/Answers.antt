use Rattle.std.proofs.Common.{[], ◌∷◌}
use Rattle.std.proofs.lemmas.Result.{err_from_is_err_and}
use Rattle.archive_join.specs.Keeping.{side_mark}
use Rattle.archive_join.specs.Shown.{shown}
use Rattle.archive_join.proofs.Lines.{fails_first, fails_second, puts_third}
use Rattle.archive_join.proofs.diff.DiffKept.put.Goals as goal

pub returns-in_err-put : goal.returns-in_err-put
returns-in_err-put g c =
    let p = err_from_is_err_and c.from_residual.result c.from_residual.ensures.1 in
    rw (p.1, p.2) (fails_first _ _ _ _ (side_mark c.args.holders.now) (shown c.args.entry.now.octets.now) (10 ∷ []) _
    c.mark.ensures c.in_err-put.ensures.puts)

pub returns-in_err-put_shown : goal.returns-in_err-put_shown
returns-in_err-put_shown g c =
    let p = err_from_is_err_and c.from_residual-in_err-put_shown.result c.from_residual-in_err-put_shown.ensures.1 in
    rw (p.1, p.2) (fails_second _ _ _ _ _ _ (side_mark c.args.holders.now) (shown c.args.entry.now.octets.now) (10 ∷ [])
    _ c.mark.ensures c.in_ok-put.ensures.puts c.in_err-put_shown.ensures)

pub returns : goal.returns
returns g c =
    puts_third _ _ _ _ _ _ _ _ _ _ (side_mark c.args.holders.now) (shown c.args.entry.now.octets.now) (10 ∷ [])
    c.mark.ensures c.in_ok-put.ensures.puts c.in_ok-put_shown.ensures c.put-2.ensures.puts
