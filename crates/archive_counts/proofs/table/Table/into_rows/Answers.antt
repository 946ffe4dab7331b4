use Rattle.std.proofs.Common.{◌≡◌, map, rules, subst, sym}
use Rattle.std.proofs.lemmas.Result.{IfOk-weaker}
use Rattle.archive_counts.specs.Rows.{AreRowsOf}
use Rattle.archive_counts.proofs.RowLists.{row_of, rows_of}
use Rattle.archive_counts.proofs.table.Table.into_rows.Goals as goal

pub returns : goal.returns
returns c =
    let t = c.args.self in
    IfOk-weaker c.collect.result (λ v. v.items ≡ map row_of t.rows.entries) (λ v. AreRowsOf t v.items)
    (λ v is. subst (AreRowsOf t) (sym is) (rows_of t c.into_iter.ensures.into_iter_gives.5)) (search rules)
