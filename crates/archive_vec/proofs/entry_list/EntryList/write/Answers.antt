use Rattle.std.proofs.Common.{arith}
use Rattle.std.proofs.lemmas.Result.{err_from_is_err_and}
use Rattle.archive_text.proofs.Puts.{puts_first}
use Rattle.archive_vec.proofs.Putting.{fails_at, puts_more, writes_all}
use Rattle.archive_vec.proofs.entry_list.EntryList.write.Goals as goal

pub loop-index-init : goal.loop-index-init
loop-index-init g c = puts_first _ _ c.new-held.ensures

pub returns-in_err-put_entry : goal.returns-in_err-put_entry
returns-in_err-put_entry g c =
    let p = err_from_is_err_and c.from_residual.result c.from_residual.ensures.1 in
    let len = c.len-index-end.ensures in
    rw (p.1, p.2) (fails_at _ _ _ _ c.args.self.now _ c.loop-index.index _ len.archive len.few c.at.ensures
    c.loop-index.invariant c.in_err-put_entry.ensures)

pub loop-index-preserved : goal.loop-index-preserved
loop-index-preserved g c =
    puts_more _ _ _ _ _ _ c.args.self.now _ c.loop-index.index c.at.ensures c.loop-index.invariant
    c.in_ok-put_entry.ensures

pub returns : goal.returns
returns g c =
    let len = c.len-index-end.ensures in
    writes_all _ _ _ _ _ _ c.args.self.now c.loop-index.index len.archive len.few (omega arith) c.loop-index.invariant
    c.finish.ensures.finishes
