use Rattle.std.proofs.Common.{arith}
use Rattle.std.proofs.lemmas.Result.{err_from_is_err_and}
use Rattle.record_choice.proofs.Puts.{fails_next, frames_counted, frames_fit, puts_next, writes_frames}
use Rattle.record_choice.proofs.last_frames.LastFrames.write.Goals as goal

pub returns-in_err-put_entry : goal.returns-in_err-put_entry
returns-in_err-put_entry g c =
    let self = c.args.self.now in
    let p = err_from_is_err_and c.from_residual.result c.from_residual.ensures.1 in
    rw (p.1, p.2) (fails_next _ _ _ _ self.frames.items c.index.result.now c.deref.result.now c.loop-index.index _
    (frames_fit self.frames.items self.most self.short (omega (arith, self.few, self.frames.ok)) self.range)
    (omega (arith, c.loop-index-test.true, c.len-index-end.ensures, self.frames.ok)) c.index.ensures c.deref.ensures.value
    c.loop-index.invariant c.in_err-put_entry.ensures)

pub loop-index-preserved : goal.loop-index-preserved
loop-index-preserved g c =
    let self = c.args.self.now in
    puts_next _ _ _ _ _ _ self.frames.items c.index.result.now c.deref.result.now c.loop-index.index
    (omega (arith, c.loop-index-test.true, c.len-index-end.ensures, self.frames.ok)) c.index.ensures c.deref.ensures.value
    c.loop-index.invariant c.in_ok-put_entry.ensures

pub returns : goal.returns
returns g c =
    let self = c.args.self.now in
    writes_frames c.finish.result _ _ _ _ _ _ c.loop-index.index
    (frames_fit self.frames.items self.most self.short (omega (arith, self.few, self.frames.ok)) self.range)
    (frames_counted self.frames.items c.loop-index.index
    (omega (arith, c.loop-index-test.false, c.len-index-end.ensures, self.frames.ok))) c.loop-index.invariant
    c.finish.ensures.finishes
