use Rattle.std.proofs.Common.{arith}
use Rattle.std.specs.Prelude.{[], slice_index_or}
use Rattle.std.proofs.lemmas.Result.{err_from_is_err_and}
use Rattle.octet_devices.proofs.Putting.{put_fails_before}
use Rattle.archive_sorting.specs.Spans.{blocks_of}
use Rattle.archive_sorting.proofs.Writings.{read_at, spare}
use Rattle.archive_sorting.proofs.Writings.{page_fails, page_put, page_puts}
use Rattle.archive_sorting.proofs.writing.put_part.Goals as goal

pub returns-in_err-begin_part : goal.returns-in_err-begin_part
returns-in_err-begin_part g c =
    let p = err_from_is_err_and c.from_residual.result c.from_residual.ensures.1 in
    rw (p.1, p.2) (put_fails_before _ _ _ [] _ _ c.in_err-begin_part.ensures)

pub loop-span-init : goal.loop-span-init
loop-span-init g c = c.in_ok-begin_part.ensures

pub returns-in_err-put_entry : goal.returns-in_err-put_entry
returns-in_err-put_entry g c =
    let page = c.args.part.now in
    let at = c.loop-span.span-index in
    let p = err_from_is_err_and c.from_residual-in_err-put_entry.result c.from_residual-in_err-put_entry.ensures.1 in
    rw (p.1, p.2) (page_fails (blocks_of c.args.arena.now) page at (slice_index_or page at spare) _ _ _ _ _ _ _
    c.loop-span-test.true (read_at page at c.loop-span-test.true) c.octets.ensures c.loop-span.invariant
    c.in_err-put_entry.ensures)

pub loop-span-preserved : goal.loop-span-preserved
loop-span-preserved g c =
    let page = c.args.part.now in
    let at = c.loop-span.span-index in
    page_puts (blocks_of c.args.arena.now) page at (slice_index_or page at spare) _ _ _ _ _ _ _ c.loop-span-test.true
    (read_at page at c.loop-span-test.true) c.octets.ensures c.loop-span.invariant c.in_ok-put_entry.ensures

pub returns : goal.returns
returns g c = page_put _ c.args.part.now c.loop-span.span-index _ _ _ _ (omega arith) c.loop-span.invariant
