use Rattle.std.proofs.Common.{arith}
use Rattle.std.proofs.lemmas.Result.{err_from_is_err_and}
use Rattle.octet_devices.proofs.Putting.{puts_nothing}
use Rattle.archive_pages.specs.Spans.{blocks_of}
use Rattle.archive_pages.proofs.Writings.{page_lies, pages_all, pages_fail, pages_put}
use Rattle.archive_pages.proofs.writing.put_pages.Goals as goal

pub put_page-requires : goal.put_page-requires
put_page-requires g c =
    page_lies (blocks_of c.args.arena.now) c.args.pages.now c.loop-page.page-index c.page-item.result c.deref.result.now
    c.loop-page-test.true c.page-item.is c.deref.ensures.value c.requires

pub loop-page-init : goal.loop-page-init
loop-page-init g c = puts_nothing _ _

pub returns-in_err-put_page : goal.returns-in_err-put_page
returns-in_err-put_page g c =
    let p = err_from_is_err_and c.from_residual.result c.from_residual.ensures.1 in
    rw (p.1, p.2) (pages_fail (blocks_of c.args.arena.now) c.args.pages.now c.loop-page.page-index c.page-item.result
    c.deref.result.now _ _ _ _ _ _ c.loop-page-test.true c.page-item.is c.deref.ensures.value c.loop-page.invariant
    c.in_err-put_page.ensures)

pub loop-page-preserved : goal.loop-page-preserved
loop-page-preserved g c =
    pages_put (blocks_of c.args.arena.now) c.args.pages.now c.loop-page.page-index c.page-item.result
    c.deref.result.now _ _ _ _ _ _ c.loop-page-test.true c.page-item.is c.deref.ensures.value c.loop-page.invariant
    c.in_ok-put_page.ensures

pub returns : goal.returns
returns g c =
    pages_all _ c.args.pages.now c.loop-page.page-index _ _ _ _ (omega arith) c.loop-page.invariant
