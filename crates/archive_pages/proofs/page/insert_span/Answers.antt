use Rattle.std.proofs.Common.{ap, arith, length, sym, subst}
use Rattle.std.proofs.lemmas.Result.{on_ok_weaker}
use Rattle.archive_pages.specs.Pages.{HaveSizes}
use Rattle.archive_pages.specs.Spans.{lists_of}
use Rattle.archive_pages.proofs.Blocks.{list_at}
use Rattle.archive_pages.proofs.PageLists.{either_way, joined_more, on_err, sizes_more, split_joined, split_sizes}
use Rattle.archive_pages.proofs.PageLists.{unchanged}
use Rattle.archive_pages.proofs.page.insert_span.Goals as goal

pub returns-in_err-insert-clause-err : goal.returns-in_err-insert-clause-err
returns-in_err-insert-clause-err c =
    on_err c.from_residual.result
    (unchanged c.args.pages.now.items c.args.k c.index_mut.result.now c.insert.new.self c.requires.page_in
    c.index_mut.ensures.value c.in_err-insert.ensures.items)

pub returns-in_err-insert-clause-sizes : goal.returns-in_err-insert-clause-sizes
returns-in_err-insert-clause-sizes c =
    subst HaveSizes
    (sym (unchanged c.args.pages.now.items c.args.k c.index_mut.result.now c.insert.new.self c.requires.page_in
    c.index_mut.ensures.value c.in_err-insert.ensures.items))
    c.requires.sizes

pub returns-then-len-lt-PAGE_MAX-clause-ok : goal.returns-then-len-lt-PAGE_MAX-clause-ok
returns-then-len-lt-PAGE_MAX-clause-ok c =
    joined_more c.args.pages.now.items c.args.k c.args.at c.args.span c.index_mut.result.now c.insert.new.self
    c.requires.page_in c.index_mut.ensures.value c.in_ok-insert.ensures.items

pub returns-then-len-lt-PAGE_MAX-clause-sizes : goal.returns-then-len-lt-PAGE_MAX-clause-sizes
returns-then-len-lt-PAGE_MAX-clause-sizes c =
    let page = ap length (list_at c.args.pages.now.items c.args.k c.index.result.now c.requires.page_in c.index.ensures)
    in
    sizes_more c.args.pages.now.items c.args.k c.args.at c.args.span c.index_mut.result.now c.insert.new.self
    c.requires.page_in c.index_mut.ensures.value c.in_ok-insert.ensures.items
    c.requires.at_in (omega (arith, page, c.index.result.now.ok.0, c.len.ensures, c.if-len-lt-PAGE_MAX.true))
    c.requires.sizes

pub returns-clause-ok : goal.returns-clause-ok
returns-clause-ok c =
    on_ok_weaker c.replace_by_both.result
    (split_joined c.args.pages.now.items c.args.k c.args.at c.args.span c.index-2.result.now c.deref.result.now
    c.in_ok-lower.lower.items c.in_ok-lower.upper.items c.requires.page_in
    c.index-2.ensures c.deref.ensures.value c.in_ok-lower.ensures.spans (lists_of c.replace_by_both.new.pages.items))
    c.replace_by_both.ensures.ok

pub returns-clause-sizes : goal.returns-clause-sizes
returns-clause-sizes c =
    either_way c.replace_by_both.result c.replace_by_both.ensures.ok c.replace_by_both.ensures.err
    (split_sizes (lists_of c.args.pages.now.items) (lists_of c.replace_by_both.new.pages.items) c.args.k
    c.in_ok-lower.lower.items c.in_ok-lower.upper.items c.in_ok-lower.ensures.lower
    c.in_ok-lower.ensures.upper c.requires.sizes)
    (λ same. subst (λ vs. HaveSizes (lists_of vs)) (sym same) c.requires.sizes)
