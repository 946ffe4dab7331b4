use Rattle.std.proofs.Common.{◌∙◌, append-nil, arith}
use Rattle.archive_pages.proofs.PageLists.{split_upper}
use Rattle.archive_pages.proofs.page.split.Goals as goal

pub returns-clause-spans : goal.returns-clause-spans
returns-clause-spans c =
    split_upper c.args.page.now c.args.at 128 c.args.span c.in_ok-lower-2.lower.items c.in_ok-upper-2.upper.items
    c.insert-2.new.self.items (omega arith) (omega arith)
    (c.in_ok-lower-2.ensures ∙ append-nil _ ∙ c.split_at-2.ensures.front)
    (c.in_ok-upper-2.ensures ∙ append-nil _ ∙ c.split_at-2.ensures.back) c.in_ok-insert-2.ensures.items
