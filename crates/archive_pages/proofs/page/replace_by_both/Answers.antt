use Rattle.archive_pages.proofs.PageLists.{replaced}
use Rattle.archive_pages.proofs.page.replace_by_both.Goals as goal

pub returns-clause-ok : goal.returns-clause-ok
returns-clause-ok c = replaced c.args.pages.now.items c.insert.new.self.items c.args.k c.args.lower c.args.upper
    c.requires c.in_ok-insert.ensures.items
