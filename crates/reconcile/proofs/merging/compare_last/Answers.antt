use Rattle.std.proofs.Common.{subst, sym}
use Rattle.archive_text.specs.Entries.{Entry, IsOrder}
use Rattle.archive_text.specs.EntryViews.{entry_of}
use Rattle.reconcile.specs.Merging.{IsLastOf}
use Rattle.reconcile.proofs.Merges.{last_order, last_split}
use Rattle.reconcile.proofs.merging.compare_last.Goals as goal

pub returns-in-len1-up-b : goal.returns-in-len1-up-b
returns-in-len1-up-b c =
    let xs = c.args.a.now in
    let ys = c.args.b.now in
    let x = c.x-item.result in
    let y = c.y-item.result in
    last_order c.compare.result xs ys x y c.requires.a c.requires.b
    (subst (IsLastOf xs) (sym c.x-item.is) (last_split xs x c.in-len1-up.len_at_least))
    (subst (IsLastOf ys) (sym c.y-item.is) (last_split ys y c.in-len1-up-b.len_at_least))
    (subst (λ (e : Entry). IsOrder c.compare.result e y) c.view.ensures
    (subst (λ (e : Entry). IsOrder c.compare.result (entry_of c.view.result) e) c.view-in-len1-up-b.ensures
    c.compare.ensures))
