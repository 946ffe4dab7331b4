use Rattle.std.proofs.Common.{rules, ◌≡◌, [], subst, sym}
use Rattle.std.specs.Prelude.{◌≢◌}
use Rattle.archive_text.specs.Entries.{Entry, IsBelow, IsOrder}
use Rattle.archive_text.specs.EntryViews.{entry_of}
use Rattle.archive_text.proofs.Orders.{below_asymmetric, below_irreflexive, equal_is_same, greater_is_above}
use Rattle.archive_streams.specs.EntryTexts.{entry_in}
use Rattle.archive_streams.proofs.entry.EntryText.is_above.Goals as goal

pub returns-in-Equal : goal.returns-in-Equal
returns-in-Equal c =
    let a = entry_in c.args.last.now in
    let b = entry_in c.args.self.now in
    let some : c.args.last.now.text.items ≢ [] = search rules in
    let order : IsOrder c.compare.result a b =
    subst (λ (e : Entry). IsOrder c.compare.result e b) c.view.ensures
    (subst (λ (e : Entry). IsOrder c.compare.result (entry_of c.view.result) e) c.view-2.ensures c.compare.ensures)
    in
    let same : a ≡ b = equal_is_same a b c.compare.result order c.in-Equal.is in
    (search rules, λ above. absurd (below_irreflexive a (subst (IsBelow a) (sym same) (above some))))

pub returns-in-Greater : goal.returns-in-Greater
returns-in-Greater c =
    let a = entry_in c.args.last.now in
    let b = entry_in c.args.self.now in
    let some : c.args.last.now.text.items ≢ [] = search rules in
    let order : IsOrder c.compare.result a b =
    subst (λ (e : Entry). IsOrder c.compare.result e b) c.view.ensures
    (subst (λ (e : Entry). IsOrder c.compare.result (entry_of c.view.result) e) c.view-2.ensures c.compare.ensures)
    in (
      search rules,
      λ above. absurd (below_asymmetric a b (above some)
          (greater_is_above a b c.compare.result order c.in-Greater.is)),
    )
