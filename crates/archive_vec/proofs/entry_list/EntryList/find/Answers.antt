use Rattle.std.proofs.Common.{◌≡◌, ◌-◌, ◌+◌, take, drop, arith, subst}
use Rattle.std.proofs.lemmas.List.{drop_all}
use Rattle.std.specs.List.{AllByRecursion}
use Rattle.archive_text.specs.Entries.{IsBelow}
use Rattle.archive_text.specs.EntryViews.{entry_of}
use Rattle.archive_vec.proofs.Finding.{below_up_to, above_from}
use Rattle.archive_vec.proofs.entry_list.EntryList.find.Goals as goal

pub find_between-requires-clause-above : goal.find_between-requires-clause-above
find_between-requires-clause-above c = above_from _ _ _ _ c.len-len.ensures.archive.ascending c.at.ensures
    c.in-Greater.ensures

pub returns-in-Less : goal.returns-in-Less
returns-in-Less c =
    let len = c.len-len.result in
    let es = c.args.self.now in
    let e = entry_of c.args.entry.now in
    let whole : (len - 1) + 1 ≡ len = omega (arith, c.if-len-eq0.false) in
    let none : drop len es ≡ _ = drop_all len es (omega arith) in
    record {
      within = omega arith;
      below = subst (λ n. AllByRecursion (λ x. IsBelow x e) (take n es)) whole
          (below_up_to _ _ _ _ c.len-len.ensures.archive.ascending c.at.ensures c.in-Less.ensures);
      above = rw none tt;
    }
