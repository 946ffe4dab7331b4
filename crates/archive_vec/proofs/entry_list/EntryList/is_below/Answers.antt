use Rattle.std.proofs.Common.{refl}
use Rattle.std.proofs.lemmas.Bool.{false≢true}
use Rattle.archive_text.specs.Entries.{IsBelow}
use Rattle.archive_text.specs.EntryViews.{entry_of}
use Rattle.archive_text.proofs.Orders.{below_is_less}
use Rattle.archive_vec.proofs.Finding.{all_at, all_below}
use Rattle.archive_vec.proofs.entry_list.EntryList.is_below.Goals as goal

pub returns-in-Less : goal.returns-in-Less
returns-in-Less c =
    let all = all_below _ _ _ _ c.len-len.ensures.archive.ascending c.len-len.ensures.value c.if-len-eq0.false
    c.at.ensures c.in-Less.ensures in
    (λ _. all, λ _. refl)

pub returns-in_default : goal.returns-in_default
returns-in_default c =
    let e = entry_of c.args.entry.now in (
      λ t. absurd (false≢true t),
      λ all. absurd (c.in_default.not-Less (below_is_less _ _ _ c.compare.ensures
          (all_at (λ x. IsBelow x e) _ _ _ all c.at.ensures))),
    )
