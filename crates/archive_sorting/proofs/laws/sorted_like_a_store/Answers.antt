use Rattle.std.proofs.Common.{ap, sym, subst, List}
use Rattle.archive_text.specs.Entries.{Entry, Has}
use Rattle.archive_text.specs.Text.{text_of}
use Rattle.archive_text.specs.declared.limits.TheConstants.{ENTRY_MAX}
use Rattle.archive_laws.proofs.Held.{held_alike}
use Rattle.archive_sorting.proofs.laws.sorted_like_a_store.Goals as goal

pub returns-clause-entries : goal.returns-clause-entries
returns-clause-entries g c same =
    held_alike ENTRY_MAX ENTRY_MAX _ _ c.args.sorted.now.sorted (g.S.Store.archive c.args.store.now) same

pub returns-clause-texts : goal.returns-clause-texts
returns-clause-texts g c same = ap text_of
    (held_alike ENTRY_MAX ENTRY_MAX _ _ c.args.sorted.now.sorted (g.S.Store.archive c.args.store.now) same)

pub returns-clause-records : goal.returns-clause-records
returns-clause-records g c same = λ r e is. (
  λ has. subst (λ (xs : List Entry). Has xs e) same has,
  λ has. subst (λ (xs : List Entry). Has xs e) (sym same) has,
)
