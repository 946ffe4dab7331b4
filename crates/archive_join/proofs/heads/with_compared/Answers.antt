use Rattle.std.proofs.Common.{◌≡◌, ◌∙◌, false, ap, get_or, subst, take}
use Rattle.std.proofs.lemmas.List.{get_or_default}
use Rattle.archive_text.specs.EntryViews.{entry_of}
use Rattle.archive_join.specs.Heads.{IsAt, IsFoundIn}
use Rattle.archive_join.specs.declared.head.Head.{Head}
use Rattle.archive_join.proofs.Leasts.{found_closed, found_first, found_greater, found_less}
use Rattle.archive_join.proofs.heads.with_compared.Goals as goal

pub returns-then-heads-at : goal.returns-then-heads-at
returns-then-heads-at c =
    let hs = c.args.heads.now in
    let at = c.args.at in
    let h = get_or hs at c.index-heads-at.result in
    let is : IsAt hs at h = ap (λ (x : Head). get_or hs at x) c.index-heads-at.is in
    found_closed hs at c.args.least h c.requires.at is c.if-heads-at.true c.requires.found

pub returns-in_default : goal.returns-in_default
returns-in_default c =
    let hs = c.args.heads.now in
    let at = c.args.at in
    let h = get_or hs at c.index-heads-at.result in
    let is : IsAt hs at h = ap (λ (x : Head). get_or hs at x) c.index-heads-at.is in
    found_first hs at h c.requires.at is c.if-heads-at.false
    (subst (IsFoundIn hs (take at hs)) c.in_default.is c.requires.found)

pub returns-in-Less : goal.returns-in-Less
returns-in-Less c =
    let hs = c.args.heads.now in
    let at = c.args.at in
    let l = c.in-Some.before in
    let h = get_or hs at c.index-heads-at-2.result in
    let is : IsAt hs at h = ap (λ (x : Head). get_or hs at x) c.index-heads-at-2.is in
    let k = get_or hs l.at c.index-heads-before.result in
    let also : IsAt hs l.at k = ap (λ (x : Head). get_or hs l.at x) c.index-heads-before.is in
    let off : h.closed ≡ false =
    ap (λ (x : Head). x.closed) (get_or_default hs at c.index-heads-at-2.result c.index-heads-at.result c.requires.at)
    ∙ c.if-heads-at.false in
    let f = subst (IsFoundIn hs (take at hs)) c.in-Some.is c.requires.found in
    found_less hs at l h k (entry_of c.entry.result) (entry_of c.entry-2.result) c.requires.at is also off
    c.entry.ensures c.entry-2.ensures c.in-Less.ensures f

pub returns-in-Greater : goal.returns-in-Greater
returns-in-Greater c =
    let hs = c.args.heads.now in
    let at = c.args.at in
    let l = c.in-Some.before in
    let h = get_or hs at c.index-heads-at-2.result in
    let is : IsAt hs at h = ap (λ (x : Head). get_or hs at x) c.index-heads-at-2.is in
    let k = get_or hs l.at c.index-heads-before.result in
    let also : IsAt hs l.at k = ap (λ (x : Head). get_or hs l.at x) c.index-heads-before.is in
    let off : h.closed ≡ false =
    ap (λ (x : Head). x.closed) (get_or_default hs at c.index-heads-at-2.result c.index-heads-at.result c.requires.at)
    ∙ c.if-heads-at.false in
    let f = subst (IsFoundIn hs (take at hs)) c.in-Some.is c.requires.found in
    found_greater hs at l h k (entry_of c.entry.result) (entry_of c.entry-2.result) c.requires.at is also off
    c.entry.ensures c.entry-2.ensures c.in-Greater.ensures f
