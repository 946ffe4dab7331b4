use Rattle.std.proofs.Common.{List, ℕ, ◌+◌, ◌∷◌, ◌++◌, [], subst, sym, take, ap, ◌∙◌}
use Rattle.std.proofs.lemmas.List.{get_or_default}
use Rattle.store_expiry.specs.Turns.{AreOnce}
use Rattle.store_expiry.proofs.Turning.{once_more, once_still}
use Rattle.store_expiry.proofs.turns.put_once.Goals as goal

pub returns-then-is_repeated : goal.returns-then-is_repeated
returns-then-is_repeated c up once =
    once_still c.args.names.now c.args.each.now.items c.args.at c.requires once
    (c.is_repeated.ensures.same c.if-is_repeated.true)

pub returns : goal.returns
returns c up once =
    let names = c.args.names.now in
    let each = c.args.each.now.items in
    subst (AreOnce (take (c.args.at + 1) names))
    (sym (c.in_ok-push.ensures.items ∙ ap (λ (n : List ℕ). each ++ n ∷ [])
    (c.in_ok-copy.ensures ∙ c.index-names-at.is
    ∙ get_or_default names c.args.at c.index-names-at.result [] c.requires)))
    (once_more names each c.args.at c.requires once (c.is_repeated.ensures.other c.if-is_repeated.false up))
