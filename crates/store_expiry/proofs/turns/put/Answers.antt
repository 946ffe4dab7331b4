use Rattle.std.proofs.Common.{List, ℕ, ◌∷◌, ◌++◌, [], subst, sym}
use Rattle.store_expiry.specs.Turns.{ArePartedIn}
use Rattle.store_expiry.proofs.Turning.{day_more, other_more}
use Rattle.store_expiry.proofs.turns.put.Goals as goal

pub returns-then-is_day : goal.returns-then-is_day
returns-then-is_day c names new parted =
    subst (λ (l : List (List ℕ)). ArePartedIn (names ++ c.args.name ∷ []) l c.args.others.now.items)
    (sym c.in_ok-push.ensures.items)
    (day_more names c.args.days.now.items c.args.others.now.items c.args.name new parted)

pub returns : goal.returns
returns c names new parted =
    subst (ArePartedIn (names ++ c.args.name ∷ []) c.args.days.now.items)
    (sym c.in_ok-push-2.ensures.items)
    (other_more names c.args.days.now.items c.args.others.now.items c.args.name new parted)
