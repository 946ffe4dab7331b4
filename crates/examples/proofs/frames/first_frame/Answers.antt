use Rattle.std.proofs.Common.{List, ℕ, [], subst, sym}
use Rattle.examples.specs.Shown.{IsFirstFrame}
use Rattle.examples.proofs.frames.first_frame.Goals as goal

pub returns-in-Some-Frame : goal.returns-in-Some-Frame
returns-in-Some-Frame c =
    let stands = c.in-Ok.ensures.stands c.args.framing 0 [] c.in_ok-scanner.ensures.stands.0 in
    let ready =
    rw c.in-Some-Frame.field-0-is at c.in-Some-Frame.ensures.stands c.args.framing _ _ stands in
    subst (λ (f : List ℕ). IsFirstFrame c.args.framing c.args.piece.now f)
    (sym (c.in_ok-to_vec-in-Some-Frame.ensures.items_if_clones_equal (λ x y e. e)))
    (c.in-Ok._used, ready.0, ready.1)
