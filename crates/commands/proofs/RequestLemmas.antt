-- What the words ask for is what the request says.
use Rattle.std.proofs.Common.{◌≡◌, ◌∙◌, sym, ap, subst, Option, Some}
use Rattle.command_line.specs.declared.request.Request.{Request}
use Rattle.command_line.specs.Requests.{Asked, asked_by}

same_asked : (asked : Request) (one other : Asked) (parses : Option Asked) → asked_by asked ≡ one
    → parses ≡ Some (asked_by asked) → parses ≡ Some other → Some one ≡ Some other
same_asked asked one other parses is f g = ap (λ (a : Asked). Some a) (sym is) ∙ sym f ∙ g

-- what holds of what the request asks for holds of what the words ask for
pub of_asked : (P : Asked → Type 0) (asked : Request) (one other : Asked) (parses : Option Asked) → asked_by asked ≡ one
    → parses ≡ Some (asked_by asked) → parses ≡ Some other → P one → P other
of_asked P asked one other parses is f g h =
    let same : Some one ≡ Some other = same_asked asked one other parses is f g in
    let e : one ≡ other = cc in
    subst P e h
