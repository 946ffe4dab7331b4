use Rattle.std.proofs.Common.{◌≡◌, ◌≤◌, ◌∷◌, [], ◌++◌, List, ℕ, length, sym, ap, subst, ◌∙◌, arith, length-append}
use Rattle.std.specs.Prelude.{codes, decimal}
use Rattle.proof_engine.proofs.line.trailing_line.Goals as goal

pub returns : goal.returns
returns c =
    let number : List ℕ = c.as_bytes.result.now in
    let text : number ≡ decimal c.args.at = c.as_bytes.ensures.value ∙ c.format.ensures.text in
    let short : length number ≤ 20 =
    subst (λ (l : List ℕ). length l ≤ 20) (sym c.as_bytes.ensures.value) c.format.ensures.fits in
    let none : length c.new-told.result.items ≡ 0 = ap (λ (l : List ℕ). length l) c.new-told.ensures in
    let first : c.append.new.line.items ≡ codes "trailing " =
    c.append.ensures (omega arith) ∙ ap (λ (l : List ℕ). l ++ codes "trailing ") c.new-told.ensures in
    let one : length c.append.new.line.items ≡ 9 = ap (λ (l : List ℕ). length l) first in
    let second : c.append-2.new.line.items ≡ codes "trailing " ++ number =
    c.append-2.ensures (omega arith) ∙ ap (λ (l : List ℕ). l ++ number) first in
    let two : length c.append-2.new.line.items ≤ 29 =
    omega (arith, ap (λ (l : List ℕ). length l) second, length-append (codes "trailing ") number, short) in
    c.append-3.ensures (omega arith) ∙ ap (λ (l : List ℕ). l ++ 10 ∷ []) second
    ∙ ap (λ (n : List ℕ). codes "trailing " ++ n ++ 10 ∷ []) text
