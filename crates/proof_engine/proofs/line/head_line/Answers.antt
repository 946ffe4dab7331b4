use Rattle.std.proofs.Common.{◌≡◌, ◌≤◌, ◌∷◌, [], ◌++◌, List, ℕ, length, sym, ap, subst, ◌∙◌, arith}
use Rattle.std.proofs.Common.{length-append, append_assoc}
use Rattle.std.specs.Prelude.{decimal}
use Rattle.proof_engine.proofs.line.head_line.Goals as goal

pub returns : goal.returns
returns c =
    let number : List ℕ = c.as_bytes.result.now in
    let text : number ≡ decimal c.args.head.now.size = c.as_bytes.ensures.value ∙ c.format.ensures.text in
    let short : length number ≤ 20 =
    subst (λ (l : List ℕ). length l ≤ 20) (sym c.as_bytes.ensures.value) c.format.ensures.fits in
    let none : length c.new-line.result.items ≡ 0 = ap (λ (l : List ℕ). length l) c.new-line.ensures in
    let first : c.append.new.line.items ≡ number =
    c.append.ensures (omega arith) ∙ ap (λ (l : List ℕ). l ++ number) c.new-line.ensures in
    let one : length c.append.new.line.items ≤ 20 = subst (λ (l : List ℕ). length l ≤ 20) (sym first) short in
    let second : c.append-2.new.line.items ≡ number ++ 32 ∷ [] =
    c.append-2.ensures (omega arith) ∙ ap (λ (l : List ℕ). l ++ 32 ∷ []) first in
    let two : length c.append-2.new.line.items ≤ 21 =
    omega (arith, ap (λ (l : List ℕ). length l) second, length-append number (32 ∷ []), short) in
    let third : c.append-3.new.line.items ≡ number ++ 32 ∷ [] ++ c.hexadecimal.result =
    c.append-3.ensures (omega (arith, two, c.hexadecimal.ensures.size))
    ∙ ap (λ (l : List ℕ). l ++ c.hexadecimal.result) second in
    let three : length c.append-3.new.line.items ≤ 85 =
    omega (
      arith,
      ap (λ (l : List ℕ). length l) third,
      length-append (number ++ 32 ∷ []) c.hexadecimal.result,
      length-append number (32 ∷ []),
      short,
      c.hexadecimal.ensures.size,
    ) in
    let whole : c.append-4.new.line.items ≡ number ++ 32 ∷ [] ++ c.hexadecimal.result ++ 10 ∷ [] =
    c.append-4.ensures (omega arith) ∙ ap (λ (l : List ℕ). l ++ 10 ∷ []) third in
    whole ∙ ap (λ (l : List ℕ). l ++ 10 ∷ []) (append_assoc number (32 ∷ []) c.hexadecimal.result
    ∙ ap (λ (n : List ℕ). n ++ 32 ∷ c.hexadecimal.result) text
    ∙ ap (λ (h : List ℕ). decimal c.args.head.now.size ++ 32 ∷ h) c.hexadecimal.ensures.value)
