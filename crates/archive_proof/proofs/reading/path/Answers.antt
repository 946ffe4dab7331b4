use Rattle.std.proofs.Common.{◌≡◌, ◌++◌, List, ℕ, length, sym, ap, ◌∙◌, arith}
use Rattle.archive_proof.proofs.Readings.{path_text_is, same_path}
use Rattle.archive_proof.proofs.reading.path.Goals as goal

pub returns-in_err-rest : goal.returns-in_err-rest
returns-in_err-rest c =
    λ p rest ok is.
    let hs : List (List ℕ) = p.hashes.items in
    let a = c.in_ok-index.ensures p.index _ (omega arith) ok.index (is ∙ path_text_is p rest) in
    let b = c.in_ok-count.ensures (length hs) _ (omega arith) (omega (arith, ok.number)) a.1 in
    let none : length c.new-path.result.hashes.items ≡ 0 = ap (λ (l : List (List ℕ)). length l)
    c.new-path.ensures.empty in
    absurd (c.in_err-rest.ensures hs rest (sym b.0) (omega (arith, none, ok.number)) ok.hashes b.1)

pub returns : goal.returns
returns c =
    λ p rest ok is.
    let hs : List (List ℕ) = p.hashes.items in
    let a = c.in_ok-index.ensures p.index _ (omega arith) ok.index (is ∙ path_text_is p rest) in
    let b = c.in_ok-count.ensures (length hs) _ (omega arith) (omega (arith, ok.number)) a.1 in
    let none : length c.new-path.result.hashes.items ≡ 0 = ap (λ (l : List (List ℕ)). length l)
    c.new-path.ensures.empty in
    let d = c.in_ok-rest.ensures hs rest (sym b.0) (omega (arith, none, ok.number)) ok.hashes b.1 in (
      same_path _ p (c.new-path.ensures.index ∙ a.0)
          (d.0 ∙ ap (λ (l : List (List ℕ)). l ++ hs) c.new-path.ensures.empty),
      d.1,
    )
