use Rattle.std.proofs.Common.{◌≡◌, ◌+◌, ◌-◌, List, ℕ, arith, drop, length, subst, sym, take}
use Rattle.std.proofs.lemmas.List.{length-drop, take_all}
use Rattle.ledger.specs.Words.{IsFree, word_and}
use Rattle.ledger.proofs.WordLemmas.{first_word, no_word}
use Rattle.ledger.proofs.words.cut.Goals as goal

pub returns-in_err-end : goal.returns-in_err-end
returns-in_err-end c =
    rw c.from_residual.ensures (λ w rest. no_word c.args.text.now w rest (c.in_err-end.ensures {u = tt}))

pub returns : goal.returns
returns c =
    let b = c.args.text.now in
    let at = c.in_ok-end.end in
    let found = first_word b at c.in_ok-end.ensures in
    let all : take (length b - (at + 1)) (drop (at + 1) b) ≡ drop (at + 1) b =
    take_all (length b - (at + 1)) (drop (at + 1) b) (omega (arith, length-drop (at + 1) b)) in
    subst (λ (r : List ℕ). IsFree (take at b) × (b ≡ word_and (take at b) r)) (sym all) found
