use Rattle.std.proofs.Common.{subst, sym}
use Rattle.ledger.specs.Words.{IsWord}
use Rattle.ledger.proofs.WordLemmas.{first_is, not_both, word_free}
use Rattle.ledger.proofs.words.read_word.Goals as goal

pub returns-then-not-is_word : goal.returns-then-not-is_word
returns-then-not-is_word c =
    λ w rest h e.
    let same = first_is c.args.text.now c.in_ok-word.word.now c.in_ok-word.rest.now w rest c.in_ok-word.ensures.0
    c.in_ok-word.ensures.1 (word_free c.args.most w h) e in
    not_both c.is_word.result c.if-not-is_word.true
    (c.is_word.ensures.1 (subst (IsWord c.args.most) (sym same.0) h))
