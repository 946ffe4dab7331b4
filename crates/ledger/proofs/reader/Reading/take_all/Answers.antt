use Rattle.std.proofs.Common.{◌≡◌, ◌∷◌, ◌++◌, ◌∙◌, List, ℕ, ap, drop, drop-cons, get_or, subst, suc, sym, take}
use Rattle.std.proofs.lemmas.List.{take-append-drop}
use Rattle.std.proofs.lemmas.Result.{err_from_is_err_and}
use Rattle.ledger.specs.Readings.{HasTaken, IsBroken, TellsBreak}
use Rattle.ledger.proofs.ReadingLemmas.{breaks_more}
use Rattle.ledger.proofs.reader.Reading.take_all.Goals as goal

pub returns-in_err-take : goal.returns-in_err-take
returns-in_err-take c =
    let p = err_from_is_err_and c.from_residual.result c.from_residual.ensures.1 in
    let octets = c.args.octets.now in
    let i = c.loop-octet.octet-index in
    let parts : take i octets ++ get_or octets i 0 ∷ drop (suc i) octets ≡ octets =
    ap (λ (l : List ℕ). take i octets ++ l) (sym (drop-cons octets i 0 c.loop-octet-test.true)) ∙ take-append-drop i octets
    in
    rw (p.1, p.2)
    (subst (λ (l : List ℕ). TellsBreak c.in_err-take.field-0.0
    (λ at. (text more : List ℕ) → HasTaken c.args.self.now text → IsBroken ((text ++ l) ++ more) at)) parts
    (breaks_more c.args.self.now c.loop-octet.self (take i octets) (drop (suc i) octets) (get_or octets i 0)
    c.in_err-take.field-0.0 c.loop-octet.invariant (c.in_err-take.ensures {u = tt})))
