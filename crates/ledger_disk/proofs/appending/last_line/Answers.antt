use Rattle.std.proofs.Common.{◌≡◌, Bor, List, Option, None, Some, ℕ, arith, subst, sym}
use Rattle.std.specs.Prelude.{option_map}
use Rattle.std.proofs.lemmas.Grind.{common_steps}
use Rattle.ledger_disk.specs.Ledgers.{IsLastLine}
use Rattle.ledger_disk.proofs.Tails.{of_text}
use Rattle.ledger_disk.proofs.appending.last_line.Goals as goal

pub returns-in-None-clause-last : goal.returns-in-None-clause-last
returns-in-None-clause-last g c tells sound =
    of_text (g.D.Disk.state c.args.disk.now) c.args.ledger.now (λ text. IsLastLine text None)
    (c.in-Ok.ensures.there tells sound)
    (λ file is. subst (λ (o : Option (Bor (List ℕ))). IsLastLine file (option_map (λ l. l.now) o)) c.in-None.is
    (c.in_ok-last_line.ensures {u = tt} file (c.in-Ok.ensures.tail tells sound file is)))

pub returns-clause-last : goal.returns-clause-last
returns-clause-last g c tells sound =
    let items : c.in_ok-to_vec-in-Some.field-0.items ≡ c.in-Some.line.now = grind (arith, common_steps) in
    of_text (g.D.Disk.state c.args.disk.now) c.args.ledger.now
    (λ text. IsLastLine text (Some c.in_ok-to_vec-in-Some.field-0.items)) (c.in-Ok.ensures.there tells sound)
    (λ file is. subst (λ (l : List ℕ). IsLastLine file (Some l)) (sym items)
    (subst (λ (o : Option (Bor (List ℕ))). IsLastLine file (option_map (λ l. l.now) o)) c.in-Some.is
    (c.in_ok-last_line.ensures {u = tt} file (c.in-Ok.ensures.tail tells sound file is))))
