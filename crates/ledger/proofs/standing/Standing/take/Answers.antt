use Rattle.std.proofs.Common.{◌≡◌, ◌∙◌, ap, refl}
use Rattle.std.specs.Prelude.{None, Some, Option}
use Rattle.ledger.specs.Lines.{said_of}
use Rattle.ledger.specs.Standings.{behind_line, listed_at}
use Rattle.ledger.specs.declared.standing.Listed.{Listed}
use Rattle.ledger.specs.declared.standing.Standing.{Standing}
use Rattle.ledger.proofs.StandingLemmas.{takes_line}
use Rattle.ledger.proofs.standing.Standing.take.Goals as goal

pub returns-in_default-clause-ok : goal.returns-in_default-clause-ok
returns-in_default-clause-ok c =
    let said = said_of c.args.entry.now in
    let t : Standing = record { segments = c.remove-gone.new.self; alloc = c.args.self.now.alloc } in
    let before : c.copied-before.result ≡ listed_at c.args.self.now said.name =
    c.copied-before.ensures ∙ c.get.ensures.value in
    takes_line c.args.self.now t c.args.number said said.name None refl c.remove-gone.ensures.updates
    (c.in_default.ensures {u = tt} ∙ ap (λ (o : Option Listed). behind_line o c.args.number said) before)

pub returns-clause-ok : goal.returns-clause-ok
returns-clause-ok c =
    let said = said_of c.args.entry.now in
    let t : Standing = record { segments = c.insert.new.self; alloc = c.args.self.now.alloc } in
    let before : c.copied-before.result ≡ listed_at c.args.self.now said.name =
    c.copied-before.ensures ∙ c.get.ensures.value in
    takes_line c.args.self.now t c.args.number said c.in_ok-from_slice.field-0.items (Some c.in-Some.listed)
    c.in_ok-from_slice.ensures.items c.in_ok-insert.ensures.updates
    (c.in-Some.ensures ∙ ap (λ (o : Option Listed). behind_line o c.args.number said) before)
