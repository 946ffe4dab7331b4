use Rattle.std.proofs.Common.{List, refl, ◌≡◌, subst, ℕ}
use Rattle.std.proofs.lemmas.Result.{err_from_is_err_and}
use Rattle.ledger.specs.Readings.{AddsLine, IsNoLine}
use Rattle.ledger.specs.declared.reader.Reading.{Reading}
use Rattle.ledger.proofs.ReadingLemmas.{line_faults, line_taken}
use Rattle.ledger.proofs.reader.Reading.take_line.Goals as goal

pub returns-in_err-add : goal.returns-in_err-add
returns-in_err-add c =
    let p = err_from_is_err_and c.from_residual.result c.from_residual.ensures.1 in
    let old = c.args.self.now in
    let same : c.deref.result.now ≡ c.args.self.now.line.items = c.deref.ensures.value in
    let none = subst (λ (l : List ℕ). IsNoLine c.args.self.now.read l c.in_err-add.field-0.0) same
    (c.in_err-add.ensures {u = tt}) in
    rw (p.1, p.2) (line_faults c.args.self.now c.in_err-add.field-0.0 none)

pub returns : goal.returns
returns c =
    let new : Reading = record { read = c.add.new.self; line = c.clear.new.self; against = c.args.self.now.against } in
    let same : c.deref.result.now ≡ c.args.self.now.line.items = c.deref.ensures.value in
    let adds = subst (λ (l : List ℕ). AddsLine c.args.self.now.read c.add.new.self c.args.self.now.against l) same
    (c.in_ok-add.ensures {u = tt}) in
    (refl, λ text h. line_taken c.args.self.now new text refl adds c.clear.ensures.items h)
