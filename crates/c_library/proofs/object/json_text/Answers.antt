use Rattle.std.proofs.Common.{◌≡◌, ℕ, ◌-◌, List, arith, subst, sym, take, ◌∙◌}
use Rattle.record_json.specs.Texts.{AddsLine}
use Rattle.c_library.proofs.Objects.{cut_line, on_ok}
use Rattle.c_library.proofs.object.json_text.Goals as goal

pub returns : goal.returns
returns c =
    let b = c.args.octets.now in
    let line = c.put_json_line.new.out in
    let adds = on_ok c.put_json_line.result (AddsLine b c.new-text.result.items line.items)
    (sym c.is_err.ensures.value ∙ c.if-is_err.false) (c.put_json_line.ensures.ok b c.in-Ok.ensures.whole) in
    cut_line b line.items c.pop.new.self.items (omega (arith, c.if-octets-gt-ENTRY_MAX.false))
    (subst (λ (u : List ℕ). AddsLine b u line.items) c.new-text.ensures.items adds)
    (subst (λ (n : ℕ). c.pop.new.self.items ≡ take (n - 1) line.items) line.ok.0 c.pop.ensures.rest)
