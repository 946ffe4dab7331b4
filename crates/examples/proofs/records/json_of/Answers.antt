use Rattle.std.proofs.Common.{List, ℕ, subst}
use Rattle.record_json.specs.Texts.{AddsLine}
use Rattle.examples.proofs.records.json_of.Goals as goal

pub returns : goal.returns
returns c =
    subst (λ (u : List ℕ). AddsLine c.args.octets.now u c.put_json_line.new.out.items) c.new-line.ensures.items
    (c.in_ok-put_json_line.ensures.ok c.args.octets.now c.in-Ok.ensures.whole)
