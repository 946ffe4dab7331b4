use Rattle.std.proofs.Common.{inr, rules}
use Rattle.std.proofs.lemmas.Int.{to_z-of_z}
use mir.Syntax.{w64}
use Rattle.std.proofs.lemmas.Result.{MatchResult-weaker}
use Rattle.c_library.specs.Selecting.{Asked, IsConditionOf}
use Rattle.c_library.proofs.select.selection.Goals as goal

pub returns : goal.returns
returns c =
    let asked : Asked = record {
      from = c.in_ok-instant_of.field-0;
      to = c.in_ok-instant_of-2.field-0;
      undated = c.is_set.result;
      severity = c.in_ok-severity.severity;
    } in
    let of : IsConditionOf c.args.condition.now asked = record {
      from_is = rw (to_z-of_z w64 c.args.condition.now.from (search rules)) at c.in_ok-instant_of.ensures;
      to_is = rw (to_z-of_z w64 c.args.condition.now.to (search rules)) at c.in_ok-instant_of-2.ensures;
      undated_is = c.is_set.ensures;
      severity_is = c.in_ok-severity.ensures;
    } in
    MatchResult-weaker c.selected.result c.selected.ensures (λ v text. (asked, of, text)) (λ told why. inr (inr (inr why)))
