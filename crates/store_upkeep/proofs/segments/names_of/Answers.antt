use Rattle.std.proofs.Common.{List, ℕ, subst}
use Rattle.std.specs.Prelude.{Contains}
use Rattle.record_store.specs.Names.{IsSegment}
use Rattle.store_reading.proofs.Whole.{if_ok_more}
use Rattle.store_upkeep.specs.Compaction.{AreDayNames}
use Rattle.store_upkeep.proofs.segments.names_of.Goals as goal

pub returns : goal.returns
returns c =
    let names = c.args.names.now in
    let some = c.of.result.now in
    let period = c.args.period.now in
    let all = subst (λ (p : List ℕ). (name : List ℕ) → Contains names name → IsSegment p name → Contains some name)
    c.as_octets.ensures.name c.of.ensures.all in
    if_ok_more c.names_of_day.result (λ v. AreDayNames some period v.items) (λ v. AreDayNames names period v.items)
    (λ v found. record {
      are = found.are;
      all = λ name has segment. found.all name (all name has segment) segment;
    }) c.names_of_day.ensures
