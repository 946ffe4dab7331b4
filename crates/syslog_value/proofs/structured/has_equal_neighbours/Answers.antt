use Rattle.std.proofs.Common.{◌<◌, length, sym, ◌∙◌, arith}
use Rattle.std.proofs.lemmas.Slice.Eq.{bytes_eq-Decides}
use Rattle.syslog_value.proofs.Ids.{equal_from_reads}
use Rattle.syslog_value.proofs.structured.has_equal_neighbours.Goals as goal

pub returns-then-eq : goal.returns-then-eq
returns-then-eq c =
    let same = (bytes_eq-Decides c.id.result.now c.id-in-loop-offset.result.now).0 (sym c.eq.ensures ∙ c.if-eq.true) in
    let within : c.loop-offset.offset < length c.args.elements.now = omega arith in
    equal_from_reads _ c.loop-offset.offset _ _ c.loop-offset.auto.offset within c.index-elements-offset.is
    c.index-elements-offset-in-loop-offset.is
    (sym c.id.ensures.value ∙ same ∙ c.id-in-loop-offset.ensures.value)
