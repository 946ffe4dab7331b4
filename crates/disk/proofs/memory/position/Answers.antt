use Rattle.std.proofs.Common.{◌∙◌, sym}
use Rattle.std.proofs.lemmas.Slice.Eq.{slice_eq-Decides}
use Rattle.std.proofs.lemmas.Bool.Decides.{Decides-eqb}
use Rattle.disk.proofs.Lookups.{position_more}
use Rattle.disk.proofs.memory.position.Goals as goal

pub loop-i-preserved : goal.loop-i-preserved
loop-i-preserved c =
    position_more c.args.entries.now c.loop-i.i c.index-entries-i.result c.args.name.now c.loop-i-test.true
    c.index-entries-i.is c.loop-i.invariant
    (λ is. absurd (cc (
      (slice_eq-Decides Decides-eqb _ _ _ c.eq.ensures).1
          (c.as_octets.ensures.value ∙ is ∙ sym c.as_octets-in-loop-i.ensures.value),
      c.if-eq.false,
    )))
