use Rattle.std.proofs.Common.{ℕ, List, get_or, ◌∙◌, ap}
use Rattle.std.proofs.lemmas.List.{get_or-set_other}
use Rattle.disk.proofs.Leaving.{none_at}
use Rattle.disk.proofs.memory_file.spoil_at.Goals.{then-place-octets, else-place-octets}
use Rattle.disk.proofs.memory_file.spoil_at.Goals as goal

pub loop-place-preserved : goal.loop-place-preserved
loop-place-preserved c k none =
    let apart = none_at c.args.places.now c.loop-place.place-index k 0 c.loop-place-test.true none in
    elim c.if-place-octets.branch [
      | then-place-octets w ↦
          ap (λ (l : List ℕ). get_or l k 0) w.octets-is
          ∙ get_or-set_other c.loop-place.octets (get_or c.args.places.now c.loop-place.place-index 0) k c.args.octet 0
          apart
          ∙ c.loop-place.invariant k none
      | else-place-octets w ↦ ap (λ (l : List ℕ). get_or l k 0) w.octets-is ∙ c.loop-place.invariant k none
    ]
