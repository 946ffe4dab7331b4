use Rattle.std.proofs.Common.{◌∙◌, refl, sym, length, ◌-◌}
use Rattle.std.proofs.lemmas.Slice.Eq.{bytes_eq-Decides}
use Rattle.record_store.proofs.Hiding.{ends_sealed, sealed_ends}
use Rattle.record_store.proofs.sealing.is_sealed.Goals as goal

pub returns : goal.returns
returns c =
    let body = c.args.body.now in
    let text = c.split_at.result.0.now in
    let behind = c.split_at.result.1.now in
    let decides = bytes_eq-Decides behind c.as_slice.result.now in
    let seal = c.as_slice.ensures ∙ c.seal.ensures in (
      λ yes. ends_sealed body text behind (length body - 9) c.split_at.ensures.front c.split_at.ensures.back
          (decides.0 (sym c.eq.ensures ∙ yes) ∙ seal),
      λ is. c.eq.ensures
          ∙ decides.1 (sealed_ends body text behind (length body - 9) refl c.split_at.ensures.front
          c.split_at.ensures.back is ∙ sym seal),
    )
