use Rattle.std.proofs.Common.{arith, ap, refl, ◌∙◌, get_or, [], ◌%◌, ◌<◌}
use Rattle.std.specs.List.{each_same}
use Rattle.std.proofs.lemmas.List.{get_or-replicate}
use Rattle.serve_engine.specs.Rows.{owed_in}
use Rattle.serve_engine.proofs.Rows.{free_row}
use Rattle.serve_engine.proofs.pace.Pace.new.Goals as goal

pub returns-clause-peers : goal.returns-clause-peers
returns-clause-peers c peer =
    let all = c.in_ok-rows.ensures.items_if_clones_equal (λ y same. each_same _ y same.whole) in
    let within : peer % 521 < 521 = omega arith in
    ap (λ rows. owed_in (get_or rows (peer % 521) []) 0 peer) all
    ∙ (ap (λ row. owed_in row 0 peer) (get_or-replicate 521 (peer % 521) _ [] within)
    ∙ free_row (record { peer = 0; clear_at = 0 }) 8 0 peer refl)
