use Rattle.std.proofs.Common.{List, ℕ, ◌≡◌, inr, subst, sym}
use Rattle.record_store.specs.Names.{IsSegment}
use Rattle.store_reading.specs.Causes.{open_causes}
use Rattle.store_reading.proofs.Causing.{result_weaker}
use Rattle.store_upkeep.specs.Causes.{IsCounted, check_causes}
use Rattle.store_statistics.proofs.look.look_at.Goals as goal

pub returns-in-Some-clause-cause : goal.returns-in-Some-clause-cause
returns-in-Some-clause-cause g c =
    let failed = g.F.Folder.has_failed c.look_at_segment.new.folder in
    let name = c.args.name.now in
    let day = c.in-Some.period in
    let found = c.in-Some.ensures.some in
    let counted : IsCounted name = inr (day, found.0, subst (IsSegment day) c.as_octets.ensures.value found.1) in
    result_weaker (open_causes failed name) (check_causes failed (λ (n : List ℕ). (n ≡ name) × IsCounted n))
    (λ same. same) (λ n is. (is, subst IsCounted (sym is) counted)) (λ n damage none. none) (λ none. none)
    c.look_at_segment.result c.look_at_segment.ensures.cause
