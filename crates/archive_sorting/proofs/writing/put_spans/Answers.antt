use Rattle.std.proofs.Common.{arith, refl, ◌≤◌}
use Rattle.std.proofs.lemmas.Result.{err_from_is_err_and}
use Rattle.archive_sorting.specs.Spans.{blocks_of}
use Rattle.archive_sorting.proofs.Writings.{part_fails, part_puts}
use Rattle.archive_sorting.proofs.writing.put_spans.Goals as goal

pub returns-in_err-put_part : goal.returns-in_err-put_part
returns-in_err-put_part g c =
    let p = err_from_is_err_and c.from_residual.result c.from_residual.ensures.1 in
    let order : c.parts.from ≤ c.min-to.result =
    omega (arith, c.min-to.ensures, c.saturating_add.ensures, c.parts.invariant.near, c.parts.auto.from-fits) in
    rw (p.1, p.2) (part_fails (blocks_of c.args.arena.now) c.args.spans.now c.parts.from c.min-to.result _ _ _ _ _ _ _
    order refl c.parts.invariant.put c.in_err-put_part.ensures)

pub parts-preserved : goal.parts-preserved
parts-preserved g c =
    let order : c.parts.from ≤ c.min-to.result =
    omega (arith, c.min-to.ensures, c.saturating_add.ensures, c.parts.invariant.near, c.parts.auto.from-fits) in
    record {
      near = omega (arith, c.min-to.ensures);
      put = part_puts (blocks_of c.args.arena.now) c.args.spans.now c.parts.from c.min-to.result _ _ _ _ _ _ _ order refl
          c.parts.invariant.put c.in_ok-put_part.ensures;
    }
