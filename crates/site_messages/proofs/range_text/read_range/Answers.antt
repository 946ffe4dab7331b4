use Rattle.std.proofs.lemmas.Result.{err_from_is_err_and}
use Rattle.std.specs.Prelude.{codes}
use Rattle.site_messages.specs.Texts.{IsBounds, bounds_text}
use Rattle.site_messages.specs.Views.{range_of}
use Rattle.site_messages.proofs.RangeLemmas.{behind_word, reads_behind}
use Rattle.site_messages.proofs.Wholes.{first_gap}
use Rattle.site_messages.proofs.range_text.read_range.Goals as goal

pub returns-in_err-rest : goal.returns-in_err-rest
returns-in_err-rest c =
    let p = err_from_is_err_and c.from_residual.result c.from_residual.ensures.1 in
    rw (p.1, p.2) (first_gap _ _ _ _ _ _ _ _ (behind_word IsBounds bounds_text (codes "range ")) c.args.octets.now
    c.in_err-rest.field-0.0 c.in_err-rest.ensures)

pub returns : goal.returns
returns c =
    reads_behind IsBounds bounds_text (codes "range ") (λ x. range_of x.0) (λ x. x.1.now) c.args.octets.now c.in_ok-rest.rest.now
    c.read_bounds.result c.in_ok-rest.ensures c.read_bounds.ensures
