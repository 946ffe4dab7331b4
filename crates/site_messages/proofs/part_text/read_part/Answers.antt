use Rattle.std.proofs.lemmas.Result.{err_from_is_err_and}
use Rattle.std.specs.Prelude.{codes}
use Rattle.site_messages.specs.Texts.{IsPart, told_text}
use Rattle.site_messages.specs.Views.{part_of}
use Rattle.site_messages.proofs.RangeLemmas.{behind_word, reads_behind}
use Rattle.site_messages.proofs.Wholes.{first_gap}
use Rattle.site_messages.proofs.part_text.read_part.Goals as goal

pub returns-in_err-rest : goal.returns-in_err-rest
returns-in_err-rest c =
    let p = err_from_is_err_and c.from_residual.result c.from_residual.ensures.1 in
    rw (p.1, p.2) (first_gap _ _ _ _ _ _ _ _ (behind_word IsPart told_text (codes "part ")) c.args.octets.now
    c.in_err-rest.field-0.0 c.in_err-rest.ensures)

pub returns : goal.returns
returns c =
    reads_behind IsPart told_text (codes "part ") (λ x. part_of x.0) (λ x. x.1.now) c.args.octets.now c.in_ok-rest.rest.now
    c.read_told.result c.in_ok-rest.ensures c.read_told.ensures
