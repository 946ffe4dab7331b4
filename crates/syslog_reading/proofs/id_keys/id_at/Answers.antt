use Rattle.std.proofs.Common.{◌≡◌, ◌∙◌, ℕ, List, ap, arith, drop, length, min, subst}
use Rattle.std.proofs.lemmas.List.{drop_min}
use Rattle.syslog_fields.specs.FirstElements.{IsFirstId}
use Rattle.syslog_reading.proofs.id_keys.id_at.Goals as goal

pub returns : goal.returns
returns c =
    let least : c.min.result ≡ min c.args.offset (length c.args.elements.now) = omega (arith, c.min.ensures) in
    let text = c.split_at.ensures.back ∙ ap (λ (n : ℕ). drop n c.args.elements.now) least
    ∙ drop_min c.args.offset c.args.elements.now in
    subst (λ (u : List ℕ). IsFirstId u c.first_id.result.now) text c.first_id.ensures
