use Rattle.std.proofs.Common.{rules}
use Rattle.std.specs.Prelude.{false}
use Rattle.std.proofs.Common.{◌≡◌, sym, ◌∙◌}
use Rattle.std.proofs.lemmas.Bool.{false≢true}
use Rattle.store_reading.proofs.Parted.{apart, none_begins}
use Rattle.store_reading.proofs.days.behind_of.Goals as goal

pub returns-else-is-clause-none : goal.returns-else-is-clause-none
returns-else-is-clause-none c =
    let off : c.is.result ≡ false = search rules in
    apart c.args.day.now c.args.text.now c.of.result _ _ c.in-Ok.ensures c.of.ensures
    (λ same. false≢true (sym off ∙ c.is.ensures.1 same))

pub returns-in-Err-clause-none : goal.returns-in-Err-clause-none
returns-in-Err-clause-none c e behind begins = absurd (none_begins c.args.text.now _ e behind c.in-Err.ensures begins)
