use Rattle.std.proofs.Common.{◌∷◌, []}
use Rattle.std.proofs.lemmas.Result.{err_from_is_err_and}
use Rattle.octet_language.specs.Language.{◌⋅◌, Only, AnyOf}
use Rattle.syslog_fields.specs.Grammar.{Number}
use Rattle.octet_language.proofs.Chain.{Fails-second_value, Fails-first, Reads-later, IsPrefixFree-only}
use Rattle.syslog_fields.specs.Stops.{remaining_of}
use Rattle.syslog_fields.proofs.Numbers.{some_number}
use Rattle.syslog_fields.proofs.priority.priority.Goals as goal

pub returns-in_err-behind : goal.returns-in_err-behind
returns-in_err-behind c =
    let p = err_from_is_err_and c.from_residual.result c.from_residual.ensures.1 in
    rw (p.1, p.2) (Fails-second_value (Only (60 ∷ [])) (λ v. Number v ⋅ Only (62 ∷ [])) _ _
    (Fails-first (Only (60 ∷ [])) (AnyOf (λ v. Number v ⋅ Only (62 ∷ []))) _ _ _ some_number
    c.in_err-behind.ensures))

pub returns : goal.returns
returns c = Reads-later remaining_of (Only (60 ∷ [])) (λ v. Number v ⋅ Only (62 ∷ [])) _ c.args.octets.now
    c.in_ok-behind.behind.now c.number.result (IsPrefixFree-only (60 ∷ [])) c.in_ok-behind.ensures c.number.ensures
