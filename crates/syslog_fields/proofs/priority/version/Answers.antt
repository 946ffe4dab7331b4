use Rattle.std.proofs.Common.{◌∷◌, [], refl}
use Rattle.std.proofs.lemmas.Result.{err_from_is_err_and}
use Rattle.octet_language.specs.Language.{Only}
use Rattle.octet_language.proofs.Chain.{Fails-first, IsPrefixFree-only, Passes-later}
use Rattle.syslog_fields.specs.Stops.{remaining_of}
use Rattle.syslog_fields.proofs.priority.version.Goals as goal

pub returns-in_err-rest : goal.returns-in_err-rest
returns-in_err-rest c =
    let p = err_from_is_err_and c.from_residual.result c.from_residual.ensures.1 in
    rw (p.1, p.2) (Fails-first (Only (49 ∷ [])) (Only (32 ∷ [])) _ (32 ∷ []) _ refl c.in_err-rest.ensures)

pub returns : goal.returns
returns c = Passes-later remaining_of (Only (49 ∷ [])) (Only (32 ∷ [])) _ c.args.octets.now c.in_ok-rest.rest.now
    c.expect-2.result (IsPrefixFree-only (49 ∷ [])) c.in_ok-rest.ensures c.expect-2.ensures
