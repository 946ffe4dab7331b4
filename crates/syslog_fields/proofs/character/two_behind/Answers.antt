use Rattle.std.proofs.Common.{◌∷◌, [], refl, arith}
use Rattle.std.proofs.lemmas.Result.{err_from_is_err_and}
use Rattle.octet_language.specs.Language.{Each}
use Rattle.syslog_fields.specs.Stops.{remaining_of}
use Rattle.syslog_fields.specs.Utf8.{from_to, tail, Octet}
use Rattle.octet_language.proofs.Chain.{Fails-first, Passes-later}
use Rattle.syslog_fields.proofs.Characters.{IsPrefixFree-octet, octet_cons}
use Rattle.syslog_fields.proofs.character.two_behind.Goals as goal

pub returns-in_err-rest : goal.returns-in_err-rest
returns-in_err-rest c =
    let p = err_from_is_err_and c.from_residual.result c.from_residual.ensures.1 in
    rw (p.1, p.2) (Fails-first (Octet (from_to c.args.low c.args.high)) (Each Octet (tail ∷ [])) _ (0x80 ∷ []) _
    (octet_cons tail [] 0x80 [] (omega arith) (omega arith) refl) c.in_err-rest.ensures)

pub returns : goal.returns
returns c = Passes-later remaining_of (Octet (from_to c.args.low c.args.high)) (Each Octet (tail ∷ [])) _
    c.args.octets.now c.in_ok-rest.rest.now c.one_behind.result (IsPrefixFree-octet (from_to c.args.low c.args.high))
    c.in_ok-rest.ensures c.one_behind.ensures
