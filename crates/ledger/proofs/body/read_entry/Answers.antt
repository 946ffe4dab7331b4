use Rattle.std.specs.Prelude.{decimal}
use Rattle.ledger.specs.Lines.{octets_text}
use Rattle.ledger.specs.Words.{word_and}
use Rattle.ledger.specs.declared.body.TheConstants.{NAME_MAX}
use Rattle.ledger.proofs.BodyLemmas.{name_is, what_is}
use Rattle.ledger.proofs.WordLemmas.{number_is}
use Rattle.ledger.proofs.body.read_entry.Goals as goal

pub returns-in_err-name : goal.returns-in_err-name
returns-in_err-name c =
    rw c.from_residual-in_err-name.ensures
    (λ s valid e.
    let what = what_is c.args.text.now c.in_ok-what.what.now c.in_ok-what.rest.now s c.in_ok-what.ensures.0
    c.in_ok-what.ensures.1 e in
    c.in_err-name.ensures {u = tt} s.name _ valid.name what.1)

pub returns-in_err-count : goal.returns-in_err-count
returns-in_err-count c =
    rw c.from_residual-in_err-count.ensures
    (λ s valid e.
    let what = what_is c.args.text.now c.in_ok-what.what.now c.in_ok-what.rest.now s c.in_ok-what.ensures.0
    c.in_ok-what.ensures.1 e in
    let name = name_is NAME_MAX NAME_MAX c.in_ok-what.rest.now c.in_ok-name.name.now c.in_ok-name.rest.now s.name
    (word_and (decimal s.count) (octets_text s.event s.octets)) c.in_ok-name.ensures.0 c.in_ok-name.ensures.1 valid.name
    what.1 in
    c.in_err-count.ensures {u = tt} s.count _ valid.count name.1)

pub returns-in_err-octets : goal.returns-in_err-octets
returns-in_err-octets c =
    rw c.from_residual-in_err-octets.ensures
    (λ s valid e.
    let what = what_is c.args.text.now c.in_ok-what.what.now c.in_ok-what.rest.now s c.in_ok-what.ensures.0
    c.in_ok-what.ensures.1 e in
    let name = name_is NAME_MAX NAME_MAX c.in_ok-what.rest.now c.in_ok-name.name.now c.in_ok-name.rest.now s.name
    (word_and (decimal s.count) (octets_text s.event s.octets)) c.in_ok-name.ensures.0 c.in_ok-name.ensures.1 valid.name
    what.1 in
    let count = number_is c.in_ok-name.rest.now c.in_ok-count.rest.now (octets_text s.event s.octets)
    c.in_ok-count.count s.count c.in_ok-count.ensures.0 c.in_ok-count.ensures.1 valid.count name.1 in
    c.in_err-octets.ensures {u = tt} s.octets s.event valid.octets valid.event what.0 count.1)
