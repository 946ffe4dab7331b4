use Rattle.std.proofs.Common.{◌≡◌, ◌∙◌, ap, rules, subst, sym}
use Rattle.std.specs.Prelude.{Ok}
use Rattle.std.specs.Fmt.{signed_decimal}
use Rattle.std.specs.Str.{IsAscii}
use mir.Syntax.{w64}
use mir.Val.{SFits, of_z, to_z}
use Rattle.std.proofs.lemmas.Int.{to_z-of_z}
use Rattle.std.proofs.lemmas.Fmt.{IsAscii-signed, parse-signed_decimal}
use Rattle.std.proofs.lemmas.Str.{IsUtf8-from_ascii}
use Rattle.syslog_value.specs.Parts.{IsInstant}
use Rattle.site_messages.proofs.ValueLemmas.{instant_fits, instant_small_enough, not_both, one_instant}
use Rattle.site_messages.proofs.values.instant_of.Goals as goal

pub returns-in_default : goal.returns-in_default
returns-in_default c =
    λ i valid is.
    c.in_default.ensures.cases.0 (IsUtf8-from_ascii c.args.word.now
    (subst IsAscii (sym is) (IsAscii-signed i (instant_small_enough i valid))))

pub returns-in_default-parse : goal.returns-in_default-parse
returns-in_default-parse c =
    λ i valid is.
    let parsed : c.parse.result ≡ Ok i =
    parse-signed_decimal w64 i c.in-Ok.text.now c.parse.result (instant_fits i valid) (instant_small_enough i valid)
    (c.in-Ok.ensures.cases.0 ∙ is) c.parse.ensures.value.0 in
    let other = c.in_default-parse.is in
    cc

pub returns-then-not-is : goal.returns-then-not-is
returns-then-not-is c =
    λ i valid is.
    let parsed : c.parse.result ≡ Ok i =
    parse-signed_decimal w64 i c.in-Ok.text.now c.parse.result (instant_fits i valid) (instant_small_enough i valid)
    (c.in-Ok.ensures.cases.0 ∙ is) c.parse.ensures.value.0 in
    let found = c.in-Ok-parse.is in
    let same : c.in-Ok-parse.micros ≡ i = cc in
    let fits : SFits w64 c.in-Ok-parse.micros = search rules in
    not_both c.is.result c.if-not-is.true
    (c.is.ensures.1 (c.as_bytes.ensures.value ∙ c.format.ensures.text ∙ ap signed_decimal (to_z-of_z w64 c.in-Ok-parse.micros fits ∙ same) ∙ sym is))

pub returns : goal.returns
returns c =
    let fits : SFits w64 c.in-Ok-parse.micros = search rules in
    one_instant c.args.word.now (to_z w64 (of_z w64 c.in-Ok-parse.micros)) c.from_micros.result
    (sym (c.is.ensures.0 c.if-not-is.false) ∙ c.as_bytes.ensures.value ∙ c.format.ensures.text)
    c.from_micros.ensures.valid c.from_micros.ensures.value
    (λ i valid is.
    let parsed : c.parse.result ≡ Ok i =
    parse-signed_decimal w64 i c.in-Ok.text.now c.parse.result (instant_fits i valid) (instant_small_enough i valid)
    (c.in-Ok.ensures.cases.0 ∙ is) c.parse.ensures.value.0 in
    let found = c.in-Ok-parse.is in
    let same : c.in-Ok-parse.micros ≡ i = cc in
    subst IsInstant (sym (to_z-of_z w64 c.in-Ok-parse.micros fits ∙ same)) valid)
