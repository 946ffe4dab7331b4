use Rattle.std.proofs.Common.{◌≡◌, ◌<◌, ◌^◌, ℕ, ◌∙◌, ap, subst, sym}
use Rattle.std.specs.Prelude.{Ok, decimal}
use Rattle.std.specs.Str.{IsAscii}
use Rattle.std.proofs.lemmas.Fmt.{IsAscii-decimal, parse-decimal}
use Rattle.std.proofs.lemmas.Str.{IsUtf8-from_ascii}
use Rattle.ledger.proofs.WordLemmas.{not_both}
use Rattle.ledger.proofs.words.number_of.Goals as goal

pub returns-in_default : goal.returns-in_default
returns-in_default c =
    λ n small is.
    c.in_default.ensures.cases.0 (IsUtf8-from_ascii c.args.word.now
    (subst IsAscii (sym is) (IsAscii-decimal n small)))

pub returns-in_default-parse : goal.returns-in_default-parse
returns-in_default-parse c =
    λ n small is.
    let parsed : c.parse.result ≡ Ok n =
    parse-decimal 64 n c.in-Ok.text.now c.parse.result small small (c.in-Ok.ensures.cases.0 ∙ is)
    c.parse.ensures.value.0 in
    let other = c.in_default-parse.is in
    cc

pub returns-then-not-is : goal.returns-then-not-is
returns-then-not-is c =
    λ n small is.
    let parsed : c.parse.result ≡ Ok n =
    parse-decimal 64 n c.in-Ok.text.now c.parse.result small small (c.in-Ok.ensures.cases.0 ∙ is)
    c.parse.ensures.value.0 in
    let found = c.in-Ok-parse.is in
    let same : c.in-Ok-parse.number ≡ n = cc in
    not_both c.is.result c.if-not-is.true
    (c.is.ensures.1 (c.as_bytes.ensures.value ∙ c.format.ensures.text ∙ ap decimal same ∙ sym is))

pub returns : goal.returns
returns c = (
  subst (λ (n : ℕ). n < 2 ^ 64) (sym c.in-Ok-parse.ensures.value.0.1) c.in-Ok-parse.ensures.value.0.0.1,
  sym (c.is.ensures.0 c.if-not-is.false) ∙ c.as_bytes.ensures.value ∙ c.format.ensures.text,
)
