use Rattle.std.proofs.Common.{◌≡◌, ◌≤◌, ◌∷◌, sym, subst, arith}
use Rattle.octet_language.specs.Language.{IfFirst}
use Rattle.syslog_fields.specs.Utf8.{from_to}
use Rattle.syslog_fields.proofs.Characters.{no_octet, some_octet}
use Rattle.syslog_fields.proofs.character.octet.Goals as goal

pub returns-in_default : goal.returns-in_default
returns-in_default c = no_octet (from_to c.args.low c.args.high) c.args.octets.now c.requires
    (subst (IfFirst _) (sym c.in_default.ensures) tt)

pub returns-then-octet-low : goal.returns-then-octet-low
returns-then-octet-low c =
    let e : c.args.octets.now ≡ c.in-Some.octet ∷ c.in-Some.rest.now = c.in-Some.ensures in
    no_octet (from_to c.args.low c.args.high) c.args.octets.now c.requires
    (subst (IfFirst (λ x. ¬ ((c.args.low ≤ x) × (x ≤ c.args.high)))) (sym e) (λ h. omega (arith, h.0)))

pub returns-then-octet-high : goal.returns-then-octet-high
returns-then-octet-high c =
    let e : c.args.octets.now ≡ c.in-Some.octet ∷ c.in-Some.rest.now = c.in-Some.ensures in
    no_octet (from_to c.args.low c.args.high) c.args.octets.now c.requires
    (subst (IfFirst (λ x. ¬ ((c.args.low ≤ x) × (x ≤ c.args.high)))) (sym e) (λ h. omega (arith, h.1)))

pub returns : goal.returns
returns c = some_octet (from_to c.args.low c.args.high) c.args.octets.now c.in-Some.octet c.in-Some.rest.now
    c.in-Some.ensures (omega arith) (omega arith)
