use Rattle.std.proofs.Common.{◌≡◌, ◌∷◌, [], ℕ, List, ◌++◌, arith, rules, sym, ap, subst, ◌∙◌, ◌≢◌}
use Rattle.octet_language.specs.Language.{Only}
use Rattle.syslog_fields.specs.Grammar.{Number}
use Rattle.octet_language.specs.Language.{IfFirst}
use Rattle.syslog_fields.proofs.Numbers.{no_number, no_digit, GoesOn, closed, one_more_digit}
use Rattle.octet_language.specs.Digits.{IsDigit}
use Rattle.octet_language.proofs.Chain.{Fails-first_value}
use Rattle.octet_language.proofs.Decimal.{one_digit}
use Rattle.syslog_fields.proofs.priority.number.Goals as goal

pub returns-in_default : goal.returns-in_default
returns-in_default c =
    let e : c.args.octets.now ≡ [] = c.in_default.ensures in
    Fails-first_value Number (Only (62 ∷ [])) _ _ (no_number c.args.octets.now (subst (IfFirst _) (sym e) tt))

pub returns-then-not-is_digit : goal.returns-then-not-is_digit
returns-then-not-is_digit c =
    let e : c.args.octets.now ≡ c.in-Some.first ∷ c.in-Some.behind.now = c.in-Some.ensures in
    Fails-first_value Number (Only (62 ∷ [])) _ _
    (no_number c.args.octets.now (subst (IfFirst (λ x. ¬ (IsDigit x))) (sym e) (λ d. search rules)))

pub loop-octet-init : goal.loop-octet-init
loop-octet-init c =
    let e : c.args.octets.now ≡ c.in-Some.first ∷ c.in-Some.behind.now = c.in-Some.ensures in
    let d : IsDigit c.in-Some.first = search rules in
    record {
      digits = e ∙ ap (λ (k : List ℕ). k ++ c.in-Some.behind.now) (sym (one_digit c.in-Some.first d));
      small =
          omega arith;
    }

pub returns-then-octet-eq62 : goal.returns-then-octet-eq62
returns-then-octet-eq62 c = closed c.args.octets.now c.loop-octet.value c.loop-octet.rest.now c.in-Some-next.octet
    c.in-Some-next.after.now c.loop-octet.invariant.small c.loop-octet.invariant.digits c.in-Some-next.ensures
    c.if-octet-eq62.true

pub returns-then-not-goes_on : goal.returns-then-not-goes_on
returns-then-not-goes_on c =
    let e : c.loop-octet.rest.now ≡ c.in-Some-next.octet ∷ c.in-Some-next.after.now = c.in-Some-next.ensures in
    Fails-first_value Number (Only (62 ∷ [])) _ _
    (no_digit c.args.octets.now c.loop-octet.value c.loop-octet.rest.now c.loop-octet.invariant.small
    c.loop-octet.invariant.digits
    (subst (IfFirst (λ x. (x ≢ 62) × ¬ (GoesOn c.loop-octet.value x))) (sym e)
    (c.if-octet-eq62.false, λ d. search rules)))

pub loop-octet-preserved : goal.loop-octet-preserved
loop-octet-preserved c =
    let e : c.loop-octet.rest.now ≡ c.in-Some-next.octet ∷ c.in-Some-next.after.now = c.in-Some-next.ensures in
    let d : GoesOn c.loop-octet.value c.in-Some-next.octet = search rules in
    record {
      digits = one_more_digit c.args.octets.now c.loop-octet.value c.loop-octet.rest.now c.in-Some-next.octet
          c.in-Some-next.after.now d c.loop-octet.invariant.digits e;
      small = d.3;
    }

pub returns : goal.returns
returns c =
    let e : c.loop-octet.rest.now ≡ [] = c.in_default-next.ensures in
    Fails-first_value Number (Only (62 ∷ [])) _ _
    (no_digit c.args.octets.now c.loop-octet.value c.loop-octet.rest.now c.loop-octet.invariant.small
    c.loop-octet.invariant.digits (subst (IfFirst _) (sym e) tt))
