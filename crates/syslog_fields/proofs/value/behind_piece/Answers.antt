use Rattle.std.proofs.Common.{◌≡◌, ◌∷◌, ◌⊎◌, inl, inr, sym, subst}
use Rattle.octet_language.specs.Language.{IfFirst}
use Rattle.syslog_fields.specs.Stops.{remaining_of}
use Rattle.syslog_fields.proofs.Values.{no_piece, piece_behind, piece_other}
use Rattle.syslog_fields.proofs.value.behind_piece.Goals as goal

pub returns-in_default : goal.returns-in_default
returns-in_default c = no_piece c.args.octets.now (subst (IfFirst _) (sym c.in_default.ensures) tt)

pub returns-then-first-eq92 : goal.returns-then-first-eq92
returns-then-first-eq92 c = piece_behind remaining_of c.args.octets.now c.in-Some.rest.now _ c.behind_escaped.result
    c.in-Some.first c.in-Some.ensures c.if-first-eq92.true c.behind_escaped.ensures

pub returns-then-first-eq34 : goal.returns-then-first-eq34
returns-then-first-eq34 c =
    let e : c.args.octets.now ≡ c.in-Some.first ∷ c.in-Some.rest.now = c.in-Some.ensures in
    no_piece c.args.octets.now (subst (IfFirst (λ x. (x ≡ 34) ⊎ (x ≡ 93))) (sym e) (inl c.if-first-eq34.true))

pub returns-then-first-eq93 : goal.returns-then-first-eq93
returns-then-first-eq93 c =
    let e : c.args.octets.now ≡ c.in-Some.first ∷ c.in-Some.rest.now = c.in-Some.ensures in
    no_piece c.args.octets.now (subst (IfFirst (λ x. (x ≡ 34) ⊎ (x ≡ 93))) (sym e) (inr c.if-first-eq93.true))

pub returns : goal.returns
returns c = piece_other remaining_of c.args.octets.now c.in-Some.rest.now _ c.behind_character.result c.in-Some.first
    c.in-Some.ensures c.if-first-eq34.false c.if-first-eq92.false c.if-first-eq93.false c.behind_character.ensures
