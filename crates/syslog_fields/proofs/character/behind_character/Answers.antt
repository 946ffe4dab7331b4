use Rattle.std.proofs.Common.{◌≡◌, ◌∷◌, [], Bor, List, take, drop, refl, arith, sym, subst}
use Rattle.std.specs.Prelude.{Ok, ℕ}
use Rattle.octet_language.specs.Language.{IfFirst}
use Rattle.syslog_fields.specs.Stops.{remaining_of}
use Rattle.syslog_fields.specs.Utf8.{from_to, tail, row, table}
use Rattle.syslog_fields.proofs.Characters.{in_row, no_character, Outside}
use Rattle.syslog_fields.proofs.character.behind_character.Goals as goal
use Rattle.syslog_fields.proofs.character.behind_character.Goals.{in_default-first-via-then-first-lt194}
use Rattle.syslog_fields.proofs.character.behind_character.Goals.{in_default-first-via-else-first-lt194+else-first-lt224+else-first-lt237+else-first-lt240+else-first-lt244}

pub returns-in_default : goal.returns-in_default
returns-in_default c = no_character c.args.octets.now (subst (IfFirst _) (sym c.in_default.ensures) tt)

pub returns-in_default-first : goal.returns-in_default-first
returns-in_default-first c =
    let e : c.args.octets.now ≡ c.in-Some.first ∷ c.in-Some.rest.now = c.in-Some.ensures in
    let o : Outside c.in-Some.first table = elim c.in_default-first.branch [
      | in_default-first-via-then-first-lt194 w ↦ omega arith
      | in_default-first-via-else-first-lt194+else-first-lt224+else-first-lt237+else-first-lt240+else-first-lt244 w ↦
          omega arith
    ] in
    no_character c.args.octets.now (subst (IfFirst (λ x. Outside x table)) (sym e) o)

pub returns-in-0-to-127 : goal.returns-in-0-to-127
returns-in-0-to-127 c =
    in_row remaining_of (take 0 table) (drop 1 table) (row 0x00 0x7f ([])) c.in-Some.first c.args.octets.now
    c.in-Some.rest.now (λ (x : Bor (List ℕ)). x.now) (Ok c.in-Some.rest) refl (omega arith) (omega arith)
    (omega arith) (omega arith) c.in-Some.ensures ([], refl, refl)

pub returns-in-194-to-223 : goal.returns-in-194-to-223
returns-in-194-to-223 c =
    in_row remaining_of (take 1 table) (drop 2 table) (row 0xc2 0xdf (tail ∷ [])) c.in-Some.first c.args.octets.now
    c.in-Some.rest.now _ c.one_behind.result refl (omega arith) (omega arith) (omega arith) (omega arith)
    c.in-Some.ensures c.one_behind.ensures

pub returns-in-224 : goal.returns-in-224
returns-in-224 c =
    in_row remaining_of (take 2 table) (drop 3 table) (row 0xe0 0xe0 (from_to 0xa0 0xbf ∷ tail ∷ [])) c.in-Some.first
    c.args.octets.now c.in-Some.rest.now _ c.two_behind.result refl (omega arith) (omega arith) (omega arith)
    (omega arith) c.in-Some.ensures c.two_behind.ensures

pub returns-in-225-to-236 : goal.returns-in-225-to-236
returns-in-225-to-236 c =
    in_row remaining_of (take 3 table) (drop 4 table) (row 0xe1 0xec (tail ∷ tail ∷ [])) c.in-Some.first
    c.args.octets.now c.in-Some.rest.now _ c.two_behind-in-225-to-236.result refl (omega arith) (omega arith)
    (omega arith) (omega arith) c.in-Some.ensures c.two_behind-in-225-to-236.ensures

pub returns-in-237 : goal.returns-in-237
returns-in-237 c =
    in_row remaining_of (take 4 table) (drop 5 table) (row 0xed 0xed (from_to 0x80 0x9f ∷ tail ∷ [])) c.in-Some.first
    c.args.octets.now c.in-Some.rest.now _ c.two_behind-in-237.result refl (omega arith) (omega arith) (omega arith)
    (omega arith) c.in-Some.ensures c.two_behind-in-237.ensures

pub returns-in-238-to-239 : goal.returns-in-238-to-239
returns-in-238-to-239 c =
    in_row remaining_of (take 5 table) (drop 6 table) (row 0xee 0xef (tail ∷ tail ∷ [])) c.in-Some.first
    c.args.octets.now c.in-Some.rest.now _ c.two_behind-in-238-to-239.result refl (omega arith) (omega arith)
    (omega arith) (omega arith) c.in-Some.ensures c.two_behind-in-238-to-239.ensures

pub returns-in-240 : goal.returns-in-240
returns-in-240 c =
    in_row remaining_of (take 6 table) (drop 7 table) (row 0xf0 0xf0 (from_to 0x90 0xbf ∷ tail ∷ tail ∷ []))
    c.in-Some.first c.args.octets.now c.in-Some.rest.now _ c.three_behind.result refl (omega arith) (omega arith)
    (omega arith) (omega arith) c.in-Some.ensures c.three_behind.ensures

pub returns-in-241-to-243 : goal.returns-in-241-to-243
returns-in-241-to-243 c =
    in_row remaining_of (take 7 table) (drop 8 table) (row 0xf1 0xf3 (tail ∷ tail ∷ tail ∷ [])) c.in-Some.first
    c.args.octets.now c.in-Some.rest.now _ c.three_behind-in-241-to-243.result refl (omega arith) (omega arith)
    (omega arith) (omega arith) c.in-Some.ensures c.three_behind-in-241-to-243.ensures

pub returns-in-244 : goal.returns-in-244
returns-in-244 c =
    in_row remaining_of (take 8 table) (drop 9 table) (row 0xf4 0xf4 (from_to 0x80 0x8f ∷ tail ∷ tail ∷ []))
    c.in-Some.first c.args.octets.now c.in-Some.rest.now _ c.three_behind-in-244.result refl (omega arith)
    (omega arith) (omega arith) (omega arith) c.in-Some.ensures c.three_behind-in-244.ensures
