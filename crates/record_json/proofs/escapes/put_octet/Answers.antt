use Rattle.std.proofs.Common.{[], ◌∷◌, ◌∙◌, sym}
use Rattle.octet_language.specs.Language.{Only}
use Rattle.json.specs.Print.{escape_byte}
use Rattle.syslog_fields.proofs.Appends.{puts_as}
use Rattle.record_json.proofs.Escaping.{control_form, plain_form, short_form}
use Rattle.record_json.proofs.escapes.put_octet.Goals as goal

pub returns-then-letter-gt0 : goal.returns-then-letter-gt0
returns-then-letter-gt0 c =
    let x = c.args.octet in
    let letter = c.escape_letter-letter.result in
    puts_as (Only (92 ∷ letter ∷ [])) (Only (escape_byte x)) c.args.out.now.items c.put.new.out.items c.put.result
    (λ s e. e ∙ sym (short_form x letter c.escape_letter-letter.ensures c.if-letter-gt0.true)) c.put.ensures

pub returns-then-octet-lt32 : goal.returns-then-octet-lt32
returns-then-octet-lt32 c =
    let x = c.args.octet in
    let letter = c.escape_letter-letter.result in
    let high = c.hex_digit-high.result in
    let low = c.hex_digit-low.result in
    puts_as (Only (92 ∷ 117 ∷ 48 ∷ 48 ∷ high ∷ low ∷ [])) (Only (escape_byte x)) c.args.out.now.items
    c.put-then-octet-lt32.new.out.items c.put-then-octet-lt32.result
    (λ s e. e ∙ sym (control_form x letter high low c.escape_letter-letter.ensures c.if-letter-gt0.false
    c.if-octet-lt32.true c.hex_digit-high.ensures c.hex_digit-low.ensures)) c.put-then-octet-lt32.ensures

pub returns : goal.returns
returns c =
    let x = c.args.octet in
    let letter = c.escape_letter-letter.result in
    puts_as (Only (x ∷ [])) (Only (escape_byte x)) c.args.out.now.items c.put-2.new.out.items c.put-2.result
    (λ s e. e ∙ sym (plain_form x letter c.escape_letter-letter.ensures c.if-letter-gt0.false c.if-octet-lt32.false))
    c.put-2.ensures
