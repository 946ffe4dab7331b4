use Rattle.std.proofs.Common.{◌≡◌, ◌∙◌, true, false, List, ℕ, ap, sym}
use Rattle.std.specs.Prelude.{Ok, Err}
use Rattle.std.specs.Result.{is_err}
use Rattle.hex.specs.Hex.{decode_sized, encode_lower}
use Rattle.hex.proofs.HexLemmas.{decode_sized-encode_lower}
use Rattle.site_messages.proofs.ValueLemmas.{at_ok, not_both}
use Rattle.site_messages.proofs.values.digest_of.Goals as goal

pub returns-then-is_err : goal.returns-then-is_err
returns-then-is_err c =
    λ d h is.
    let decoded : decode_sized c.args.word.now 32 ≡ Ok d =
    ap (λ (l : List ℕ). decode_sized l 32) is ∙ decode_sized-encode_lower d 32 h.size h.octets in
    let both = at_ok (decode_sized c.args.word.now 32) d
    (λ bytes. (c.decode_to_slice.result ≡ Ok tt) × (c.decode_to_slice.new.out ≡ bytes))
    (λ e. c.decode_to_slice.result ≡ Err e) decoded c.decode_to_slice.ensures.value in
    let k : true ≡ false = sym c.if-is_err.true ∙ c.is_err.ensures.value ∙ ap is_err both.0 in
    cc

pub returns-then-not-is_of : goal.returns-then-not-is_of
returns-then-not-is_of c =
    λ d h is.
    let decoded : decode_sized c.args.word.now 32 ≡ Ok d =
    ap (λ (l : List ℕ). decode_sized l 32) is ∙ decode_sized-encode_lower d 32 h.size h.octets in
    let both = at_ok (decode_sized c.args.word.now 32) d
    (λ bytes. (c.decode_to_slice.result ≡ Ok tt) × (c.decode_to_slice.new.out ≡ bytes))
    (λ e. c.decode_to_slice.result ≡ Err e) decoded c.decode_to_slice.ensures.value in
    not_both c.is_of.result c.if-not-is_of.true (c.is_of.ensures.word.1 (is ∙ ap encode_lower (sym both.1)))
