use Rattle.std.proofs.Common.{◌≡◌, List, ℕ, ap, ◌∙◌}
use Rattle.std.specs.Prelude.{Ok, Err}
use Rattle.hex.specs.Hex.{decode_sized}
use Rattle.hex.proofs.HexLemmas.{decode_sized-encode_lower}
use Rattle.archive_proof.proofs.Readings.{at_ok, hash_line_is_long, hash_parts, tail_is}
use Rattle.archive_proof.proofs.reading.hash.Goals as goal

pub returns-then-text-le64 : goal.returns-then-text-le64
returns-then-text-le64 c = λ h rest is same. hash_line_is_long c.args.text.now h rest is same c.if-text-le64.true

pub returns-in-Ok : goal.returns-in-Ok
returns-in-Ok c =
    λ h rest is same.
    let parts = hash_parts c.args.text.now h rest is same in
    let decoded : decode_sized c.split_at.result.0.now 32 ≡ Ok h =
    ap (λ (l : List ℕ). decode_sized l 32) (c.split_at.ensures.front ∙ parts.0)
    ∙ decode_sized-encode_lower h 32 is.size is.octets in
    let both = at_ok (decode_sized c.split_at.result.0.now 32) h
    (λ bytes. (c.decode_to_slice.result ≡ Ok tt) × (c.decode_to_slice.new.out ≡ bytes))
    (λ e. c.decode_to_slice.result ≡ Err e) decoded c.decode_to_slice.ensures.value in
    (both.1, tail_is c.split_at.result.1.now rest 10 (c.split_at.ensures.back ∙ parts.1))

pub returns-in-Err : goal.returns-in-Err
returns-in-Err c =
    λ h rest is same.
    let parts = hash_parts c.args.text.now h rest is same in
    let decoded : decode_sized c.split_at.result.0.now 32 ≡ Ok h =
    ap (λ (l : List ℕ). decode_sized l 32) (c.split_at.ensures.front ∙ parts.0)
    ∙ decode_sized-encode_lower h 32 is.size is.octets in
    let both = at_ok (decode_sized c.split_at.result.0.now 32) h
    (λ bytes. (c.decode_to_slice.result ≡ Ok tt) × (c.decode_to_slice.new.out ≡ bytes))
    (λ e. c.decode_to_slice.result ≡ Err e) decoded c.decode_to_slice.ensures.value in
    absurd (cc (both.0, c.in-Err.is))
