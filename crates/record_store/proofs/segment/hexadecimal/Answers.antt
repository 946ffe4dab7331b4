use Rattle.std.proofs.Common.{rules, subst, sym}
use Rattle.std.specs.Prelude.{All, Err, IsOk, Ok, OnOk, Result}
use Rattle.hex.specs.Hex.{IsBytes}
use Rattle.record_store.specs.Names.{IsHexadecimal}
use Rattle.record_store.proofs.Naming.{encoded_digits}
use Rattle.record_store.proofs.segment.hexadecimal.Goals as goal

on_ok : {T E : Type 0} (r : Result T E) (P : Type 0) → IsOk r → OnOk r P → P
on_ok (Ok x) P is p = p
on_ok (Err e) P is p = absurd (cc is)

pub returns-clause-digits : goal.returns-clause-digits
returns-clause-digits c =
    let bytes : IsBytes c.finalize.result = search rules in
    let fits : IsOk c.encode_to_slice.result = search rules in
    let written = on_ok c.encode_to_slice.result _ fits c.encode_to_slice.ensures.written in
    subst (All IsHexadecimal) (sym written) (encoded_digits c.finalize.result bytes)
