use Rattle.std.specs.Prelude.{Result, Ok, Err, IsOk, OnOk}
use Rattle.proof_engine.proofs.line.append.Goals as goal

extended : {T E : Type 0} (r : Result T E) (P : Type 0) → IsOk r → OnOk r P → P
extended (Ok x) P is h = h
extended (Err e) P is h = absurd (cc is)

pub returns : goal.returns
returns c =
    λ fits.
    extended c.try_extend_from_slice.result _ (c.try_extend_from_slice.ensures.variant.1 fits)
    c.try_extend_from_slice.ensures.ok
