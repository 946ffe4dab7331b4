-- The object of a record, cut from its line.
use Rattle.std.proofs.Common.{◌≡◌, ℕ, ◌-◌, List, [], ◌∷◌, ◌++◌, length, take, Result, Ok, Err, false, ap, arith, ◌∙◌}
use Rattle.std.specs.Prelude.{OnOk, is_err}
use Rattle.std.proofs.Math.Seq.{take-append_seam}
use Rattle.std.proofs.lemmas.List.{length-append}
use Rattle.json.specs.Print.{print}
use Rattle.json.specs.Tree.{json_tokens}
use Rattle.record_json.specs.Objects.{JsonLine}
use Rattle.record_json.specs.Texts.{AddsLine}
use Rattle.c_library.specs.Faults.{IsWithin}
use Rattle.c_library.specs.Jsons.{JsonOf}

-- a list without its last element
pub without_last : (xs : List ℕ) (x : ℕ) → take (length (xs ++ x ∷ []) - 1) (xs ++ x ∷ []) ≡ xs
without_last xs x =
    let size : length (xs ++ x ∷ []) - 1 ≡ length xs = omega (arith, length-append xs (x ∷ [])) in
    ap (λ n. take n (xs ++ x ∷ [])) size ∙ take-append_seam xs (x ∷ [])

-- what holds of a value, where there is one
pub on_ok : {T E : Type 0} (r : Result T E) (P : Type 0) → is_err r ≡ false → OnOk r P → P
on_ok (Ok v) P good p = p
on_ok (Err e) P good p = absurd cc

pub cut_line : (b line text : List ℕ) → IsWithin b → AddsLine b [] line → text ≡ take (length line - 1) line → JsonOf b text
unfolding JsonLine
cut_line b line text within (r, well, (l, (j, is, e), eq)) cut = (
  within,
  r,
  well,
  (j, is, cut ∙ ap (λ (u : List ℕ). take (length u - 1) u) (eq ∙ e) ∙ without_last (print (json_tokens j)) 10),
)
