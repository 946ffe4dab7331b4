-- The leaves of a tree, one by one.
use Rattle.std.proofs.Common.{◌≡◌, ℕ, suc, ◌+◌, ◌^◌, ◌<◌, List, [], ◌∷◌, ◌++◌, Some, None, ap, arith, get_or, inl, inr, length, sym, take, unwrap_or, ◌∙◌}
use Rattle.std.specs.Prelude.{option_map}
use Rattle.std.specs.List.{slice_get}
use Rattle.std.proofs.Math.Seq.{take-suc}
use Rattle.std.proofs.lemmas.List.{length-map, length-take-le}
use Rattle.std.proofs.lemmas.Option.{slice_get-map, slice_get_cases, slice_get_within, unwrap_or-slice_get}
use Rattle.archive_text.specs.Entries.{Entry}
use Rattle.archive_tree.specs.Archives.{texts_of}

-- one element more
take_more : (xs : List (List ℕ)) (i : ℕ) (x : List ℕ) → slice_get xs i ≡ Some x → take (i + 1) xs ≡ take i xs ++ x ∷ []
take_more xs i x got =
    let next : i + 1 ≡ suc i = omega arith in
    let here : get_or xs i x ≡ x = sym (unwrap_or-slice_get xs i x) ∙ ap (λ o. unwrap_or o x) got in
    ap (λ n. take n xs) next ∙ take-suc xs i x (slice_get_within xs i x got)
    ∙ ap (λ (y : List ℕ). take i xs ++ y ∷ []) here

pub leaf_more : (es : List Entry) (i : ℕ) (octets : List ℕ) → Some octets ≡ option_map (λ e. e.octets) (slice_get es i)
    → take (i + 1) (texts_of es) ≡ take i (texts_of es) ++ octets ∷ []
leaf_more es i octets got =
    take_more (texts_of es) i octets (slice_get-map (λ e. e.octets) es i ∙ sym got)

-- before the end there is one
pub leaf_there : (es : List Entry) (i : ℕ) → None ≡ option_map (λ e. e.octets) (slice_get es i) → i < length es → ⊥
leaf_there es i none within = elim (slice_get_cases es i).1 [
  | inl (e, inside, got, here) ↦
      let clash : None ≡ Some e.octets = none ∙ ap (λ o. option_map (λ e. e.octets) o) got in
      cc clash
  | inr (past, got) ↦ omega (arith, within, past)
]

-- there are no more leaves than were counted
pub leaves_few : (es : List Entry) (i end : ℕ) → end ≡ length es → i < end → end < 2 ^ 64
    → length (take i (texts_of es)) + 1 < 2 ^ 64
leaves_few es i end size within fits =
    let all : length (texts_of es) ≡ length es = length-map es (λ e. e.octets) in
    let taken : length (take i (texts_of es)) ≡ i =
    length-take-le i (texts_of es) (omega (arith, all, size, within)) in
    omega (arith, taken, within, fits)
