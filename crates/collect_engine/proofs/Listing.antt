-- Steps of a list.
use Rattle.std.proofs.Common.{◌≡◌, ℕ, ◌<◌, ◌≤◌, List, [], ◌∷◌, length, take, refl, sym, ap, ◌∙◌, min, get_or, arith}
use Rattle.std.proofs.Common.{inl, inr}
use Rattle.std.proofs.Common.{zero, suc, ◌-◌}
use Rattle.std.specs.Prelude.{map}
use Rattle.std.proofs.Math.ListN.{get_or-map, length-map}
use Rattle.collect_engine.specs.Listed.{Item, listed, listed_item, step_after}
use Rattle.collect_engine.specs.Steps.{Given}
use Rattle.std.proofs.lemmas.Bool.{cases_lt}
use Rattle.std.proofs.lemmas.List.{length-take, take_all}

-- as many octets as there are, up to a number
pub take_most : (octets : List ℕ) (n k : ℕ) → k ≤ n → (k < n → length octets ≤ k) → take k octets ≡ take n octets
take_most octets n k within all =
    elim (cases_lt k n) [
      | inl less ↦
          let some : length octets ≤ n = omega (arith, all less) in
          take_all k octets (all less) ∙ sym (take_all n octets some)
      | inr not_less ↦
          let same : k ≡ n = omega arith in
          ap (λ (m : ℕ). take m octets) same
    ]

pub put_is : (octets buf cut : List ℕ) (k n : ℕ) → cut ≡ take k octets → take (length cut) buf ≡ cut → k ≤ length octets
    → k ≤ n → (k < n → length octets ≤ k) → take k buf ≡ take n octets
put_is octets buf cut k n is copied some within all =
    let count : length cut ≡ k = ap length is ∙ omega (arith, length-take k octets) in
    ap (λ (m : ℕ). take m buf) (sym count) ∙ copied ∙ is ∙ take_most octets n k within all

-- the least of three numbers, of which the third is none
pub least : (o b n m k : ℕ) → m ≡ min o n → k ≡ min m b → n ≤ b → (k ≤ o) × (k ≤ n) × (k < n → o ≤ k)
least o b n m k first second room = (omega arith, omega arith, λ less. omega arith)

-- the step after n is the one at n, or the last one
pub step_at : (xs : List Given) (n at : ℕ) (d : Given) → 0 < length xs → at ≡ min (length xs - 1) n
    → step_after xs n ≡ get_or xs at d
step_at [] n at d some is = absurd (omega arith)
step_at (x ∷ []) n at d some is = let first : at ≡ 0 = is ∙ omega arith in rw first refl
step_at (x ∷ y ∷ xs) zero at d some is = let first : at ≡ 0 = is ∙ omega arith in rw first refl
step_at (x ∷ y ∷ xs) (suc n) at d some is =
    let before : at ≡ suc (min (length (y ∷ xs) - 1) n) = is ∙ omega arith in
    rw before (step_at (y ∷ xs) n (min (length (y ∷ xs) - 1) n) d (omega arith) refl)

-- the item there gives the step after n
pub item_at : (items : List Item) (n last at : ℕ) (item : Item) (octets : List ℕ) → 0 < length items
    → last ≡ length items - 1 → at ≡ min last n
    → item ≡ get_or items at item → octets ≡ item.1.items → listed item.0 octets ≡ step_after (map listed_item items) n
item_at items n last at item octets some last_is at_is item_is octets_are =
    let count : length (map listed_item items) ≡ length items = simp length-map in
    let here : at ≡ min (length (map listed_item items) - 1) n =
    at_is ∙ ap (λ (m : ℕ). min m n) (last_is ∙ ap (λ (m : ℕ). m - 1) (sym count)) in
    ap (listed item.0) octets_are ∙ ap listed_item item_is ∙ sym (get_or-map listed_item items at item)
    ∙ sym (step_at (map listed_item items) n at (listed_item item) (omega arith) here)
