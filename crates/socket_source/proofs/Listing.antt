-- The steps of a list.
use Rattle.std.proofs.Common.{◌≡◌, ℕ, zero, suc, ◌+◌, ◌<◌, ◌≤◌, Bool, true, false, List, [], ◌∷◌, length, get_or, take, drop, refl, sym, ap, ◌∙◌, arith, add-one, drop-cons}
use Rattle.std.proofs.Common.{min, inl, inr}
use Rattle.std.specs.Prelude.{◌==◌, map, nat_lt, not}
use Rattle.std.proofs.lemmas.Bool.{cases_lt, eq-eqb, le-ltb, lt-ltb, ne_eqb}
use Rattle.std.proofs.lemmas.List.{length-take, take_all}
use Rattle.peer_rules.specs.declared.network.Network.{Network}
use Rattle.socket_source.specs.declared.limits.TheConstants.{PIECE_MAX}
use Rattle.socket_source.specs.Scripts.{Item, IsFirst, listed, listed_item, standing_by}
use Rattle.socket_source.specs.Steps.{Standing, Given, behind, finished, may_come, next_of}

-- a step that may not come is passed over
pub next_of-passed : (s : Standing) (gs : List Given) (at : ℕ) → at < length gs
    → may_come s (get_or gs at finished).step ≡ false → next_of s (drop at gs) ≡ next_of s (drop (at + 1) gs)
next_of-passed s gs at within may_not = rw (drop-cons gs at finished within, may_not, add-one) refl

pub behind-passed : (s : Standing) (gs : List Given) (at : ℕ) → at < length gs
    → may_come s (get_or gs at finished).step ≡ false → behind s (drop at gs) ≡ behind s (drop (at + 1) gs)
behind-passed s gs at within may_not = rw (drop-cons gs at finished within, may_not, add-one) refl

-- one that may come is the first
pub first_here : (s : Standing) (gs : List Given) (from at : ℕ) → at < length gs
    → may_come s (get_or gs at finished).step ≡ true
    → next_of s (drop from gs) ≡ next_of s (drop at gs) → behind s (drop from gs) ≡ behind s (drop at gs)
    → IsFirst s gs from at
first_here s gs from at within may next rest = record {
  within = within;
  may = may;
  next = next ∙ rw (drop-cons gs at finished within, may) refl;
  rest = rest ∙ rw (drop-cons gs at finished within, may, add-one) refl;
}

-- as many octets as there are, up to a number
pub take_most : (octets : List ℕ) (n k : ℕ) → k ≤ n → (k < n → length octets ≤ k) → take k octets ≡ take n octets
take_most octets n k within all =
    elim (cases_lt k n) [
      | inl less ↦
          let some : length octets ≤ n = omega (arith, all less) in
          take_all k octets (all less) ∙ sym (take_all n octets some)
      | inr not_less ↦
          let same : k ≡ n = omega arith in
          ap (λ (m : ℕ). take m octets) same
    ]

-- what is put of some octets, where there is room for a piece
pub put_is : (octets buf : List ℕ) (len : ℕ) → len ≡ min (min (length octets) PIECE_MAX) (length buf)
    → take len buf ≡ take len octets → PIECE_MAX ≤ length buf → take len buf ≡ take PIECE_MAX octets
put_is octets buf len is copied room = copied ∙ take_most octets PIECE_MAX len (omega arith) (λ less. omega arith)

pub len_is : (octets buf : List ℕ) (len : ℕ) → len ≡ min (min (length octets) PIECE_MAX) (length buf)
    → PIECE_MAX ≤ length buf → len ≡ length (take PIECE_MAX octets)
len_is octets buf len is room = omega (arith, length-take PIECE_MAX octets)

-- some octets are given exactly where there are some
pub some_given : (octets : List ℕ) (room len : ℕ) → len ≡ min (min (length octets) PIECE_MAX) room → 0 < room
    → nat_lt 0 len ≡ nat_lt 0 (length (take PIECE_MAX octets))
some_given octets room len is some =
    elim (cases_lt 0 (length octets)) [
      | inl more ↦
          lt-ltb 0 len (omega arith) ∙ sym (lt-ltb 0 (length (take PIECE_MAX octets)) (omega (arith, length-take PIECE_MAX octets)))
      | inr none ↦
          le-ltb 0 len (omega arith) ∙ sym (le-ltb 0 (length (take PIECE_MAX octets)) (omega (arith, length-take PIECE_MAX octets)))
    ]

pub some_listed : (octets : List ℕ) → nat_lt 0 (length (take PIECE_MAX octets)) ≡ not (length octets == 0)
some_listed octets =
    elim (cases_lt 0 (length octets)) [
      | inl more ↦
          lt-ltb 0 (length (take PIECE_MAX octets)) (omega (arith, length-take PIECE_MAX octets))
          ∙ sym (ap not (ne_eqb (length octets) 0 (λ same. omega arith)))
      | inr none ↦
          le-ltb 0 (length (take PIECE_MAX octets)) (omega (arith, length-take PIECE_MAX octets))
          ∙ sym (ap not (eq-eqb (length octets) 0 (omega arith)))
    ]

-- the item there is the one that is listed
pub listed_at : (items : List Item) (at : ℕ) (item : Item) (octets : List ℕ) → at < length items
    → item ≡ get_or items at item → octets ≡ item.1.items
    → listed item.0 octets ≡ get_or (map listed_item items) at finished
listed_at [] at item octets within is octets_are = absurd (omega arith)
listed_at (x ∷ xs) zero item octets within is octets_are = ap (listed item.0) octets_are ∙ ap listed_item is
listed_at (x ∷ xs) (suc at) item octets within is octets_are =
    listed_at xs at item octets (omega arith) is octets_are

-- whether it may come, as it was told
pub may_at : (flags slice : List Bool) (listeners : ℕ) (networks : List Network) (items : List Item) (at : ℕ) (item : Item) (octets : List ℕ)
    (told : Bool) → at < length items → item ≡ get_or items at item → octets ≡ item.1.items → slice ≡ flags
    → told ≡ may_come (standing_by slice listeners networks) (listed item.0 octets).step
    → may_come (standing_by flags listeners networks) (get_or (map listed_item items) at finished).step ≡ told
may_at flags slice listeners networks items at item octets told within is octets_are slice_is told_is =
    ap (λ (g : Given). may_come (standing_by flags listeners networks) g.step) (sym (listed_at items at item octets within is octets_are))
    ∙ ap (λ (fs : List Bool). may_come (standing_by fs listeners networks) (listed item.0 octets).step) (sym slice_is)
    ∙ sym told_is
