-- The table has what it says.
use Rattle.std.proofs.Common.{◌≡◌, ℕ, zero, suc, ◌+◌, ◌*◌, ◌<◌, List, take, drop, map, length, get_or, sym, ap, refl, ◌∙◌, arith}
use Rattle.std.proofs.lemmas.List.{get_or-map, get_or-drop, get_or-take, length-take-le}
use Rattle.std.proofs.lemmas.List.FromFn.{get_or-map-range_with_len}
use Rattle.std.specs.List.{range_with_len}
use Rattle.crc32c.specs.declared.remainders.TheConstants.{REMAINDERS}
use Rattle.crc32c.specs.Castagnoli.{after_bits}
use Rattle.crc32c.proofs.Registers.{bits_on}

-- the first row has what eight bits leave of each octet
abbrev HasFirst : List ℕ → Type 0
HasFirst table = take 256 table ≡ map (after_bits 8) (range_with_len 0 256)

-- each further row has what eight bits leave of the row before it
abbrev HasNext : List ℕ → Type 0
HasNext table = drop 256 table ≡ map (after_bits 8) (take 1792 table)

first_of : (table : List ℕ) → HasFirst table → (octet : ℕ) → octet < 256 → get_or table octet 0 ≡ after_bits 8 octet
first_of table h octet l =
    sym (get_or-take 256 table octet 0 l) ∙ ap (λ xs. get_or xs octet 0) h
    ∙ get_or-map-range_with_len (after_bits 8) 0 256 octet octet 0 l (omega arith)

row_of : (table : List ℕ) → HasFirst table → HasNext table → length table ≡ 2048
    → (row octet : ℕ) → row < 8 → octet < 256 → get_or table (256 * row + octet) 0 ≡ after_bits (8 * (row + 1)) octet
row_of table h n long zero octet r l =
    let e : 256 * 0 + octet ≡ octet = omega arith in
    ap (λ i. get_or table i 0) e ∙ first_of table h octet l
row_of table h n long (suc row) octet r l =
    let place : ℕ = 256 * row + octet in
    let e : 256 * suc row + octet ≡ 256 + place = omega arith in
    let bits : 8 * (suc row + 1) ≡ 8 * (row + 1) + 8 = omega arith in
    let inside : place < 1792 = omega arith in
    let many : length (take 1792 table) ≡ 1792 = length-take-le 1792 table (omega arith) in
    ap (λ i. get_or table i 0) e ∙ sym (get_or-drop 256 table place 0) ∙ ap (λ xs. get_or xs place 0) n
    ∙ get_or-map (after_bits 8) (take 1792 table) place 0 0 (omega (arith, many, inside))
    ∙ ap (after_bits 8) (get_or-take 1792 table place 0 inside ∙ row_of table h n long row octet (omega arith) l)
    ∙ sym (ap (λ k. after_bits k octet) bits ∙ bits_on (8 * (row + 1)) 8 octet)

first_row : HasFirst REMAINDERS
unfolding after_bits
first_row = refl

next_rows : HasNext REMAINDERS
unfolding after_bits
next_rows = refl

pub first_remainder : (octet : ℕ) → octet < 256 → get_or REMAINDERS octet 0 ≡ after_bits 8 octet
first_remainder = first_of REMAINDERS first_row

pub remainder_at : (row octet : ℕ) → row < 8 → octet < 256 → get_or REMAINDERS (256 * row + octet) 0 ≡ after_bits (8 * (row + 1)) octet
remainder_at = row_of REMAINDERS first_row next_rows refl
