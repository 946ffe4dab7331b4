-- What is left after bits and octets.
use Rattle.std.proofs.Common.{◌≡◌, ℕ, zero, suc, ◌+◌, ◌-◌, ◌<◌, ◌≤◌, List, [], ◌∷◌, ◌++◌, take, drop, length, get_or, bit_xor, sym, ap, refl, ◌∙◌, arith}
use Rattle.std.proofs.lemmas.List.{at_drop_more, drop_all, length-drop, take_all, take-append-drop}
use Rattle.std.proofs.Math.Seq.{take-add}
use Rattle.crc32c.specs.Castagnoli.{after_bit, after_bits, after_octets}

pub no_bits : (r : ℕ) → after_bits 0 r ≡ r
unfolding after_bits
no_bits r = refl

pub bits_on : (m n r : ℕ) → after_bits (m + n) r ≡ after_bits n (after_bits m r)
unfolding after_bits
bits_on zero n r =
    let e : 0 + n ≡ n = omega arith in
    ap (λ k. after_bits k r) e
bits_on (suc m) n r =
    let e : suc m + n ≡ suc (m + n) = omega arith in
    ap (λ k. after_bits k r) e ∙ bits_on m n (after_bit r)

pub no_octets : (r : ℕ) → after_octets r [] ≡ r
unfolding after_octets
no_octets r = refl

pub first_octet : (r x : ℕ) (xs : List ℕ) → after_octets r (x ∷ xs) ≡ after_octets (after_bits 8 (bit_xor r x)) xs
unfolding after_octets
first_octet r x xs = refl

pub octets_on : (r : ℕ) (xs ys : List ℕ) → after_octets r (xs ++ ys) ≡ after_octets (after_octets r xs) ys
unfolding after_octets
octets_on r [] ys = refl
octets_on r (x ∷ xs) ys = octets_on (after_bits 8 (bit_xor r x)) xs ys

pub one_octet_on : (r : ℕ) (xs : List ℕ) (i : ℕ) → i < length xs
    → after_octets r (drop i xs) ≡ after_octets (after_bits 8 (bit_xor r (get_or xs i 0))) (drop (i + 1) xs)
unfolding after_octets
one_octet_on r xs i l = at_drop_more (after_octets r) xs i 0 l

pub octets_done : (r : ℕ) (xs : List ℕ) (i : ℕ) → length xs ≤ i → after_octets r (drop i xs) ≡ r
octets_done r xs i l = ap (after_octets r) (drop_all i xs l) ∙ no_octets r

-- some octets more
pub octets_more : (r : ℕ) (xs : List ℕ) (i n : ℕ)
    → after_octets r (take (i + n) xs) ≡ after_octets (after_octets r (take i xs)) (take n (drop i xs))
octets_more r xs i n = ap (after_octets r) (take-add i n xs) ∙ octets_on r (take i xs) (take n (drop i xs))

-- first some octets, and then the others
pub octets_split : (r : ℕ) (xs : List ℕ) (i : ℕ) → after_octets (after_octets r (take i xs)) (drop i xs) ≡ after_octets r xs
octets_split r xs i = sym (octets_on r (take i xs) (drop i xs)) ∙ ap (after_octets r) (take-append-drop i xs)

-- all that is behind a place
pub all_behind : (xs : List ℕ) (i : ℕ) → take (length xs - i) (drop i xs) ≡ drop i xs
all_behind xs i =
    let many = length-drop i xs in
    take_all (length xs - i) (drop i xs) (omega (arith, many))
