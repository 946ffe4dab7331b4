-- Eight octets at once.
use Rattle.std.proofs.Common.{◌≡◌, ℕ, ◌+◌, ◌-◌, ◌*◌, ◌/◌, ◌%◌, ◌^◌, ◌<◌, ◌≤◌, List, [], ◌∷◌, take, length, get_or, bit_xor, sym, ap, refl, ◌∙◌, arith, lit<}
use Rattle.std.proofs.lemmas.Nat.{xor_comm, shr-shr, shr_below}
use Rattle.std.proofs.Math.Nat.{mod-eq_of_lt, div-one}
use Rattle.std.specs.Int.{w64, from_le_bytes}
use Rattle.std.specs.Int.Bits.{xor_zero_r}
use lib.Bits.{xor_assoc}
use Rattle.crc32c.specs.Castagnoli.{after_bits, after_octets}
use Rattle.crc32c.proofs.Registers.{no_bits, bits_on, first_octet, no_octets}
use Rattle.crc32c.proofs.Sums.{xor_apart, after_bits_xor, bits_above, octet_leaves}

-- octets as one number, the first one lowest
abbrev pub number : List ℕ → ℕ
number [] = 0
number (x ∷ xs) = number xs * 256 + x

-- each is one
abbrev pub AreOctets : List ℕ → Type 0
AreOctets [] = Unit {0}
AreOctets (x ∷ xs) = (x < 256) × AreOctets xs

-- an octet, and a number above it
xor_first : (r x n : ℕ) → x < 256 → bit_xor r (n * 256 + x) ≡ bit_xor (bit_xor r x) (n * 256)
xor_first r x n l =
    ap (bit_xor r) (sym (xor_apart n x l) ∙ xor_comm (n * 256) x) ∙ sym (xor_assoc r x (n * 256))

-- octets one by one leave what they leave as one number
pub octets_as_number : (r : ℕ) (xs : List ℕ) → AreOctets xs → after_octets r xs ≡ after_bits (8 * length xs) (bit_xor r (number xs))
octets_as_number r [] h = no_octets r ∙ sym (no_bits (bit_xor r 0) ∙ xor_zero_r r)
octets_as_number r (x ∷ xs) h =
    let e : 8 * length (x ∷ xs) ≡ 8 + 8 * length xs = omega arith in
    let first : after_bits 8 (bit_xor r (number xs * 256 + x)) ≡ bit_xor (after_bits 8 (bit_xor r x)) (number xs) =
    ap (after_bits 8) (xor_first r x (number xs) h.0) ∙ after_bits_xor 8 (bit_xor r x) (number xs * 256)
    ∙ ap (bit_xor (after_bits 8 (bit_xor r x))) (bits_above 8 (number xs)) in
    first_octet r x xs ∙ octets_as_number (after_bits 8 (bit_xor r x)) xs h.1
    ∙ ap (after_bits (8 * length xs)) (sym first)
    ∙ sym (ap (λ n. after_bits n (bit_xor r (number xs * 256 + x))) e ∙ bits_on 8 (8 * length xs) (bit_xor r (number xs * 256 + x)))

-- the first octet of a number, and those behind it
pub octet_apart : (n w : ℕ) → after_bits (8 * (n + 1)) w ≡ bit_xor (after_bits (8 * n) (w / 256)) (after_bits (8 * (n + 1)) (w % 256))
octet_apart n w =
    let e : 8 * (n + 1) ≡ 8 + 8 * n = omega arith in
    let split : (v : ℕ) → after_bits (8 * (n + 1)) v ≡ after_bits (8 * n) (after_bits 8 v) =
    λ v. ap (λ m. after_bits m v) e ∙ bits_on 8 (8 * n) v in
    split w ∙ ap (after_bits (8 * n)) (octet_leaves w) ∙ after_bits_xor (8 * n) (after_bits 8 (w % 256)) (w / 256)
    ∙ ap (λ m. bit_xor m (after_bits (8 * n) (w / 256))) (sym (split (w % 256)))
    ∙ xor_comm (after_bits (8 * (n + 1)) (w % 256)) (after_bits (8 * n) (w / 256))

-- what the octet that comes in this row leaves
abbrev pub row_of : ℕ → ℕ → ℕ
row_of w row = after_bits (8 * (row + 1)) (w / 2 ^ (8 * (7 - row)) % 256)

first_row : (w : ℕ) → w < 2 ^ 64 → row_of w 0 ≡ after_bits 8 (w / 2 ^ 56)
first_row w l =
    let small : w / 2 ^ 56 < 2 ^ 8 = shr_below w 8 56 l in
    ap (after_bits 8) (mod-eq_of_lt small)

next_row : (w row : ℕ) → row < 8
    → bit_xor (after_bits (8 * row) (w / 2 ^ (8 * (8 - row)))) (row_of w row) ≡ after_bits (8 * (row + 1)) (w / 2 ^ (8 * (7 - row)))
next_row w row l =
    let e : 8 * (7 - row) + 8 ≡ 8 * (8 - row) = omega arith in
    let down : w / 2 ^ (8 * (8 - row)) ≡ w / 2 ^ (8 * (7 - row)) / 256 = sym (shr-shr w (8 * (7 - row)) 8 ∙ ap (λ n. w / 2 ^ n) e) in
    ap (λ n. bit_xor (after_bits (8 * row) n) (row_of w row)) down ∙ sym (octet_apart row (w / 2 ^ (8 * (7 - row))))

-- the rows of a word make what the word leaves
pub all_rows : (w : ℕ) → w < 2 ^ 64
    → bit_xor (bit_xor (bit_xor (bit_xor (bit_xor (bit_xor (bit_xor (row_of w 0) (row_of w 1)) (row_of w 2)) (row_of w 3)) (row_of w 4)) (row_of w 5)) (row_of w 6)) (row_of w 7)
    ≡ after_bits 64 w
all_rows w l =
    ap (λ n. bit_xor (bit_xor (bit_xor (bit_xor (bit_xor (bit_xor (bit_xor n (row_of w 1)) (row_of w 2)) (row_of w 3)) (row_of w 4)) (row_of w 5)) (row_of w 6)) (row_of w 7)) (first_row w l)
    ∙ ap (λ n. bit_xor (bit_xor (bit_xor (bit_xor (bit_xor (bit_xor n (row_of w 2)) (row_of w 3)) (row_of w 4)) (row_of w 5)) (row_of w 6)) (row_of w 7)) (next_row w 1 (lit< tt))
    ∙ ap (λ n. bit_xor (bit_xor (bit_xor (bit_xor (bit_xor n (row_of w 3)) (row_of w 4)) (row_of w 5)) (row_of w 6)) (row_of w 7)) (next_row w 2 (lit< tt))
    ∙ ap (λ n. bit_xor (bit_xor (bit_xor (bit_xor n (row_of w 4)) (row_of w 5)) (row_of w 6)) (row_of w 7)) (next_row w 3 (lit< tt))
    ∙ ap (λ n. bit_xor (bit_xor (bit_xor n (row_of w 5)) (row_of w 6)) (row_of w 7)) (next_row w 4 (lit< tt))
    ∙ ap (λ n. bit_xor (bit_xor n (row_of w 6)) (row_of w 7)) (next_row w 5 (lit< tt))
    ∙ ap (λ n. bit_xor n (row_of w 7)) (next_row w 6 (lit< tt))
    ∙ next_row w 7 (lit< tt)
    ∙ ap (after_bits 64) (div-one w)

-- the first eight
eight : (xs : List ℕ) → 8 ≤ length xs
    → take 8 xs ≡ get_or xs 0 0 ∷ get_or xs 1 0 ∷ get_or xs 2 0 ∷ get_or xs 3 0 ∷ get_or xs 4 0 ∷ get_or xs 5 0 ∷ get_or xs 6 0 ∷ get_or xs 7 0 ∷ []
eight [] l = absurd (omega arith)
eight (a ∷ []) l = absurd (omega arith)
eight (a ∷ b ∷ []) l = absurd (omega arith)
eight (a ∷ b ∷ c ∷ []) l = absurd (omega arith)
eight (a ∷ b ∷ c ∷ d ∷ []) l = absurd (omega arith)
eight (a ∷ b ∷ c ∷ d ∷ e ∷ []) l = absurd (omega arith)
eight (a ∷ b ∷ c ∷ d ∷ e ∷ f ∷ []) l = absurd (omega arith)
eight (a ∷ b ∷ c ∷ d ∷ e ∷ f ∷ g ∷ []) l = absurd (omega arith)
eight (a ∷ b ∷ c ∷ d ∷ e ∷ f ∷ g ∷ h ∷ xs) l = refl

-- a word that is read with the register upon it
pub word_octets : (r read : ℕ) (xs : List ℕ) → 8 ≤ length xs → ((i : ℕ) → get_or xs i 0 < 256)
    → read ≡ from_le_bytes w64 (get_or xs 0 0 ∷ get_or xs 1 0 ∷ get_or xs 2 0 ∷ get_or xs 3 0 ∷ get_or xs 4 0 ∷ get_or xs 5 0 ∷ get_or xs 6 0 ∷ get_or xs 7 0 ∷ [])
    → after_bits 64 (bit_xor read r) ≡ after_octets r (take 8 xs)
word_octets r read xs l octets is =
    let ys : List ℕ = get_or xs 0 0 ∷ get_or xs 1 0 ∷ get_or xs 2 0 ∷ get_or xs 3 0 ∷ get_or xs 4 0 ∷ get_or xs 5 0 ∷ get_or xs 6 0 ∷ get_or xs 7 0 ∷ [] in
    let same : read ≡ number ys = is ∙ omega arith in
    let each : AreOctets ys = (octets 0, (octets 1, (octets 2, (octets 3, (octets 4, (octets 5, (octets 6, (octets 7, tt)))))))) in
    ap (after_bits 64) (ap (λ n. bit_xor n r) same ∙ xor_comm (number ys) r)
    ∙ sym (octets_as_number r ys each) ∙ ap (after_octets r) (sym (eight xs l))
