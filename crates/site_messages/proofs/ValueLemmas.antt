-- Numbers, times and digests are words.
use Rattle.std.proofs.Common.{◌≡◌, ◌≢◌, ℕ, zero, suc, ◌+◌, ◌/◌, ◌%◌, ◌^◌, ◌<◌, List, [], ◌∷◌, length, get_or}
use Rattle.std.proofs.Common.{refl, sym, ap, subst, ◌∙◌, arith}
use Rattle.std.proofs.Common.{Bool, true, false, ◌==◌, ◌||◌, eq-eqb, rules}
use Rattle.std.specs.Prelude.{ℤ, pos, Option, Some, None, Result, Ok, Err, MatchOption, MatchResult, IfSome, IsSome, IsTrue, ◌↔◌, decimal}
use lib.IntN.{negsuc}
use Rattle.std.specs.Int.RustNames.{FitsSigned}
use mir.Syntax.{w64}
use Rattle.std.specs.List.{AllByRecursion}
use Rattle.std.specs.Fmt.{signed_decimal}
use Rattle.std.proofs.lemmas.Int.{ints}
use Rattle.std.proofs.lemmas.Fmt.{decimal_injective, decimal_nonempty, length-decimal-le, length_signed_le, signed_decimal_injective}
use lib.Signed.{mag}
use Rattle.hex.specs.Hex.{decode_sized, encode_lower, encode_with, lower_digits}
use Rattle.hex.proofs.HexLemmas.{decode_sized-encode_lower, length-encode_with}
use Rattle.octet_language.specs.Digits.{IsDigit}
use Rattle.octet_language.proofs.Decimal.{digits_decimal}
use Rattle.octet_language.proofs.Lists.{AllByRecursion-weaker}
use Rattle.syslog_value.specs.Parts.{IsInstant}
use Rattle.site_messages.specs.Words.{IsDigest, IsNumber, IsTime, IsWord, time_word}
use Rattle.site_messages.proofs.WordLemmas.{AreWords}

-- a test has one answer
pub not_both : (b : Bool) → b ≡ false → IsTrue b → ⊥
not_both true e t = absurd cc
not_both false e t = absurd (search (rules, t))

-- ---- numbers

no_space : (n : ℕ) → n < 2 ^ 64 → AllByRecursion (λ y. y ≢ 32) (decimal n)
no_space n small =
    AllByRecursion-weaker IsDigit (λ y. y ≢ 32) (λ y d e. omega (arith, d.0, e)) (decimal n) (digits_decimal n small)

pub number_words : AreWords 32 20 IsNumber decimal
number_words = record {
  word = λ n small. record {
    free = no_space n small;
    short = length-decimal-le 20 n (omega arith) (omega arith) small;
  };
  one = decimal_injective;
}

-- ---- times

pub instant_small : (i : ℤ) → IsInstant i → mag i + 1 < 10 ^ 18
instant_small (pos n) h = let k = h.1 in omega (arith, ints)
instant_small (negsuc n) h = let k = h.0 in omega (arith, ints)

pub instant_small_enough : (i : ℤ) → IsInstant i → mag i < 2 ^ 63
instant_small_enough i h = let small = instant_small i h in omega arith

pub instant_fits : (i : ℤ) → IsInstant i → FitsSigned w64 i
instant_fits (pos n) h = let small = instant_small (pos n) h in search rules
instant_fits (negsuc n) h = let small = instant_small (negsuc n) h in search rules

pub one_instant : (word : List ℕ) (m : ℤ) (o : Option ℤ) → word ≡ signed_decimal m → (IsSome o ↔ IsInstant m)
    → IfSome o (λ i. i ≡ m) → ((i : ℤ) → IsInstant i → word ≡ signed_decimal i → IsInstant m)
    → MatchOption o ((i : ℤ) → IsInstant i → word ≢ signed_decimal i) (λ i. IsInstant i × (word ≡ signed_decimal i))
one_instant word m None is valid value found =
    λ i in_range same. let some : IsSome {T = ℤ} None = valid.1 (found i in_range same) in cc
one_instant word m (Some i) is valid value found =
    (subst IsInstant (sym value) (valid.0 refl), is ∙ ap signed_decimal (sym value))

instant_word : (i : ℤ) → IsInstant i → AllByRecursion (λ y. y ≢ 32) (signed_decimal i)
instant_word (pos n) h = let small = instant_small (pos n) h in no_space n (omega arith)
instant_word (negsuc n) h =
    let small = instant_small (negsuc n) h in ((λ e. omega arith), no_space (suc n) (omega arith))

-- a hyphen alone is no number
no_hyphen : (i : ℤ) → IsInstant i → 45 ∷ [] ≢ signed_decimal i
no_hyphen (pos n) h e =
    let small = instant_small (pos n) h in
    let digits = digits_decimal n (omega arith) in
    let first = subst (AllByRecursion IsDigit) (sym e) digits in
    omega (arith, first.0.0)
no_hyphen (negsuc n) h e =
    let small = instant_small (negsuc n) h in
    let some = decimal_nonempty (suc n) (omega arith) in
    let none : [] ≡ decimal (suc n) = cc in
    omega (arith, some, ap length none)

same_time : (t u : Option ℤ) → IsTime t → IsTime u → time_word t ≡ time_word u → t ≡ u
same_time None None h k e = refl
same_time None (Some j) h k e = absurd (no_hyphen j k e)
same_time (Some i) None h k e = absurd (no_hyphen i h (sym e))
same_time (Some i) (Some j) h k e =
    let small = instant_small i h in
    let less = instant_small j k in
    ap (λ z. Some z) (signed_decimal_injective i j (omega arith) (omega arith) e)

pub time_words : AreWords 32 20 IsTime time_word
time_words = record { word = time_is_word; one = same_time }
  where
    time_is_word : (t : Option ℤ) → IsTime t → IsWord 32 20 (time_word t)
    time_is_word None h = record { free = ((λ e. omega arith), tt); short = omega arith }
    time_is_word (Some i) h =
        let small = instant_small i h in
        let short = length_signed_le 18 i small (omega arith) in
        record { free = instant_word i h; short = omega arith }

-- neither a hyphen nor an instant
pub no_time : (word : List ℕ) → word ≢ 45 ∷ [] → ((i : ℤ) → IsInstant i → word ≢ signed_decimal i)
    → (t : Option ℤ) → IsTime t → word ≢ time_word t
no_time word h k None valid e = h e
no_time word h k (Some i) valid e = k i valid e

-- ---- digests

pub at_ok : {T E : Type 0} (d : Result T E) (x : T) (P : T → Type 0) (Q : E → Type 0) → d ≡ Ok x → MatchResult d P Q
    → P x
at_ok (Ok y) x P Q e h = let k : y ≡ x = cc in subst P k h
at_ok (Err y) x P Q e h = absurd (let k : Err y ≡ Ok x = e in cc)

free_at : (l : List ℕ) (k : ℕ) → AllByRecursion (λ y. y ≢ 32) l → get_or l k 0 ≢ 32
free_at [] k h e = omega arith
free_at (x ∷ l) zero h e = h.0 e
free_at (x ∷ l) (suc k) h e = free_at l k h.1 e

has_space : List ℕ → Bool
has_space [] = false
has_space (x ∷ l) = (x == 32) || has_space l

either_false : (a b : Bool) → (a || b) ≡ false → (a ≡ false) × (b ≡ false)
either_false true b e = absurd cc
either_false false b e = (refl, e)

free_from : (l : List ℕ) → has_space l ≡ false → AllByRecursion (λ y. y ≢ 32) l
unfolding has_space
free_from [] e = tt
free_from (x ∷ l) e =
    let parts = either_false (x == 32) (has_space l) e in
    ((λ same. let yes : (x == 32) ≡ true = eq-eqb x 32 same in let no_ = parts.0 in absurd cc), free_from l parts.1)

free_digits : AllByRecursion (λ y. y ≢ 32) lower_digits
unfolding has_space
free_digits = free_from lower_digits refl

free_hex : (d : List ℕ) → AllByRecursion (λ y. y ≢ 32) (encode_with lower_digits d)
unfolding encode_with
free_hex [] = tt
free_hex (b ∷ d) = (free_at lower_digits (b / 16) free_digits, (free_at lower_digits (b % 16) free_digits, free_hex d))

same_digest : (d e : List ℕ) → IsDigest d → IsDigest e → encode_lower d ≡ encode_lower e → d ≡ e
same_digest d e h k same =
    let first : decode_sized (encode_lower d) 32 ≡ Ok d = decode_sized-encode_lower d 32 h.size h.octets in
    let second : decode_sized (encode_lower e) 32 ≡ Ok e = decode_sized-encode_lower e 32 k.size k.octets in
    let both : Ok d ≡ Ok e = sym first ∙ ap (λ (l : List ℕ). decode_sized l 32) same ∙ second in
    cc

pub digest_words : AreWords 32 64 IsDigest encode_lower
digest_words = record {
  word = λ d h. record { free = free_hex d; short = omega (arith, length-encode_with lower_digits d, h.size) };
  one = same_digest;
}
