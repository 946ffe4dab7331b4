-- The names of a store's files are names.
use Rattle.std.proofs.Common.{◌≡◌, ◌≢◌, inl, inr, ⊎_elim, zero, suc, ℕ, ◌+◌, ◌<◌, ◌≤◌, ◌^◌, ◌/◌, ◌%◌, List, [], ◌∷◌, ◌++◌, length}
use Rattle.std.proofs.Common.{ap, arith, length-append}
use Rattle.std.specs.Prelude.{All, codes, decimal, slice_index}
use Rattle.std.specs.List.{AllByRecursion}
use Rattle.std.proofs.lemmas.List.Elements.{All-append, All-cons, All-get_or, All-nil, All-weaker}
use Rattle.hex.specs.Hex.{IsBytes, encode_lower, encode_with, lower_digits}
use Rattle.hex.proofs.HexLemmas.{length-encode_with}
use Rattle.sha2.proofs.Facts256.{length-sha256}
use Rattle.sha2.specs.Sha256.{sha256}
use Rattle.octet_language.specs.Digits.{IsDigit}
use Rattle.octet_language.proofs.Decimal.{digits_decimal}
use Rattle.octet_language.proofs.Lists.{AllByRecursion-append}
use Rattle.disk.specs.Names.{IsFileName, IsNameOctet}
use Rattle.archive_text.proofs.Members.{all_weaker}
use Rattle.record_store.specs.Asides.{aside_name}
use Rattle.record_store.specs.Names.{IsDayName, IsHexadecimal, journal_name}
use Rattle.record_store.specs.Segments.{segment_name}
use Rattle.record_store.proofs.Named.{journal_length}

all_of : (P : ℕ → Type 0) (xs : List ℕ) → AllByRecursion P xs → All P xs
all_of P [] h = All-nil P
all_of P (x ∷ xs) h = All-cons P x xs h.0 (all_of P xs h.1)

-- an octet behind the slash
above : (octet : ℕ) → 48 ≤ octet → IsNameOctet octet
above octet high = (λ is. omega (arith, is, high), λ is. omega (arith, is, high))

dot : IsNameOctet 46
dot = (λ is. omega (arith, is), λ is. omega (arith, is))

journal_octets : AllByRecursion IsNameOctet (codes "journal.")
journal_octets = (
  above 106 (omega arith),
  (
    above 111 (omega arith),
    (
      above 117 (omega arith),
      (
        above 114 (omega arith),
        (above 110 (omega arith), (above 97 (omega arith), (above 108 (omega arith), (dot, tt)))),
      ),
    ),
  ),
)

decimal_octets : (n : ℕ) → n < 2 ^ 64 → AllByRecursion IsNameOctet (decimal n)
decimal_octets n small =
    all_weaker IsDigit IsNameOctet (λ c digit. above c digit.0) (decimal n) (digits_decimal n small)

pub journal_is_name : (n : ℕ) → n < 2 ^ 64 → IsFileName (journal_name n)
journal_is_name n small =
    let size = length-append (codes "journal.") (decimal n) in
    record {
      some = omega (arith, size);
      short = omega (arith, journal_length n small);
      no_dot = λ is. omega (arith, size, ap length is);
      no_dots = λ is. omega (arith, size, ap length is);
      each = all_of IsNameOctet (journal_name n)
          (AllByRecursion-append IsNameOctet (codes "journal.") (decimal n) journal_octets (decimal_octets n small));
    }

damaged_octets : AllByRecursion IsNameOctet (codes "damaged.")
damaged_octets = (
  above 100 (omega arith),
  (
    above 97 (omega arith),
    (
      above 109 (omega arith),
      (
        above 97 (omega arith),
        (above 103 (omega arith), (above 101 (omega arith), (above 100 (omega arith), (dot, tt)))),
      ),
    ),
  ),
)

pub aside_is_name : (n : ℕ) → n < 2 ^ 64 → IsFileName (aside_name n)
aside_is_name n small =
    let size = length-append (codes "damaged.") (journal_name n) in
    record {
      some = omega (arith, size);
      short = omega (arith, size, journal_length n small);
      no_dot = λ is. omega (arith, size, ap length is);
      no_dots = λ is. omega (arith, size, ap length is);
      each = all_of IsNameOctet (aside_name n)
          (AllByRecursion-append IsNameOctet (codes "damaged.") (journal_name n) damaged_octets
          (AllByRecursion-append IsNameOctet (codes "journal.") (decimal n) journal_octets (decimal_octets n small)));
    }

-- ---- segments

-- numbers that follow one another
abbrev counted : ℕ → ℕ → List ℕ
counted first zero = []
counted first (suc n) = first ∷ counted (first + 1) n

decimals : (first n : ℕ) → 48 ≤ first → first + n ≤ 58 → AllByRecursion IsHexadecimal (counted first n)
decimals first zero from to = tt
decimals first (suc n) from to = (inl (from, omega arith), decimals (first + 1) n (omega arith) (omega arith))

letters : (first n : ℕ) → 97 ≤ first → first + n ≤ 103 → AllByRecursion IsHexadecimal (counted first n)
letters first zero from to = tt
letters first (suc n) from to = (inr (from, omega arith), letters (first + 1) n (omega arith) (omega arith))

lower_are : AllByRecursion IsHexadecimal lower_digits
lower_are =
    AllByRecursion-append IsHexadecimal (counted 48 10) (counted 97 6) (decimals 48 10 (omega arith) (omega arith))
    (letters 97 6 (omega arith) (omega arith))

lower_is : (d : ℕ) → d < 16 → IsHexadecimal (slice_index lower_digits d)
lower_is d below = All-get_or IsHexadecimal lower_digits d 0 below (all_of IsHexadecimal lower_digits lower_are)

pub encoded_digits : (bytes : List ℕ) → IsBytes bytes → All IsHexadecimal (encode_lower bytes)
unfolding encode_with
encoded_digits [] are = All-nil IsHexadecimal
encoded_digits (b ∷ rest) are =
    let small : b < 256 = are 0 in
    All-cons IsHexadecimal (slice_index lower_digits (b / 16))
    (slice_index lower_digits (b % 16) ∷ encode_with lower_digits rest) (lower_is (b / 16) (omega arith))
    (All-cons IsHexadecimal (slice_index lower_digits (b % 16)) (encode_with lower_digits rest)
    (lower_is (b % 16) (omega arith)) (encoded_digits rest (λ k. are (suc k))))

digits_are : (hex : List ℕ) → All IsHexadecimal hex → All IsNameOctet hex
digits_are hex are =
    All-weaker IsHexadecimal IsNameOctet
    (λ x digit. above x (⊎_elim (λ decimal. decimal.0) (λ low. omega (arith, low.0)) digit)) hex are

ending_octets : AllByRecursion IsNameOctet (codes ".archive")
ending_octets = (
  dot,
  (
    above 97 (omega arith),
    (
      above 114 (omega arith),
      (
        above 99 (omega arith),
        (
          above 104 (omega arith),
          (above 105 (omega arith), (above 118 (omega arith), (above 101 (omega arith), tt))),
        ),
      ),
    ),
  ),
)

pub segment_is_name : (day hex : List ℕ) → length hex ≡ 64 → All IsHexadecimal hex → IsDayName day
    → IsFileName (day ++ 46 ∷ hex ++ codes ".archive")
segment_is_name day hex long are is =
    let size = length-append (day ++ 46 ∷ hex) (codes ".archive") in
    let front = length-append day (46 ∷ hex) in
    record {
      some = omega (arith, size, front, long);
      short = omega (arith, size, front, long, is.short);
      no_dot = λ same. omega (arith, size, front, long, ap length same);
      no_dots = λ same. omega (arith, size, front, long, ap length same);
      each = All-append IsNameOctet (day ++ 46 ∷ hex) (codes ".archive")
          (All-append IsNameOctet day (46 ∷ hex) is.each (All-cons IsNameOctet 46 hex dot (digits_are hex are)))
          (all_of IsNameOctet (codes ".archive") ending_octets);
    }

-- a segment has no short name, as that of a draft is
pub segment_not_short : (period text name : List ℕ) → length name < 73 → segment_name period text ≢ name
segment_not_short period text name short same =
    let hex = encode_lower (sha256 text) in
    omega (
      arith,
      short,
      ap length same,
      length-append (period ++ 46 ∷ hex) (codes ".archive"),
      length-append period (46 ∷ hex),
      length-encode_with lower_digits (sha256 text),
      length-sha256 text,
    )
