-- Words, numbers and hashes are read.
use Rattle.std.proofs.Common.{◌≡◌, ◌≢◌, ℕ, zero, suc, ◌+◌, ◌<◌, List, [], ◌∷◌, ◌++◌, length, take, drop, get_or, sym}
use Rattle.std.proofs.Common.{ap, ◌∙◌, arith, drop-cons, length-append, inl, inr, Bool, true, false, rules}
use Rattle.std.specs.Prelude.{Some, None, IsTrue, EachIndex, decimal, slice_index}
use Rattle.std.specs.List.{AllByRecursion}
use Rattle.std.proofs.Math.Seq.{get_or-append_seam}
use Rattle.std.proofs.lemmas.Bool.Decides.{Decides-eqb}
use Rattle.std.proofs.lemmas.Fmt.{decimal_injective}
use Rattle.std.proofs.lemmas.List.{take-append-drop}
use Rattle.memchr.specs.Find.{IsFirstByte, is_byte}
use Rattle.octet_language.specs.Digits.{IsDigit}
use Rattle.octet_language.proofs.Decimal.{digits_decimal}
use Rattle.octet_language.proofs.Lists.{AllByRecursion-weaker, by_length, same_until}
use Rattle.ledger.specs.Words.{IsFree, IsHash, IsHexDigit, IsNumber, IsPrinted, IsWord, word_and}

-- a test has one answer
pub not_both : (b : Bool) → b ≡ false → IsTrue b → ⊥
not_both true e t = absurd cc
not_both false e t = absurd (search (rules, t))

-- ---- words have no space

free_at : (P : ℕ → Type 0) → ((x : ℕ) → P x → x ≢ 32) → (w : List ℕ) → EachIndex w (λ k. P (slice_index w k))
    → IsFree w
free_at P apart [] h = tt
free_at P apart (x ∷ w) h =
    (apart x (h zero (omega arith)), free_at P apart w (λ k low. h (suc k) (omega arith)))

pub word_free : (most : ℕ) (w : List ℕ) → IsWord most w → IsFree w
word_free most w h = free_at IsPrinted (λ x p e. omega (arith, p.0, e)) w h.printed

digit_apart : (x : ℕ) → IsHexDigit x → x ≢ 32
digit_apart x (inl h) e = omega (arith, h.0, e)
digit_apart x (inr h) e = omega (arith, h.0, e)

pub hash_free : (h : List ℕ) → IsHash h → IsFree h
hash_free h is = free_at IsHexDigit digit_apart h is.digits

pub number_free : (n : ℕ) → IsNumber n → IsFree (decimal n)
number_free n small =
    AllByRecursion-weaker IsDigit (λ y. y ≢ 32) (λ y d e. omega (arith, d.0, e)) (decimal n) (digits_decimal n small)

-- ---- a text has one first word

pub parts_one : (a b s t : List ℕ) → IsFree a → IsFree b → word_and a s ≡ word_and b t → (a ≡ b) × (s ≡ t)
parts_one a b s t p q e =
    let same = same_until 32 a b s t p q e in
    let both = by_length a b (32 ∷ s) (32 ∷ t) (ap length same) e in
    let rest : 32 ∷ s ≡ 32 ∷ t = both.1 in
    (same, cc)

-- what is before the first space has none
free_before : (l : List ℕ) (end at : ℕ) → at < length l
    → ((k : ℕ) → k < at → get_or l k 0 ≢ end) → AllByRecursion (λ y. y ≢ end) (take at l)
free_before l end zero less none = tt
free_before [] end (suc at) less none = tt
free_before (x ∷ l) end (suc at) less none =
    (none zero (omega arith), free_before l end at (omega arith) (λ k low. none (suc k) (omega arith)))

pub first_word : (b : List ℕ) (at : ℕ) → IsFirstByte (is_byte 32) b (Some at)
    → IsFree (take at b) × (b ≡ word_and (take at b) (drop (at + 1) b))
first_word b at (none, here) =
    let inside : at < length b = none.high in
    let octet : get_or b at 0 ≡ 32 = (Decides-eqb (get_or b at 0) 32).0 here in
    let before : (k : ℕ) → k < at → get_or b k 0 ≢ 32 =
    λ k less e. none.before k (omega arith) less ((Decides-eqb (get_or b k 0) 32).1 e) in
    let next : suc at ≡ at + 1 = omega arith in (
      free_before b 32 at inside before,
      sym (take-append-drop at b)
          ∙ ap (λ (l : List ℕ). take at b ++ l) (drop-cons b at 0 inside)
          ∙ ap (λ (x : ℕ). take at b ++ x ∷ drop (suc at) b) octet
          ∙ ap (λ (k : ℕ). take at b ++ 32 ∷ drop k b) next,
    )

pub no_word : (b w rest : List ℕ) → IsFirstByte (is_byte 32) b None → b ≢ word_and w rest
no_word b w rest none e =
    let octet : get_or b (length w) 0 ≡ 32 =
    ap (λ (l : List ℕ). get_or l (length w) 0) e ∙ get_or-append_seam w 32 rest 0 in
    let inside : length w < length b = omega (arith, ap length e, length-append w (32 ∷ rest)) in
    none (length w) (omega arith) inside ((Decides-eqb (get_or b (length w) 0) 32).1 octet)

-- ---- what a text begins with, by its first word

pub first_is : (text w rest v r : List ℕ) → IsFree w → text ≡ word_and w rest → IsFree v → text ≡ word_and v r
    → (w ≡ v) × (rest ≡ r)
first_is text w rest v r p is q e = parts_one w v rest r p q (sym is ∙ e)

pub number_is : (text rest r : List ℕ) (m n : ℕ) → IsNumber m → text ≡ word_and (decimal m) rest → IsNumber n
    → text ≡ word_and (decimal n) r → (m ≡ n) × (rest ≡ r)
number_is text rest r m n small is less e =
    let both = first_is text (decimal m) rest (decimal n) r (number_free m small) is (number_free n less) e in
    (decimal_injective m n small less both.0, both.1)

-- ---- what a text ends with, by 64 octets

pub end_is : (a b c d : List ℕ) → length c ≡ 64 → length d ≡ 64 → word_and a c ≡ word_and b d → (a ≡ b) × (c ≡ d)
end_is a b c d few less e =
    let long : length a ≡ length b =
    omega (arith, ap length e, length-append a (32 ∷ c), length-append b (32 ∷ d)) in
    let both = by_length a b (32 ∷ c) (32 ∷ d) long e in
    let rest : 32 ∷ c ≡ 32 ∷ d = both.1 in
    (both.0, cc)
