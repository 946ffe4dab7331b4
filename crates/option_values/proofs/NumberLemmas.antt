-- Numbers in words.
use Rattle.std.proofs.Common.{◌≡◌, ◌≢◌, ℕ, ◌<◌, ◌≤◌, ◌^◌, List, true, Some, None}
use Rattle.std.proofs.Common.{Err, get_or, length, ap, subst, sym, ◌∙◌, arith}
use Rattle.std.specs.Prelude.{IfSome, not, ◌==◌, nat_le, ◌&&◌}
use Rattle.std.specs.Str.{all_ascii_digits}
use Rattle.std.specs.Str.Parse.{IsNumeral, digits_value, ParsesUnsigned, without_leading_plus}
use Rattle.std.proofs.lemmas.Bool.{and_from, and_parts, cond-true, cond-false, false_from_ne_true, le-leb, leb-true}
use Rattle.std.proofs.lemmas.Bool.{not_from_false, not-true, cond_both, ne_eqb, eqb-false}
use Rattle.std.proofs.lemmas.Str.Parse.{IsNumeralModel, numerals_by_value, parse_plain, without_leading_plus_none}
use Rattle.std.proofs.lemmas.Str.Parse.{tells_all_ascii_digits}
use Rattle.option_values.specs.Numbers.{is_numeral, number_in}

own : IsNumeralModel (λ ds. all_ascii_digits ds ≡ true) (digits_value 10)
own = numerals_by_value _ tells_all_ascii_digits

pub number_yes : (first last : ℕ) (text : List ℕ) (n : ℕ) → all_ascii_digits text ≡ true → 0 < length text
    → n ≡ digits_value 10 text → first ≤ n → n ≤ last → Some n ≡ number_in first last text
number_yes first last text n digits some e low high =
    let a : first ≤ digits_value 10 text = omega (arith, e, low) in
    let b : digits_value 10 text ≤ last = omega (arith, e, high) in
    let nonempty : not (length text == 0) ≡ true =
    not_from_false _ (ne_eqb (length text) 0 λ z. omega (arith, z, some)) in
    let test : (is_numeral text && (nat_le first (digits_value 10 text) && nat_le (digits_value 10 text) last)) ≡ true =
    and_from _ _ (and_from _ _ digits nonempty) (and_from _ _ (le-leb _ _ a) (le-leb _ _ b)) in
    ap Some e ∙ sym (cond-true _ (Some (digits_value 10 text)) None test)

pub number_no : (first last : ℕ) (text : List ℕ)
    → (all_ascii_digits text ≡ true → 0 < length text → first ≤ digits_value 10 text → digits_value 10 text ≤ last → ⊥)
    → None ≡ number_in first last text
number_no first last text never =
    sym (cond-false _ (Some (digits_value 10 text)) None (false_from_ne_true _ λ e.
    let (numeral, range) = and_parts (is_numeral text) _ e in
    let (digits, some) = and_parts (all_ascii_digits text) _ numeral in
    let (low, high) = and_parts (nat_le first (digits_value 10 text)) _ range in
    let z : length text ≡ 0 → ⊥ = eqb-false (length text) 0 (not-true _ some) in
    never digits (omega (arith, z)) (leb-true _ _ low) (leb-true _ _ high)))

-- the texts that `parse` reads, but for those with a plus sign
pub parsed_number : (bits : ℕ) (text : List ℕ) (n : ℕ)
    → (IsNumeral 10 (without_leading_plus text) × (digits_value 10 (without_leading_plus text) < 2 ^ bits))
    × (n ≡ digits_value 10 (without_leading_plus text))
    → get_or text 0 0 ≢ 43 → (all_ascii_digits text ≡ true) × (0 < length text) × (n ≡ digits_value 10 text)
parsed_number bits text n h plus =
    let e : without_leading_plus text ≡ text = without_leading_plus_none text plus in
    let k = rw e at h in (own.from text k.0.0.1, k.0.0.0, k.1)

pub parsed_small : (bits : ℕ) (text : List ℕ) (n : ℕ)
    → (IsNumeral 10 (without_leading_plus text) × (digits_value 10 (without_leading_plus text) < 2 ^ bits))
    × (n ≡ digits_value 10 (without_leading_plus text)) → n < 2 ^ bits
parsed_small bits text n h = subst (λ m. m < 2 ^ bits) (sym h.1) h.0.1

pub unparsed_number : {E : Type 0} (bits first last : ℕ) (text : List ℕ) (e : E)
    → ParsesUnsigned bits 10 text (Err e)
    → get_or text 0 0 ≢ 43 → last < 2 ^ bits → None ≡ number_in first last text
unparsed_number bits first last text e h plus few =
    number_no first last text
    (λ digits some low high. parse_plain own bits text (Err e) h plus (digits, some, omega (arith, few, high)))

pub number_small : (first last : ℕ) (text : List ℕ) → IfSome (number_in first last text) (λ n. n ≤ last)
number_small first last text =
    let n = digits_value 10 text in
    cond_both _ (Some n) None (λ r. IfSome r (λ m. m ≤ last))
    (λ e. leb-true _ _ (and_parts (nat_le first n) _ (and_parts (is_numeral text) _ e).1).1) (λ e. tt)
