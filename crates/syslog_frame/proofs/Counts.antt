-- How the digits of a count continue, and where they stop.
use Rattle.std.proofs.Common.{◌≡◌, ◌≢◌, ℕ, ◌+◌, ◌-◌, ◌*◌, ◌^◌, ◌<◌, ◌≤◌, List, [], ◌∷◌, ◌++◌, length, take, get_or, refl, sym}
use Rattle.std.proofs.Common.{ap, subst, ◌∙◌, append_assoc, arith, inl, inr}
use Rattle.std.specs.List.{AllByRecursion}
use Rattle.std.specs.Fmt.{decimal}
use Rattle.std.proofs.lemmas.Fmt.{decimal_nonempty, first_decimal, decimal_digit}
use Rattle.std.proofs.lemmas.List.{length-append, append-nil}
use Rattle.octet_language.specs.Language.{AnyOf, Begins, IsFaultOffset, Language, NoPrefix, Stops}
use Rattle.syslog_frame.specs.MsgLen.{MsgLen}
use Rattle.syslog_frame.specs.declared.limits.TheConstants.{COUNT_MAX}
use Rattle.syslog_frame.specs.Count.{IsCount, IsNextDigit, IsRefused}
use Rattle.octet_language.proofs.FaultOffset.{IsFaultOffset-from_stops}
use Rattle.octet_language.specs.Digits.{IsDigit}
use Rattle.octet_language.proofs.Decimal.{digits_decimal, goes_on, one_digit, next_digit}
use Rattle.octet_language.proofs.Lists.{heads, parted, not_free, AllByRecursion-weaker}
use Rattle.syslog_frame.proofs.Cuts.{one_taken}

fits : (n : ℕ) → n ≤ COUNT_MAX → n < 2 ^ 64
fits n h = omega arith

pub digits_count : (c : ℕ) (q : List ℕ) → c ≤ COUNT_MAX → IsCount c q → AllByRecursion IsDigit q
digits_count c q small (inl h) = rw h.1 tt
digits_count c q small (inr h) = rw h.1 (digits_decimal c (fits c small))

pub no_space_count : (c : ℕ) (q : List ℕ) → c ≤ COUNT_MAX → IsCount c q → AllByRecursion (λ y. y ≢ 32) q
no_space_count c q small h = AllByRecursion-weaker IsDigit (λ y. y ≢ 32) (λ y d. λ e. omega (arith, d.0, e)) q
    (digits_count c q small h)

-- the space after a count
pub count_space : (c x : ℕ) (q : List ℕ) → IsCount c q → 0 < c → x ≡ 32 → q ++ x ∷ [] ≡ decimal c ++ 32 ∷ []
count_space c x q (inl h) some e = absurd (omega (arith, h.0))
count_space c x q (inr h) some e = ap (λ (u : List ℕ). u ++ x ∷ []) h.1 ∙ ap (λ (k : ℕ). decimal c ++ k ∷ []) e

-- one more digit
pub count_digit : (c x : ℕ) (q : List ℕ) → IsCount c q → IsNextDigit c x → IsCount (10 * c + (x - 48)) (q ++ x ∷ [])
count_digit c x q (inl h) d =
    let same : 10 * c + (x - 48) ≡ x - 48 = omega (arith, h.0) in
    inr (d.1, ap (λ (u : List ℕ). u ++ x ∷ []) h.1 ∙ sym (one_digit x d.0) ∙ ap decimal (sym same))
count_digit c x q (inr h) d =
    inr (d.1, ap (λ (u : List ℕ). u ++ x ∷ []) h.1 ∙ sym (next_digit c x h.0 d.0 (omega (arith, d.2))))

-- one digit more of octets
digit_taken : (c : ℕ) (s : List ℕ) (i : ℕ) → i < length s → IsCount c (take i s) → IsNextDigit c (get_or s i 0)
    → IsCount (10 * c + (get_or s i 0 - 48)) (take (i + 1) s)
digit_taken c s i less is next =
    rw (one_taken [] s i less) (count_digit c (get_or s i 0) (take i s) is next)

-- three digits, the first of which is no zero, and a space
pub count_three : (s : List ℕ) (n : ℕ) → 4 ≤ length s → 49 ≤ get_or s 0 0 → get_or s 0 0 ≤ 57 → IsDigit (get_or s 1 0)
    → IsDigit (get_or s 2 0) → get_or s 3 0 ≡ 32
    → n ≡ 10 * (10 * (get_or s 0 0 - 48) + (get_or s 1 0 - 48)) + (get_or s 2 0 - 48)
    → take 4 s ≡ decimal n ++ 32 ∷ []
count_three s n long low high tens units space is =
    let one = digit_taken 0 s 0 (omega arith) (inl (refl, refl)) ((omega arith, high), omega arith, omega arith) in
    let two = digit_taken _ s 1 (omega arith) one (tens, omega arith, omega (arith, high, tens.1)) in
    let three = digit_taken _ s 2 (omega arith) two (units, omega arith, omega (arith, high, tens.1, units.1)) in
    one_taken [] s 3 (omega arith) ∙ count_space _ (get_or s 3 0) (take 3 s) three (omega arith) space
    ∙ ap (λ (k : ℕ). decimal k ++ 32 ∷ []) (omega arith)

-- a count is continued in the digits of a number: that number is at least so large
digit_in : (n c x : ℕ) (q z : List ℕ) → 0 < n → n ≤ COUNT_MAX → c ≤ COUNT_MAX → IsCount c q → decimal n ≡ q ++ x ∷ z
    → IsNextDigit c x
digit_in n c x q z some low small (inr h) e =
    let g = goes_on n c x z (fits n low) (fits c small) (e ∙ ap (λ (u : List ℕ). u ++ x ∷ z) h.1) in
    (g.1, omega (arith, g.0), omega (arith, g.2))
digit_in n c x q z some low small (inl h) e =
    let whole : decimal n ≡ x ∷ z = e ∙ ap (λ (u : List ℕ). u ++ x ∷ z) h.1 in
    first n c x z some low h.0 whole
  where
    first : (n c x : ℕ) (z : List ℕ) → 0 < n → n ≤ COUNT_MAX → c ≡ 0 → decimal n ≡ x ∷ z → IsNextDigit c x
    first n c x z some low zero-is whole =
        let high = first_decimal n some (fits n low) in
        let x-is = ap (λ (u : List ℕ). get_or u 0 0) whole in
        let d = subst (AllByRecursion IsDigit) whole (digits_decimal n (fits n low)) in
        (d.0, omega (arith, high, x-is), omega (arith, d.0.1, zero-is))

-- after a count's digits an octet that neither continues nor ends it: no count and space are there
pub refused : (n c x : ℕ) (q m f : List ℕ) → 0 < n → n ≤ COUNT_MAX → c ≤ COUNT_MAX → IsCount c q → IsRefused c x
    → q ++ x ∷ m ≡ decimal n ++ 32 ∷ f → ⊥
refused n c x q m f some low small is r e =
    elim (parted (decimal n) (32 ∷ f) q x m (sym e)) [
      | inl z ↦ r.0 (digit_in n c x q z.0 some low small is z.1)
      | inr w ↦ ends w.0 w.1 w.2
    ]
  where
    ends : (w : List ℕ) → q ≡ decimal n ++ w → 32 ∷ f ≡ w ++ x ∷ m → ⊥
    ends [] at here = at_space is (at ∙ append-nil (decimal n)) (heads 32 x f m here)
      where
        at_space : IsCount c q → q ≡ decimal n → 32 ≡ x → ⊥
        at_space (inl h) at sp = omega (arith, decimal_nonempty n (fits n low), ap length (sym h.1 ∙ at))
        at_space (inr h) at sp = r.1 h.0 (sym sp)
    ends (y ∷ w) at here = not_free 32 q (decimal n) w (no_space_count c q small is)
        (at ∙ ap (λ (k : ℕ). decimal n ++ k ∷ w) (sym (heads 32 y f (w ++ x ∷ m) here)))

-- each text of a language begins with a count and a space
abbrev pub HasPrefix : Language → Type 0
HasPrefix L = (s : List ℕ) → L s → (n : ℕ) × (f : List ℕ) × (0 < n) × (n ≤ COUNT_MAX) × (s ≡ decimal n ++ 32 ∷ f)

-- after the digits of a count, before an octet that it refuses
pub record Refusal (c : ℕ) (q : List ℕ) (x : ℕ) : Type 0 where
  pub small : c ≤ COUNT_MAX
  pub digits : IsCount c q
  pub refuses : IsRefused c x

pub NoPrefix-refusal : (L : Language) → HasPrefix L → (c x : ℕ) (q rest b : List ℕ) → Refusal c q x → b ≡ q ++ x ∷ rest
    → NoPrefix L b
NoPrefix-refusal L shape c x q rest b r e u v d h =
    let t = shape u h in
    refused t.0 c x q rest (t.1 ++ v) t.2 t.3 r.small r.digits r.refuses
    (sym e ∙ d ∙ ap (λ (k : List ℕ). k ++ v) t.4 ∙ append_assoc (decimal t.0) (32 ∷ t.1) v)

not_begun : (L : Language) → HasPrefix L → (c x : ℕ) (q rest : List ℕ) → Refusal c q x → ¬ (Begins L (q ++ x ∷ rest))
not_begun L shape c x q rest r (more, h) =
    let t = shape ((q ++ x ∷ rest) ++ more) h in
    refused t.0 c x q (rest ++ more) t.1 t.2 t.3 r.small r.digits r.refuses (sym (append_assoc q (x ∷ rest) more) ∙ t.4)

pub none_begins : (L : Language) → HasPrefix L → (c x : ℕ) (q rest b : List ℕ) → Refusal c q x → b ≡ q ++ x ∷ rest
    → ¬ (Begins L b)
none_begins L shape c x q rest b r e h = not_begun L shape c x q rest r (subst (Begins L) e h)

pub offset_of_refusal : (L : Language) → HasPrefix L → (c x : ℕ) (q rest b : List ℕ) → Refusal c q x → Begins L q
    → b ≡ q ++ x ∷ rest → IsFaultOffset L b (length q)
offset_of_refusal L shape c x q rest b r begins e =
    let s : Stops L b (length (x ∷ rest)) = record {
      read = q;
      rest = x ∷ rest;
      parts = e;
      count = refl;
      begins =
          begins;
      refuses = not_begun L shape c x q [] r;
    } in
    let n : length b - length (x ∷ rest) ≡ length q = omega (arith, ap length e, length-append q (x ∷ rest)) in
    subst (IsFaultOffset L b) n (IsFaultOffset-from_stops L b (length (x ∷ rest)) s)

pub HasPrefix-msg_len : HasPrefix (AnyOf MsgLen)
HasPrefix-msg_len s (n, h) = (n, [], h.0, h.1, h.2)

-- how the digits of a count can continue
pub count_goes_on : (c : ℕ) (q : List ℕ) → c ≤ COUNT_MAX → IsCount c q
    → (n : ℕ) × (more : List ℕ) × (0 < n) × (n ≤ COUNT_MAX) × (q ++ more ≡ decimal n ++ 32 ∷ [])
count_goes_on c q small (inl h) = (
  1,
  49 ∷ 32 ∷ [],
  omega arith,
  omega arith,
  ap (λ (u : List ℕ). u ++ 49 ∷ 32 ∷ []) h.1
      ∙ ap (λ (u : List ℕ). u ++ 32 ∷ []) (sym (decimal_digit 1 (omega arith))),
)
count_goes_on c q small (inr h) = (c, 32 ∷ [], h.0, small, ap (λ (u : List ℕ). u ++ 32 ∷ []) h.1)

pub Begins-count : (c : ℕ) (q : List ℕ) → c ≤ COUNT_MAX → IsCount c q → Begins (AnyOf MsgLen) q
Begins-count c q small is = let g = count_goes_on c q small is in (g.1, (g.0, (g.2, g.3, g.4)))

-- no prefix of digits alone is a text that begins with a count and a space
pub NoPrefix-count : (L : Language) → HasPrefix L → (c : ℕ) (q : List ℕ) → c ≤ COUNT_MAX → IsCount c q → NoPrefix L q
NoPrefix-count L shape c q small is u v e h =
    let t = shape u h in
    not_free 32 q (decimal t.0) (t.1 ++ v) (no_space_count c q small is)
    (e ∙ ap (λ (k : List ℕ). k ++ v) t.4 ∙ append_assoc (decimal t.0) (32 ∷ t.1) v)
