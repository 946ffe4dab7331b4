-- Places and bounds are read.
use Rattle.std.proofs.Common.{◌≡◌, ◌≢◌, ℕ, ◌-◌, ◌<◌, ◌≤◌, List, [], ◌∷◌, ◌++◌, length, take, drop, get_or, refl, sym}
use Rattle.std.proofs.Common.{false, ◌==◌, ap, ◌∙◌, append_assoc, arith, drop-cons, length-append}
use Rattle.std.specs.Prelude.{ℤ, pos, Option, Some, None, codes}
use lib.IntN.{negsuc}
use Rattle.std.specs.List.{AllByRecursion}
use Rattle.std.proofs.lemmas.Fmt.{decimal_nonempty}
use Rattle.std.proofs.lemmas.List.{length-take-le, take-append-drop}
use Rattle.octet_language.specs.Digits.{IsDigit}
use Rattle.octet_language.proofs.Decimal.{digits_decimal}
use Rattle.octet_language.proofs.Lists.{same_prefix}
use Rattle.archive_text.specs.Entries.{Entry}
use Rattle.site_messages.specs.Reading.{IsGap, IsWhole}
use Rattle.site_messages.specs.Words.{IsNumber, IsShort, IsTime, counted_and, counted_text, number_text, only_text, time_text, time_word}
use Rattle.site_messages.specs.Texts.{IsHigh, IsPlace, high_text, place_and}
use Rattle.site_messages.specs.declared.gap.Gap.{Gap}
use Rattle.site_messages.specs.declared.gap.Gap.TheVariants.{More, Bad}
use Rattle.site_messages.specs.declared.limits.TheConstants.{PLACE_MAX}
use Rattle.site_messages.proofs.ValueLemmas.{instant_small}
use Rattle.site_messages.proofs.Wholes.{Splits, both_same, rest_is}

-- ---- counted octets

counted_is : (b rest more end w : List ℕ) (count : ℕ) → IsWhole IsNumber number_text b count rest → IsShort w
    → b ++ more ≡ counted_text w ++ end → (length w ≡ count) × (rest ++ more ≡ w ++ end)
counted_is b rest more end w count h short e =
    let long : b ++ more ≡ number_text (length w) ++ (w ++ end) = e ∙ append_assoc (number_text (length w)) w end in
    let same : length w ≡ count = h.only (length w) more (w ++ end) (omega arith) long in
    (same, rest_is IsNumber number_text b rest more (w ++ end) count (length w) h same long)

pub counted_long : (b rest : List ℕ) (count : ℕ) → IsWhole IsNumber number_text b count rest → PLACE_MAX < count
    → IsGap IsShort counted_text b Bad
counted_long b rest count h long w more end short e =
    let k = counted_is b rest more end w count h short e in omega (arith, k.0)

pub counted_lacks : (b rest : List ℕ) (count : ℕ) → IsWhole IsNumber number_text b count rest → length rest < count
    → IsGap IsShort counted_text b (More (count - length rest))
counted_lacks b rest count h less = (
  omega arith,
  λ w more end short e.
      let k = counted_is b rest more end w count h short e in
      omega (arith, k.0, ap length k.1, length-append rest more, length-append w end),
)

pub counted_whole : (b rest : List ℕ) (count : ℕ) → IsWhole IsNumber number_text b count rest → count ≤ PLACE_MAX
    → count ≤ length rest → IsWhole IsShort counted_text b (take count rest) (drop count rest)
counted_whole b rest count h few low =
    let size : length (take count rest) ≡ count = length-take-le count rest low in
    record {
      valid = omega arith;
      parts =
          h.parts ∙ ap (λ (l : List ℕ). number_text count ++ l) (sym (take-append-drop count rest))
          ∙ sym (append_assoc (number_text count) (take count rest) (drop count rest))
          ∙ ap (λ (k : ℕ). (number_text k ++ take count rest) ++ drop count rest) (sym size);
      only = λ w more end short e.
          let k = counted_is b rest more end w count h short e in
          same_prefix w (take count rest) end (drop count rest ++ more) (k.0 ∙ sym size)
          (sym k.1 ∙ ap (λ (l : List ℕ). l ++ more) (sym (take-append-drop count rest))
          ∙ append_assoc (take count rest) (drop count rest) more);
    }

pub counted_and_splits : (end : List ℕ) → Splits IsShort (counted_and end) IsShort counted_text
    (λ (u : Unit {0}). Unit {0}) (only_text end) (λ w. w) (λ _. tt)
counted_and_splits end = record {
  text_is = λ u. refl;
  first = λ u h. h;
  second = λ u h. tt;
  both = λ u h k. h;
  same = λ u w e k. e;
}

-- ---- places

pub place_splits : (end : List ℕ) → Splits IsPlace (place_and end) IsTime time_text IsShort (counted_and end)
    (λ (p : Entry). p.instant) (λ (p : Entry). p.octets)
place_splits end = record {
  text_is = λ u. refl;
  first = λ u h. h.time;
  second = λ u h. h.short;
  both = λ u h k. record { time = h; short = k };
  same = λ u w e k. both_same (λ i o. record { instant = i; octets = o }) u.instant w.instant u.octets w.octets e k;
}

-- ---- upper bounds

-- octets that begin otherwise than the word of an open range
pub record BeginsOtherwise (l : List ℕ) : Type 0 where
  pub head : ℕ
  pub tail : List ℕ
  pub parts : l ≡ head ∷ tail
  pub other : head ≢ 111

digits_begin : (l : List ℕ) → 0 < length l → AllByRecursion IsDigit l → BeginsOtherwise l
digits_begin [] some h = absurd (omega arith)
digits_begin (x ∷ l) some h = record { head = x; tail = l; parts = refl; other = λ e. omega (arith, h.0.1) }

time_begins : (t : Option ℤ) → IsTime t → BeginsOtherwise (time_word t)
time_begins None h = record { head = 45; tail = []; parts = refl; other = λ e. omega arith }
time_begins (Some (pos n)) h =
    let small = instant_small (pos n) h in
    digits_begin _ (decimal_nonempty n (omega arith)) (digits_decimal n (omega arith))
time_begins (Some (negsuc n)) h = record { head = 45; tail = _; parts = refl; other = λ e. omega arith }

place_begins : (end : List ℕ) (p : Entry) → IsPlace p → BeginsOtherwise (place_and end p)
place_begins end p h =
    let t = time_begins p.instant h.time in
    record {
      head = t.head;
      tail = (t.tail ++ 32 ∷ []) ++ counted_and end p.octets;
      parts = ap (λ (l : List ℕ). (l ++ 32 ∷ []) ++ counted_and end p.octets) t.parts;
      other = t.other;
    }

-- no place begins as the word of an open range does
no_place : (l more end rest : List ℕ) (p : Entry) → IsPlace p → (111 ∷ l) ++ more ≡ place_and end p ++ rest → ⊥
no_place l more end rest p h e =
    let k = place_begins end p h in
    let whole : 111 ∷ (l ++ more) ≡ k.head ∷ (k.tail ++ rest) = e ∙ ap (λ (m : List ℕ). m ++ rest) k.parts in
    let same : k.head ≡ 111 = cc in
    k.other same

pub some_of : (l : List ℕ) → false ≡ (length l == 0) → 0 < length l
some_of [] e = absurd cc
some_of (x ∷ l) e = omega arith

begins_at : (b : List ℕ) → 0 < length b → b ≡ get_or b 0 0 ∷ drop 1 b
begins_at b some = drop-cons b 0 0 some

pub open_whole : (b rest : List ℕ) → IsWhole (λ (u : Unit {0}). Unit {0}) (only_text (codes "open\n")) b tt rest
    → IsWhole IsHigh high_text b None rest
open_whole b rest h = record { valid = tt; parts = h.parts; only = only }
  where
    only : (o : Option Entry) (more end : List ℕ) → IsHigh o → b ++ more ≡ high_text o ++ end → o ≡ None
    only None more end k e = refl
    only (Some p) more end k e =
        absurd (no_place (codes "pen\n" ++ rest) more (10 ∷ []) end p k (ap (λ (l : List ℕ). l ++ more) (sym h.parts) ∙ e))

pub open_gap : (b : List ℕ) (gap : Gap) → 0 < length b → get_or b 0 0 ≡ 111
    → IsGap (λ (u : Unit {0}). Unit {0}) (only_text (codes "open\n")) b gap → IsGap IsHigh high_text b gap
open_gap b (More n) some first h = (h.0, lacks)
  where
    lacks : (o : Option Entry) (more end : List ℕ) → IsHigh o → b ++ more ≡ high_text o ++ end → n ≤ length more
    lacks None more end k e = h.1 tt more end tt e
    lacks (Some p) more end k e =
        absurd (no_place (drop 1 b) more (10 ∷ []) end p k
        (ap (λ (l : List ℕ). l ++ more) (sym (begins_at b some ∙ ap (λ (x : ℕ). x ∷ drop 1 b) first)) ∙ e))
open_gap b Bad some first h = never
  where
    never : (o : Option Entry) (more end : List ℕ) → IsHigh o → ¬ (b ++ more ≡ high_text o ++ end)
    never None more end k e = h tt more end tt e
    never (Some p) more end k e =
        no_place (drop 1 b) more (10 ∷ []) end p k
        (ap (λ (l : List ℕ). l ++ more) (sym (begins_at b some ∙ ap (λ (x : ℕ). x ∷ drop 1 b) first)) ∙ e)

-- what begins otherwise is not open
not_open : (b more end : List ℕ) → 0 < length b → get_or b 0 0 ≢ 111 → b ++ more ≡ codes "open\n" ++ end → ⊥
not_open b more end some other e =
    let whole : get_or b 0 0 ∷ (drop 1 b ++ more) ≡ 111 ∷ (codes "pen\n" ++ end) =
    ap (λ (l : List ℕ). l ++ more) (sym (begins_at b some)) ∙ e in
    let same : get_or b 0 0 ≡ 111 = cc in
    other same

pub bound_whole : (b rest : List ℕ) (p : Entry) → 0 < length b → get_or b 0 0 ≢ 111
    → IsWhole IsPlace (place_and (10 ∷ [])) b p rest → IsWhole IsHigh high_text b (Some p) rest
bound_whole b rest p some other h = record { valid = h.valid; parts = h.parts; only = only }
  where
    only : (o : Option Entry) (more end : List ℕ) → IsHigh o → b ++ more ≡ high_text o ++ end → o ≡ Some p
    only None more end k e = absurd (not_open b more end some other e)
    only (Some q) more end k e = ap (λ (x : Entry). Some x) (h.only q more end k e)

pub bound_gap : (b : List ℕ) (gap : Gap) → 0 < length b → get_or b 0 0 ≢ 111
    → IsGap IsPlace (place_and (10 ∷ [])) b gap → IsGap IsHigh high_text b gap
bound_gap b (More n) some other h = (h.0, lacks)
  where
    lacks : (o : Option Entry) (more end : List ℕ) → IsHigh o → b ++ more ≡ high_text o ++ end → n ≤ length more
    lacks None more end k e = absurd (not_open b more end some other e)
    lacks (Some p) more end k e = h.1 p more end k e
bound_gap b Bad some other h = never
  where
    never : (o : Option Entry) (more end : List ℕ) → IsHigh o → ¬ (b ++ more ≡ high_text o ++ end)
    never None more end k e = not_open b more end some other e
    never (Some p) more end k e = h p more end k e

pub nothing_gap : (b : List ℕ) → length b ≡ 0 → IsGap IsHigh high_text b (More 1)
nothing_gap b none = (omega arith, lacks)
  where
    lacks : (o : Option Entry) (more end : List ℕ) → IsHigh o → b ++ more ≡ high_text o ++ end → 1 ≤ length more
    lacks None more end k e =
        omega (arith, none, ap length e, length-append b more, length-append (codes "open\n") end)
    lacks (Some p) more end k e =
        let begins = place_begins (10 ∷ []) p k in
        omega (
          arith,
          none,
          ap length e,
          length-append b more,
          length-append (place_and (10 ∷ []) p) end,
          ap length begins.parts,
        )
