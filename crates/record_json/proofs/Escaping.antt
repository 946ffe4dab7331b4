-- Octets as a string has them, run by run.
use Rattle.std.proofs.Common.{◌≡◌, ℕ, zero, suc, ◌<◌, true, List, [], ◌∷◌, ◌++◌, length, take, drop, get_or, refl, sym}
use Rattle.std.proofs.Common.{Bool, ap, ◌∙◌, append_assoc, arith, subst, false, ◌≤◌, ◌/◌, ◌%◌}
use Rattle.std.specs.Prelude.{Some, None, Result, Ok, Err, nat_lt, ◌==◌, ◌||◌}
use Rattle.std.specs.List.{AllByRecursion}
use Rattle.std.specs.Char.{digit_char}
use Rattle.std.proofs.lemmas.Bool.{le-ltb, lt-ltb}
use Rattle.std.proofs.lemmas.Grind.{flat_map-append}
use Rattle.std.proofs.lemmas.List.{append-nil, take-append-drop, take_all}
use Rattle.json.specs.Print.{escape, escape_byte, escape_letter}
use Rattle.json.proofs.Printed.Strings.{escape_byte_plain}
use Rattle.memchr.specs.Find.{IsFirstByte, is_byte}
use Rattle.octet_language.specs.Language.{Only}
use Rattle.syslog_fields.specs.Appending.{Anything, Adds, Puts}
use Rattle.syslog_fields.specs.Escapes.{MeansFirst}
use Rattle.syslog_fields.proofs.Appends.{adds_some}
use Rattle.syslog_fields.proofs.Unescaped.{Unescapes, unescapes_all, unescapes_more, unescapes_end}
use Rattle.record_json.specs.Texts.{IsKept, ValueOf, is_escaped}
use Rattle.record_json.proofs.StopRuns.{kept_is}

pub escape-append : (a b : List ℕ) → escape (a ++ b) ≡ escape a ++ escape b
escape-append a b = flat_map-append escape_byte a b

-- ---- one octet

pub short_form : (x l : ℕ) → l ≡ escape_letter x → 0 < l → escape_byte x ≡ 92 ∷ l ∷ []
unfolding escape_byte
short_form x l e h =
    let found : nat_lt 0 (escape_letter x) ≡ true = ap (nat_lt 0) (sym e) ∙ lt-ltb 0 l h in
    rw found (ap (λ (n : ℕ). 92 ∷ n ∷ []) (sym e))

pub control_form : (x l h d : ℕ) → l ≡ escape_letter x → l ≤ 0 → x < 32 → h ≡ digit_char (x / 16)
    → d ≡ digit_char (x % 16) → escape_byte x ≡ 92 ∷ 117 ∷ 48 ∷ 48 ∷ h ∷ d ∷ []
unfolding escape_byte
control_form x l h d e none low high last =
    let found : nat_lt 0 (escape_letter x) ≡ false = ap (nat_lt 0) (sym e) ∙ le-ltb 0 l none in
    rw (found, lt-ltb x 32 low, high, last) refl

pub plain_form : (x l : ℕ) → l ≡ escape_letter x → l ≤ 0 → 32 ≤ x → escape_byte x ≡ x ∷ []
unfolding escape_byte
plain_form x l e none high =
    let found : nat_lt 0 (escape_letter x) ≡ false = ap (nat_lt 0) (sym e) ∙ le-ltb 0 l none in
    rw (found, le-ltb x 32 high) refl

kept_octet : (x : ℕ) → IsKept x → escape_byte x ≡ x ∷ []
kept_octet x h = let k = kept_is x h in escape_byte_plain x k.no_mark k.no_backslash k.no_control

-- ---- runs

pub kept_all : (s : List ℕ) → AllByRecursion IsKept s → escape s ≡ s
kept_all [] h = refl
kept_all (x ∷ s) h =
    ap (λ (u : List ℕ). u ++ escape s) (kept_octet x h.0) ∙ ap (λ (t : List ℕ). x ∷ t) (kept_all s h.1)

kept_prefix : (k : ℕ) (s : List ℕ) → ((i : ℕ) → i < k → IsKept (get_or s i 0)) → AllByRecursion IsKept (take k s)
kept_prefix zero s h = tt
kept_prefix (suc k) [] h = tt
kept_prefix (suc k) (x ∷ s) h = (h 0 (omega arith), kept_prefix k s (λ i less. h (suc i) (omega arith)))

-- up to an octet, and behind it
up_to : (k : ℕ) (s : List ℕ) → ((i : ℕ) → i < k → IsKept (get_or s i 0))
    → escape s ≡ take k s ++ (escape (take 1 (drop k s)) ++ escape (drop 1 (drop k s)))
up_to k s h =
    let found : List ℕ = drop k s in
    ap escape (sym (take-append-drop k s)) ∙ escape-append (take k s) found
    ∙ ap (λ (u : List ℕ). u ++ escape found) (kept_all (take k s) (kept_prefix k s h))
    ∙ ap (λ (u : List ℕ). take k s ++ u)
    (ap escape (sym (take-append-drop 1 found)) ∙ escape-append (take 1 found) (drop 1 found))

-- what was written of octets, and what is left of them
pub record Escapes (text rest old out : List ℕ) : Type 0 where
  pub done : List ℕ
  pub parts : out ≡ old ++ done
  pub is : escape text ≡ done ++ escape rest

pub escapes_all : (text old : List ℕ) → Escapes text text old old
escapes_all text old = record { done = []; parts = sym (append-nil old); is = refl }

pub escapes_begun : (text rest old out : List ℕ) → Escapes text rest old out → Adds Anything old out
escapes_begun text rest old out e = (e.done, tt, e.parts)

pub escapes_more : (text rest old out m1 m2 kept found octet behind : List ℕ) (k : ℕ) → Escapes text rest old out
    → IsFirstByte is_escaped rest (Some k) → kept ≡ take k rest → found ≡ drop k rest → octet ≡ take 1 found
    → behind ≡ drop 1 found → Adds (Only kept) out m1 → Adds (Only (escape octet)) m1 m2 → Escapes text behind old m2
escapes_more text rest old out m1 m2 kept found octet behind k e f p s o b (x, xs, xe) (y, ys, ye) =
    let step : escape rest ≡ kept ++ (escape octet ++ escape behind) =
    rw (p, o, b, s) (up_to k rest (λ i less. f.0.before i (omega arith) less)) in
    record {
      done = e.done ++ (kept ++ escape octet);
      parts = ye ∙ ap (λ (t : List ℕ). t ++ y) (xe ∙ ap (λ (t : List ℕ). t ++ x) e.parts)
          ∙ rw (xs, ys) (simp append_assoc);
      is = e.is ∙ ap (λ (t : List ℕ). e.done ++ t) step ∙ simp append_assoc;
    }

pub escapes_end : {X E : Type 0} (text rest old out new : List ℕ) (r : Result X E) → Escapes text rest old out
    → IsFirstByte is_escaped rest None → Puts (Only rest) out new r → Puts (Only (escape text)) old new r
escapes_end text rest old out new (Ok x) e f (t, ts, te) =
    let kept : AllByRecursion IsKept rest =
    subst (AllByRecursion IsKept) (take_all (length rest) rest (omega arith))
    (kept_prefix (length rest) rest (λ i less. f i (omega arith) less)) in (
      escape text,
      refl,
      te ∙ ap (λ (s : List ℕ). s ++ t) e.parts ∙ append_assoc old e.done t
          ∙ ap (λ (s : List ℕ). old ++ s)
          (ap (λ (s : List ℕ). e.done ++ s) (ts ∙ sym (kept_all rest kept)) ∙ sym e.is),
    )
escapes_end text rest old out new (Err x) e f a =
    adds_some Anything Anything old out new (escapes_begun text rest old out e) a

-- ---- values

-- what was written of a spelling, and what is left of it
pub record ValueWritten (raw rest old out : List ℕ) : Type 0 where
  pub means : List ℕ
  pub is : Unescapes raw rest means
  pub parts : out ≡ old ++ escape means

pub value_all : (raw old : List ℕ) → ValueWritten raw raw old old
value_all raw old = record { means = []; is = unescapes_all raw; parts = sym (append-nil old) }

pub value_begun : (raw rest old out : List ℕ) → ValueWritten raw rest old out → Adds Anything old out
value_begun raw rest old out w = (escape w.means, tt, w.parts)

pub value_more : (raw rest old out m1 m2 plain marked first behind : List ℕ) (k : ℕ) → ValueWritten raw rest old out
    → IsFirstByte (is_byte 92) rest (Some k) → plain ≡ take k rest → marked ≡ drop k rest
    → MeansFirst marked first behind → Adds (Only (escape plain)) out m1 → Adds (Only (escape first)) m1 m2
    → ValueWritten raw behind old m2
value_more raw rest old out m1 m2 plain marked first behind k w f p m b (x, xs, xe) (y, ys, ye) = record {
  means = (w.means ++ plain) ++ first;
  is = unescapes_more raw rest w.means (w.means ++ plain) ((w.means ++ plain) ++ first) plain marked first behind k w.is
      f p m b (plain, refl, refl) (first, refl, refl);
  parts = ye ∙ ap (λ (t : List ℕ). t ++ y) (xe ∙ ap (λ (t : List ℕ). t ++ x) w.parts)
      ∙ rw (xs, ys, escape-append (w.means ++ plain) first, escape-append w.means plain) (simp append_assoc);
}

pub value_end : {X E : Type 0} (raw rest old out new : List ℕ) (r : Result X E) → ValueWritten raw rest old out
    → IsFirstByte (is_byte 92) rest None → Puts (Only (escape rest)) out new r → Puts (ValueOf raw) old new r
value_end raw rest old out new (Ok x) w f (t, ts, te) = (
  escape w.means ++ t,
  λ text h.
      ap (λ (u : List ℕ). escape w.means ++ u) ts ∙ sym (escape-append w.means rest)
      ∙ ap escape (unescapes_end raw rest w.means (w.means ++ rest) w.is f (rest, refl, refl) text h),
  te ∙ ap (λ (s : List ℕ). s ++ t) w.parts ∙ append_assoc old (escape w.means) t,
)
value_end raw rest old out new (Err x) w f a =
    adds_some Anything Anything old out new (value_begun raw rest old out w) a

third : (a b c : Bool) → c ≡ true → (a || b || c) ≡ true
third true b c e = refl
third false true c e = refl
third false false c e = e

-- a value in which nothing has an escape
pub plain_value : (raw : List ℕ) → IsFirstByte is_escaped raw None → (b : List ℕ) → Only raw b → ValueOf raw b
plain_value raw f b e text h =
    let kept : AllByRecursion IsKept raw =
    subst (AllByRecursion IsKept) (take_all (length raw) raw (omega arith))
    (kept_prefix (length raw) raw (λ i less. f i (omega arith) less)) in
    e ∙ sym (kept_all raw kept)
    ∙ ap escape (unescapes_end raw raw [] raw (unescapes_all raw)
    (λ k low less p. f k low less (third (nat_lt (get_or raw k 0) 32) (get_or raw k 0 == 34) (get_or raw k 0 == 92) p))
    (raw, refl, refl) text h)
