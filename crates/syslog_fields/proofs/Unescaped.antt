-- What a spelling of a value means, octet by octet.
use Rattle.std.proofs.Common.{◌≡◌, ◌≢◌, ℕ, zero, suc, ◌<◌, ◌≤◌, Bool, true, false, List, [], ◌∷◌, ◌++◌, length, take}
use Rattle.std.proofs.Common.{drop, get_or, refl, sym, ap, subst, ◌∙◌, append_assoc, arith, inl, inr, ◌⊎◌, eq-eqb}
use Rattle.std.specs.Prelude.{◌&&◌, ◌==◌, Some, None}
use Rattle.std.specs.List.{AllByRecursion, flat_map}
use Rattle.std.proofs.lemmas.Bool.{cases_eq, eqb-true}
use Rattle.std.proofs.lemmas.Bool.Decides.{nat_tests}
use Rattle.std.proofs.lemmas.List.{append-nil, take_all, take-append-drop}
use Rattle.memchr.specs.Find.{IsFirstByte, is_byte}
use Rattle.octet_language.specs.Language.{Only, Each}
use Rattle.octet_language.proofs.Lists.{AllByRecursion-weaker}
use Rattle.syslog_fields.specs.Appending.{Adds}
use Rattle.syslog_fields.specs.Escapes.{MeansFirst}
use Rattle.syslog_fields.specs.Canonical.{needs_escape}
use Rattle.syslog_fields.specs.Utf8.{Range, Row, Octet, table, InRow, IsCharacter}
use Rattle.syslog_fields.specs.Values.{IsSpecial, IsPlain, Piece, Spells}
use Rattle.syslog_fields.proofs.Characters.{character_some}
use Rattle.syslog_fields.proofs.Values.{no_special}

-- a backslash is left out before an octet that needs one, and any other octet is kept
pub unescaped : List ℕ → List ℕ
unescaped [] = []
unescaped (x ∷ []) = x ∷ []
unescaped (x ∷ y ∷ s) = elim ((x == 92) && needs_escape y) [ true ↦ y ∷ unescaped s | false ↦ x ∷ unescaped (y ∷ s) ]

-- ---- by octets

pub special_test : (x : ℕ) → IsSpecial x → needs_escape x ≡ true
special_test x (inl h) = rw h refl
special_test x (inr (inl h)) = rw h refl
special_test x (inr (inr h)) = rw h refl

pub test_special : (x : ℕ) → needs_escape x ≡ true → IsSpecial x
test_special x h = elim (cases_eq x 34) [
  | inl a ↦ inl a
  | inr a ↦ elim (cases_eq x 92) [
    | inl b ↦ inr (inl b)
    | inr b ↦ elim (cases_eq x 93) [ inl c ↦ inr (inr c) | inr c ↦ absurd (grind (arith, nat_tests)) ]
  ]
]

pub kept : (x : ℕ) (s : List ℕ) → x ≢ 92 → unescaped (x ∷ s) ≡ x ∷ unescaped s
unfolding unescaped
kept x [] h = refl
kept x (y ∷ s) h = go (x == 92) refl
  where
    go : (b : Bool) → (x == 92) ≡ b → unescaped (x ∷ y ∷ s) ≡ x ∷ unescaped (y ∷ s)
    go true e = absurd (h (eqb-true x 92 e))
    go false e = rw (e, unescaped) refl

pub kept_all : (c s : List ℕ) → AllByRecursion (λ x. x ≢ 92) c → unescaped (c ++ s) ≡ c ++ unescaped s
kept_all [] s h = refl
kept_all (x ∷ c) s h = kept x (c ++ s) h.0 ∙ ap (λ (t : List ℕ). x ∷ t) (kept_all c s h.1)

pub left_out : (x : ℕ) (s : List ℕ) → needs_escape x ≡ true → unescaped (92 ∷ x ∷ s) ≡ x ∷ unescaped s
unfolding unescaped
left_out x s h = rw (h, unescaped) refl

pub alone : (x : ℕ) (s : List ℕ) → ¬ (needs_escape x ≡ true) → unescaped (92 ∷ x ∷ s) ≡ 92 ∷ unescaped (x ∷ s)
unfolding unescaped
alone x s h = go (needs_escape x) refl
  where
    go : (b : Bool) → needs_escape x ≡ b → unescaped (92 ∷ x ∷ s) ≡ 92 ∷ unescaped (x ∷ s)
    go true e = absurd (h e)
    go false e = rw (e, unescaped) refl

pub last : unescaped (92 ∷ []) ≡ 92 ∷ unescaped []
unfolding unescaped
last = refl

-- ---- a plain character holds no backslash

abbrev AreHigh : List Range → Type 0
AreHigh [] = Unit {0}
AreHigh (r ∷ rs) = (128 ≤ r.low) × AreHigh rs

high : (rs : List Range) (s : List ℕ) → AreHigh rs → Each Octet rs s → AllByRecursion (λ x. 128 ≤ x) s
high [] s h e = rw e tt
high (r ∷ rs) s h (x, y, e, (n, f, low, most), k) = rw (e, f) ((omega (arith, low, h.0), high rs y h.1 k))

abbrev OneOrHigh : List Row → Type 0
OneOrHigh [] = Unit {0}
OneOrHigh (r ∷ rs) = ((r.behind ≡ []) ⊎ AreHigh (r.first ∷ r.behind)) × OneOrHigh rs

one_or_high : (rs : List Row) (c : List ℕ) → OneOrHigh rs → InRow rs c
    → ((x : ℕ) × (c ≡ x ∷ [])) ⊎ AllByRecursion (λ x. 128 ≤ x) c
one_or_high [] c h k = absurd k
one_or_high (r ∷ rs) c h (inr k) = one_or_high rs c h.1 k
one_or_high (r ∷ rs) c (inr g, h) (inl k) = inr (high (r.first ∷ r.behind) c g k)
one_or_high (r ∷ rs) c (inl g, h) (inl (x, y, e, (n, f, low, most), k)) =
    let none : y ≡ [] = subst (λ (b : List Range). Each Octet b y) g k in
    inl (n, e ∙ rw (f, none) refl)

rows : OneOrHigh table
rows = (
  inl refl,
  (
    inr (omega arith, (omega arith, tt)),
    (
      inr (omega arith, (omega arith, (omega arith, tt))),
      (
        inr (omega arith, (omega arith, (omega arith, tt))),
        (
          inr (omega arith, (omega arith, (omega arith, tt))),
          (
            inr (omega arith, (omega arith, (omega arith, tt))),
            (
              inr (omega arith, (omega arith, (omega arith, (omega arith, tt)))),
              (
                inr (omega arith, (omega arith, (omega arith, (omega arith, tt)))),
                (inr (omega arith, (omega arith, (omega arith, (omega arith, tt)))), tt),
              ),
            ),
          ),
        ),
      ),
    ),
  ),
)

-- a character is one octet, or octets above ASCII
pub alone_or_high : (c : List ℕ) → IsCharacter c → ((x : ℕ) × (c ≡ x ∷ [])) ⊎ AllByRecursion (λ x. 128 ≤ x) c
unfolding IsCharacter
alone_or_high c h = one_or_high table c rows h

-- a plain character begins with no octet that needs a backslash
plain_first : (x : ℕ) (c : List ℕ) → IsPlain (x ∷ c) → ¬ (needs_escape x ≡ true)
plain_first x c h e = no_special x c (test_special x e) h

high_unescaped : (x : ℕ) → 128 ≤ x → ¬ (needs_escape x ≡ true)
high_unescaped x h e = elim (test_special x e)
    [ inl k ↦ omega arith | inr (inl k) ↦ omega arith | inr (inr k) ↦ omega arith ]

-- a plain character needs no backslash
pub plain_bare : (c : List ℕ) → IsPlain c → AllByRecursion (λ x. ¬ (needs_escape x ≡ true)) c
unfolding IsCharacter
plain_bare c h = elim (one_or_high table c rows h.0) [
  | inl k ↦ rw k.1 ((λ e. plain_first k.0 [] (subst IsPlain k.1 h) e, tt))
  | inr k ↦ AllByRecursion-weaker (λ x. 128 ≤ x) (λ x. ¬ (needs_escape x ≡ true)) high_unescaped c k
]

backslash : (x : ℕ) → ¬ (needs_escape x ≡ true) → x ≢ 92
backslash x h e = h (special_test x (inr (inl e)))

pub plain_free : (c : List ℕ) → IsPlain c → AllByRecursion (λ x. x ≢ 92) c
plain_free c h = AllByRecursion-weaker (λ x. ¬ (needs_escape x ≡ true)) (λ x. x ≢ 92) backslash c (plain_bare c h)

-- ---- by pieces

of_piece : (m b s : List ℕ) → Piece m b → unescaped (b ++ s) ≡ m ++ unescaped s
of_piece m b s (inl (x, k, e, f)) = rw (e, f) (left_out x s (special_test x k))
of_piece m b s (inr (inl ([], k, e, f))) = absurd (character_some k.0)
of_piece m b s (inr (inl (x ∷ c, k, e, f))) =
    rw (e, f) (alone x (c ++ s) (plain_first x c k)
    ∙ ap (λ (t : List ℕ). 92 ∷ t) (kept_all (x ∷ c) s (plain_free (x ∷ c) k)))
of_piece m b s (inr (inr (k, e))) = rw e (kept_all m s (plain_free m k))

of_pieces : (ms : List (List ℕ)) (b : List ℕ) → Each Piece ms b → unescaped b ≡ flat_map (λ m. m) ms
unfolding unescaped
of_pieces [] b h = rw h refl
of_pieces (m ∷ ms) b (x, y, e, h, k) = ap unescaped e ∙ of_piece m x y h
    ∙ ap (λ (t : List ℕ). m ++ t) (of_pieces ms y k)

-- the text that a spelling means
pub meaning : (text raw : List ℕ) → Spells text raw → unescaped raw ≡ text
meaning text raw (ms, e, h) = of_pieces ms raw h ∙ sym e

-- ---- run by run

-- what a backslash and the octets after it mean
pub first_means : (octets first rest : List ℕ) → MeansFirst octets first rest
    → unescaped octets ≡ first ++ unescaped rest
first_means octets first rest (inl (x, k, e, f)) = rw (e, f) (left_out x rest (special_test x k))
first_means octets first [] (inr (e, h, f)) = rw (e, f) last
first_means octets first (x ∷ rest) (inr (e, h, f)) = rw (e, f) (alone x rest (λ t. h (test_special x t)))

-- what was read of a spelling, and what is left of it
pub record Unescapes (raw rest done : List ℕ) : Type 0 where
  pub is : unescaped raw ≡ done ++ unescaped rest

pub unescapes_all : (raw : List ℕ) → Unescapes raw raw []
unescapes_all raw = record { is = refl }

pub free_prefix : (k : ℕ) (s : List ℕ) → ((i : ℕ) → i < k → ¬ ((get_or s i 0 == 92) ≡ true))
    → AllByRecursion (λ x. x ≢ 92) (take k s)
free_prefix zero s h = tt
free_prefix (suc k) [] h = tt
free_prefix (suc k) (x ∷ s) h = (
  λ e. h 0 (omega arith) (eq-eqb x 92 e),
  free_prefix k s (λ i less. h (suc i) (omega arith)),
)

pub unescapes_more : (raw rest out m1 m2 plain escaped_rest first behind : List ℕ) (k : ℕ) → Unescapes raw rest out
    → IsFirstByte (is_byte 92) rest (Some k)
    → plain ≡ take k rest → escaped_rest ≡ drop k rest → MeansFirst escaped_rest first behind
    → Adds (Only plain) out m1 → Adds (Only first) m1 m2 → Unescapes raw behind m2
unescapes_more raw rest out m1 m2 plain escaped_rest first behind k u f p m b (x, xs, xe) (y, ys, ye) =
    let parts : rest ≡ plain ++ escaped_rest = sym (take-append-drop k rest) ∙ rw (p, m) refl in
    let run = kept_all plain escaped_rest (subst (AllByRecursion (λ n. n ≢ 92)) (sym p)
    (free_prefix k rest (λ i less. f.0.before i (omega arith) less))) in
    let step : unescaped rest ≡ plain ++ (first ++ unescaped behind) =
    ap unescaped parts ∙ run ∙ ap (λ (t : List ℕ). plain ++ t) (first_means escaped_rest first behind b) in
    record { is = u.is ∙ ap (λ (t : List ℕ). out ++ t) step ∙ sym (rw (ye, xe, xs, ys) (simp append_assoc)) }

pub unescapes_end : (raw rest out new : List ℕ) → Unescapes raw rest out → IsFirstByte (is_byte 92) rest None
    → Adds (Only rest) out new → (text : List ℕ) → Spells text raw → new ≡ text
unfolding unescaped
unescapes_end raw rest out new u f (x, xs, xe) text h =
    let free : AllByRecursion (λ n. n ≢ 92) rest =
    subst (AllByRecursion (λ n. n ≢ 92)) (take_all (length rest) rest (omega arith))
    (free_prefix (length rest) rest (λ i less. f i (omega arith) less)) in
    let whole : unescaped rest ≡ rest = ap unescaped (sym (append-nil rest)) ∙ kept_all rest [] free ∙ append-nil rest
    in
    xe ∙ ap (λ (t : List ℕ). out ++ t) (xs ∙ sym whole) ∙ sym u.is ∙ meaning text raw h
