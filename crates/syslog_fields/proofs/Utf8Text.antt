-- UTF-8 by the table and std's UTF-8 are one.
use Rattle.std.proofs.Common.{◌≡◌, ℕ, ◌+◌, ◌-◌, ◌*◌, ◌/◌, ◌%◌, ◌<◌, ◌≤◌, ◌⊎◌, List, [], ◌∷◌, ◌++◌, take, drop, refl}
use Rattle.std.proofs.Common.{sym, subst, arith, true, IsUtf8, inl, inr}
use Rattle.std.specs.Char.{IsScalar}
use Rattle.std.proofs.lemmas.Bool.{cases_lt, and_parts}
use Rattle.std.proofs.lemmas.Bool.Decides.{nat_tests}
use Rattle.std.proofs.lemmas.Str.{IsUtf8-encode, IsUtf8-append, IsUtf8-nil}
use lib.Utf8.{encode, encodes, scalar, scalars, scalar_cases}
use Rattle.octet_language.specs.Language.{Each}
use Rattle.syslog_fields.specs.Utf8.{Range, Row, from_to, tail, row, table, Octet, InRow, IsCharacter, Character}
use Rattle.syslog_fields.specs.Utf8.{IsText}
use Rattle.syslog_fields.proofs.Characters.{octet_prefix, octet_cons, row_to, each_some}

-- ---- the octets of a scalar value

encode1 : (a : ℕ) → a ≤ 0x7F → encode a ≡ a ∷ []
unfolding encode
encode1 a h = grind (arith, nat_tests)

encode2 : (a b : ℕ) → 0xC2 ≤ a → a ≤ 0xDF → 0x80 ≤ b → b ≤ 0xBF → encode ((a - 192) * 64 + (b - 128)) ≡ a ∷ b ∷ []
unfolding encode
encode2 a b h1 h2 h3 h4 =
    let c = (a - 192) * 64 + (b - 128) in
    let one : 192 + c / 64 ≡ a = omega arith in
    let two : 128 + c % 64 ≡ b = omega arith in
    grind (arith, nat_tests)

scalar2 : (a b : ℕ) → 0xC2 ≤ a → a ≤ 0xDF → 0x80 ≤ b → b ≤ 0xBF → IsScalar ((a - 192) * 64 + (b - 128))
scalar2 a b h1 h2 h3 h4 = grind (arith, nat_tests)

encode3 : (a b d : ℕ) → 0xE0 ≤ a → a ≤ 0xEF → (a ≡ 0xE0 → 0xA0 ≤ b) → 0x80 ≤ b → b ≤ 0xBF → 0x80 ≤ d → d ≤ 0xBF
    → encode ((a - 224) * 4096 + (b - 128) * 64 + (d - 128)) ≡ a ∷ b ∷ d ∷ []
unfolding encode
encode3 a b d h1 h2 h3 h4 h5 h6 h7 =
    let c = (a - 224) * 4096 + (b - 128) * 64 + (d - 128) in
    let least : 2048 ≤ c = grind arith in
    let one : 224 + c / 4096 ≡ a = omega arith in
    let two : 128 + c / 64 % 64 ≡ b = omega arith in
    let three : 128 + c % 64 ≡ d = omega arith in
    grind (arith, nat_tests)

scalar3 : (a b d : ℕ) → 0xE0 ≤ a → a ≤ 0xEF → (a ≡ 0xED → b ≤ 0x9F) → 0x80 ≤ b → b ≤ 0xBF → 0x80 ≤ d → d ≤ 0xBF
    → IsScalar ((a - 224) * 4096 + (b - 128) * 64 + (d - 128))
scalar3 a b d h1 h2 h3 h4 h5 h6 h7 = grind (arith, nat_tests)

encode4 : (a b d e : ℕ) → 0xF0 ≤ a → a ≤ 0xF4 → (a ≡ 0xF0 → 0x90 ≤ b) → 0x80 ≤ b → b ≤ 0xBF → 0x80 ≤ d → d ≤ 0xBF
    → 0x80 ≤ e → e ≤ 0xBF → encode ((a - 240) * 262144 + (b - 128) * 4096 + (d - 128) * 64 + (e - 128))
    ≡ a ∷ b ∷ d ∷ e ∷ []
unfolding encode
encode4 a b d e h1 h2 h3 h4 h5 h6 h7 h8 h9 =
    let c = (a - 240) * 262144 + (b - 128) * 4096 + (d - 128) * 64 + (e - 128) in
    let least : 65536 ≤ c = grind arith in
    let one : 240 + c / 262144 ≡ a = omega arith in
    let two : 128 + c / 4096 % 64 ≡ b = omega arith in
    let three : 128 + c / 64 % 64 ≡ d = omega arith in
    let four : 128 + c % 64 ≡ e = omega arith in
    grind (arith, nat_tests)

scalar4 : (a b d e : ℕ) → 0xF0 ≤ a → a ≤ 0xF4 → (a ≡ 0xF0 → 0x90 ≤ b) → (a ≡ 0xF4 → b ≤ 0x8F) → 0x80 ≤ b → b ≤ 0xBF
    → 0x80 ≤ d → d ≤ 0xBF → 0x80 ≤ e → e ≤ 0xBF
    → IsScalar ((a - 240) * 262144 + (b - 128) * 4096 + (d - 128) * 64 + (e - 128))
scalar4 a b d e h1 h2 h3 h3b h4 h5 h6 h7 h8 h9 = grind (arith, nat_tests)

scalar1 : (a : ℕ) → a ≤ 0x7F → IsScalar a
scalar1 a h = grind (arith, nat_tests)

-- ---- a character of the table is UTF-8

-- each octet is in its range
abbrev Fit : List Range → List ℕ → Type 0
Fit [] [] = Unit {0}
Fit [] (x ∷ xs) = ⊥
Fit (r ∷ rs) [] = ⊥
Fit (r ∷ rs) (x ∷ xs) = (r.low ≤ x) × (x ≤ r.high) × Fit rs xs

fits : (rs : List Range) (s : List ℕ) → Each Octet rs s → Fit rs s
fits [] [] h = tt
fits [] (x ∷ s) h = absurd cc
fits (r ∷ rs) [] h = absurd (each_some r rs h)
fits (r ∷ rs) (x ∷ s) h = let k = octet_prefix r rs x s h in (k.0, k.1, fits rs s k.2)

utf8_1 : (r : Range) (c : List ℕ) → r.high ≤ 0x7F → Fit (r ∷ []) c → IsUtf8 c
utf8_1 r [] h f = absurd f
utf8_1 r (a ∷ b ∷ c) h f = absurd f.2
utf8_1 r (a ∷ []) h f =
    let low : a ≤ 0x7F = omega (arith, f.1, h) in
    subst IsUtf8 (encode1 a low) (IsUtf8-encode a (scalar1 a low))

utf8_2 : (r : Range) (c : List ℕ) → 0xC2 ≤ r.low → r.high ≤ 0xDF → Fit (r ∷ tail ∷ []) c → IsUtf8 c
utf8_2 r [] l h f = absurd f
utf8_2 r (a ∷ []) l h f = absurd f.2
utf8_2 r (a ∷ b ∷ d ∷ c) l h f = absurd f.2.2
utf8_2 r (a ∷ b ∷ []) l h (f1, f2, (g1, g2, k)) =
    let a1 : 0xC2 ≤ a = omega arith in
    let a2 : a ≤ 0xDF = omega arith in
    subst IsUtf8 (encode2 a b a1 a2 g1 g2) (IsUtf8-encode _ (scalar2 a b a1 a2 g1 g2))

utf8_3 : (r q : Range) (c : List ℕ) → 0xE0 ≤ r.low → r.high ≤ 0xEF → (r.low ≤ 0xE0 → 0xA0 ≤ q.low)
    → (r.low ≤ 0xED → 0xED ≤ r.high → q.high ≤ 0x9F) → 0x80 ≤ q.low → q.high ≤ 0xBF → Fit (r ∷ q ∷ tail ∷ []) c
    → IsUtf8 c
utf8_3 r q [] l h u v m n f = absurd f
utf8_3 r q (a ∷ []) l h u v m n f = absurd f.2
utf8_3 r q (a ∷ b ∷ []) l h u v m n f = absurd f.2.2
utf8_3 r q (a ∷ b ∷ d ∷ e ∷ c) l h u v m n f = absurd f.2.2.2
utf8_3 r q (a ∷ b ∷ d ∷ []) l h u v m n (f1, f2, (g1, g2, (k1, k2, k))) =
    let a1 : 0xE0 ≤ a = omega arith in
    let a2 : a ≤ 0xEF = omega arith in
    let b1 : 0x80 ≤ b = omega arith in
    let b2 : b ≤ 0xBF = omega arith in
    let first : a ≡ 0xE0 → 0xA0 ≤ b = λ e. omega (arith, u (omega arith)) in
    let last : a ≡ 0xED → b ≤ 0x9F = λ e. omega (arith, v (omega arith) (omega arith)) in
    subst IsUtf8 (encode3 a b d a1 a2 first b1 b2 k1 k2) (IsUtf8-encode _ (scalar3 a b d a1 a2 last b1 b2 k1 k2))

utf8_4 : (r q : Range) (c : List ℕ) → 0xF0 ≤ r.low → r.high ≤ 0xF4 → (r.low ≤ 0xF0 → 0x90 ≤ q.low)
    → (0xF4 ≤ r.high → q.high ≤ 0x8F) → 0x80 ≤ q.low → q.high ≤ 0xBF → Fit (r ∷ q ∷ tail ∷ tail ∷ []) c → IsUtf8 c
utf8_4 r q [] l h u v m n f = absurd f
utf8_4 r q (a ∷ []) l h u v m n f = absurd f.2
utf8_4 r q (a ∷ b ∷ []) l h u v m n f = absurd f.2.2
utf8_4 r q (a ∷ b ∷ d ∷ []) l h u v m n f = absurd f.2.2.2
utf8_4 r q (a ∷ b ∷ d ∷ e ∷ g ∷ c) l h u v m n f = absurd f.2.2.2.2
utf8_4 r q (a ∷ b ∷ d ∷ e ∷ []) l h u v m n (f1, f2, (g1, g2, (k1, k2, (i1, i2, i)))) =
    let a1 : 0xF0 ≤ a = omega arith in
    let a2 : a ≤ 0xF4 = omega arith in
    let b1 : 0x80 ≤ b = omega arith in
    let b2 : b ≤ 0xBF = omega arith in
    let first : a ≡ 0xF0 → 0x90 ≤ b = λ e. omega (arith, u (omega arith)) in
    let last : a ≡ 0xF4 → b ≤ 0x8F = λ e. omega (arith, v (omega arith)) in
    subst IsUtf8 (encode4 a b d e a1 a2 first b1 b2 k1 k2 i1 i2)
    (IsUtf8-encode _ (scalar4 a b d e a1 a2 first last b1 b2 k1 k2 i1 i2))

in_table : (c : List ℕ) → InRow table c → IsUtf8 c
in_table c (inl h) = utf8_1 (from_to 0x00 0x7f) c (omega arith) (fits (from_to 0x00 0x7f ∷ []) c h)
in_table c (inr (inl h)) = utf8_2 (from_to 0xc2 0xdf) c (omega arith) (omega arith)
    (fits (from_to 0xc2 0xdf ∷ tail ∷ []) c h)
in_table c (inr (inr (inl h))) = utf8_3 (from_to 0xe0 0xe0) (from_to 0xa0 0xbf) c (omega arith) (omega arith)
    (λ k. omega arith) (λ k l. omega arith) (omega arith) (omega arith)
    (fits (from_to 0xe0 0xe0 ∷ from_to 0xa0 0xbf ∷ tail ∷ []) c h)
in_table c (inr (inr (inr (inl h)))) = utf8_3 (from_to 0xe1 0xec) tail c (omega arith) (omega arith) (λ k. omega arith)
    (λ k l. omega arith) (omega arith) (omega arith) (fits (from_to 0xe1 0xec ∷ tail ∷ tail ∷ []) c h)
in_table c (inr (inr (inr (inr (inl h))))) =
    utf8_3 (from_to 0xed 0xed) (from_to 0x80 0x9f) c (omega arith) (omega arith) (λ k. omega arith) (λ k l. omega arith)
    (omega arith) (omega arith) (fits (from_to 0xed 0xed ∷ from_to 0x80 0x9f ∷ tail ∷ []) c h)
in_table c (inr (inr (inr (inr (inr (inl h)))))) =
    utf8_3 (from_to 0xee 0xef) tail c (omega arith) (omega arith) (λ k. omega arith) (λ k l. omega arith) (omega arith)
    (omega arith) (fits (from_to 0xee 0xef ∷ tail ∷ tail ∷ []) c h)
in_table c (inr (inr (inr (inr (inr (inr (inl h))))))) =
    utf8_4 (from_to 0xf0 0xf0) (from_to 0x90 0xbf) c (omega arith) (omega arith) (λ k. omega arith) (λ k. omega arith)
    (omega arith) (omega arith) (fits (from_to 0xf0 0xf0 ∷ from_to 0x90 0xbf ∷ tail ∷ tail ∷ []) c h)
in_table c (inr (inr (inr (inr (inr (inr (inr (inl h)))))))) =
    utf8_4 (from_to 0xf1 0xf3) tail c (omega arith) (omega arith) (λ k. omega arith) (λ k. omega arith) (omega arith)
    (omega arith) (fits (from_to 0xf1 0xf3 ∷ tail ∷ tail ∷ tail ∷ []) c h)
in_table c (inr (inr (inr (inr (inr (inr (inr (inr (inl h))))))))) =
    utf8_4 (from_to 0xf4 0xf4) (from_to 0x80 0x8f) c (omega arith) (omega arith) (λ k. omega arith) (λ k. omega arith)
    (omega arith) (omega arith) (fits (from_to 0xf4 0xf4 ∷ from_to 0x80 0x8f ∷ tail ∷ tail ∷ []) c h)
in_table c (inr (inr (inr (inr (inr (inr (inr (inr (inr h))))))))) = absurd h

pub IsUtf8-character : (c : List ℕ) → IsCharacter c → IsUtf8 c
unfolding IsCharacter
IsUtf8-character c h = in_table c h

each_utf8 : (cs : List (List ℕ)) (b : List ℕ) → Each Character cs b → IsUtf8 b
each_utf8 [] b h = subst IsUtf8 (sym h) IsUtf8-nil
each_utf8 (c ∷ cs) b (x, y, e, (h, f), k) =
    subst IsUtf8 (sym e) (IsUtf8-append x y (subst IsUtf8 (sym f) (IsUtf8-character c h)) (each_utf8 cs y k))

pub IsUtf8-text : (b : List ℕ) → IsText b → IsUtf8 b
IsUtf8-text b (cs, h) = each_utf8 cs b h

-- ---- UTF-8 is a text of the table

of_tail : (b : ℕ) → 0x80 ≤ b → b ≤ 0xBF → Each Octet (tail ∷ []) (b ∷ [])
of_tail b l h = octet_cons tail [] b [] l h refl

character1 : (a : ℕ) → a ≤ 0x7F → IsCharacter (a ∷ [])
unfolding IsCharacter
character1 a h = row_to (take 0 table) (drop 1 table) (row 0x00 0x7f ([])) a [] (omega arith) h refl

character2 : (a b : ℕ) → 0xC2 ≤ a → a ≤ 0xDF → 0x80 ≤ b → b ≤ 0xBF → IsCharacter (a ∷ b ∷ [])
unfolding IsCharacter
character2 a b l h m n = row_to (take 1 table) (drop 2 table) (row 0xc2 0xdf (tail ∷ [])) a (b ∷ []) l h (of_tail b m n)

row3 : (before behind : List Row) (low high : ℕ) (q : Range) (a b d : ℕ) → low ≤ a → a ≤ high → q.low ≤ b → b ≤ q.high
    → 0x80 ≤ d → d ≤ 0xBF → InRow (before ++ row low high (q ∷ tail ∷ []) ∷ behind) (a ∷ b ∷ d ∷ [])
row3 before behind low high q a b d l h m n i j =
    row_to before behind (row low high (q ∷ tail ∷ [])) a (b ∷ d ∷ []) l h
    (octet_cons q (tail ∷ []) b (d ∷ []) m n (of_tail d i j))

character3 : (a b d : ℕ) → 0xE0 ≤ a → a ≤ 0xEF → (a ≡ 0xE0 → 0xA0 ≤ b) → (a ≡ 0xED → b ≤ 0x9F) → 0x80 ≤ b → b ≤ 0xBF
    → 0x80 ≤ d → d ≤ 0xBF → IsCharacter (a ∷ b ∷ d ∷ [])
unfolding IsCharacter
character3 a b d l h first last m n i j =
    elim (cases_lt a 0xE1) [
      | inl k ↦ row3 (take 2 table) (drop 3 table) 0xe0 0xe0 (from_to 0xa0 0xbf) a b d l (omega arith)
          (first (omega arith)) n i j
      | inr k ↦ elim (cases_lt a 0xED) [
        | inl o ↦ row3 (take 3 table) (drop 4 table) 0xe1 0xec tail a b d k (omega arith) m n i j
        | inr o ↦ elim (cases_lt a 0xEE) [
          | inl p ↦ row3 (take 4 table) (drop 5 table) 0xed 0xed (from_to 0x80 0x9f) a b d o (omega arith) m
              (last (omega arith)) i j
          | inr p ↦ row3 (take 5 table) (drop 6 table) 0xee 0xef tail a b d p h m n i j
        ]
      ]
    ]

row4 : (before behind : List Row) (low high : ℕ) (q : Range) (a b d e : ℕ) → low ≤ a → a ≤ high → q.low ≤ b → b ≤ q.high
    → 0x80 ≤ d → d ≤ 0xBF → 0x80 ≤ e → e ≤ 0xBF
    → InRow (before ++ row low high (q ∷ tail ∷ tail ∷ []) ∷ behind) (a ∷ b ∷ d ∷ e ∷ [])
row4 before behind low high q a b d e l h m n i j u v =
    row_to before behind (row low high (q ∷ tail ∷ tail ∷ [])) a (b ∷ d ∷ e ∷ []) l h
    (octet_cons q (tail ∷ tail ∷ []) b (d ∷ e ∷ []) m n (octet_cons tail (tail ∷ []) d (e ∷ []) i j (of_tail e u v)))

character4 : (a b d e : ℕ) → 0xF0 ≤ a → a ≤ 0xF4 → (a ≡ 0xF0 → 0x90 ≤ b) → (a ≡ 0xF4 → b ≤ 0x8F) → 0x80 ≤ b → b ≤ 0xBF
    → 0x80 ≤ d → d ≤ 0xBF → 0x80 ≤ e → e ≤ 0xBF → IsCharacter (a ∷ b ∷ d ∷ e ∷ [])
unfolding IsCharacter
character4 a b d e l h first last m n i j u v =
    elim (cases_lt a 0xF1) [
      | inl k ↦ row4 (take 6 table) (drop 7 table) 0xf0 0xf0 (from_to 0x90 0xbf) a b d e l (omega arith)
          (first (omega arith)) n i j u v
      | inr k ↦ elim (cases_lt a 0xF4) [
        | inl o ↦ row4 (take 7 table) (drop 8 table) 0xf1 0xf3 tail a b d e k (omega arith) m n i j u v
        | inr o ↦ row4 (take 8 table) (drop 9 table) 0xf4 0xf4 (from_to 0x80 0x8f) a b d e o h m (last (omega arith)) i
            j u v
      ]
    ]

encoded2 : (c : ℕ) → 0x80 ≤ c → c < 0x800 → encode c ≡ (192 + c / 64) ∷ (128 + c % 64) ∷ []
unfolding encode
encoded2 c l h = grind (arith, nat_tests)

encoded3 : (c : ℕ) → 0x800 ≤ c → c < 0x10000 → encode c ≡ (224 + c / 4096) ∷ (128 + c / 64 % 64) ∷ (128 + c % 64) ∷ []
unfolding encode
encoded3 c l h = grind (arith, nat_tests)

encoded4 : (c : ℕ) → 0x10000 ≤ c → encode c
    ≡ (240 + c / 262144) ∷ (128 + c / 4096 % 64) ∷ (128 + c / 64 % 64) ∷ (128 + c % 64) ∷ []
unfolding encode
encoded4 c l = grind (arith, nat_tests)

of_three : (c : ℕ) → 0x800 ≤ c → c < 0x10000 → (c < 0xD800) ⊎ (0xE000 ≤ c) → IsCharacter (encode c)
of_three c l h s = subst IsCharacter (sym (encoded3 c l h))
    (character3 (224 + c / 4096) (128 + c / 64 % 64) (128 + c % 64) (omega arith) (omega arith) (λ e. omega arith)
    (λ e. elim s [ inl k ↦ omega arith | inr k ↦ omega arith ]) (omega arith) (omega arith) (omega arith) (omega arith))

pub IsCharacter-encode : (c : ℕ) → scalar c ≡ true → IsCharacter (encode c)
IsCharacter-encode c s =
    elim (cases_lt c 0x80) [
      | inl a ↦ subst IsCharacter (sym (encode1 c (omega arith))) (character1 c (omega arith))
      | inr a ↦ elim (cases_lt c 0x800) [
        | inl b ↦ subst IsCharacter (sym (encoded2 c a b))
            (character2 (192 + c / 64) (128 + c % 64) (omega arith) (omega arith) (omega arith) (omega arith))
        | inr b ↦ elim (cases_lt c 0x10000) [
          | inl d ↦ of_three c b d (elim (scalar_cases c s) [ inl k ↦ inl k | inr k ↦ inr k.0 ])
          | inr d ↦ subst IsCharacter (sym (encoded4 c d))
              (character4 (240 + c / 262144) (128 + c / 4096 % 64) (128 + c / 64 % 64) (128 + c % 64) (omega arith)
              (elim (scalar_cases c s) [ inl k ↦ omega arith | inr k ↦ omega (arith, k.1) ]) (λ e. omega arith)
              (λ e. elim (scalar_cases c s) [ inl k ↦ omega arith | inr k ↦ omega (arith, k.1) ]) (omega arith)
              (omega arith) (omega arith) (omega arith) (omega arith) (omega arith))
        ]
      ]
    ]

text_encodes : (cs : List ℕ) → scalars cs ≡ true → IsText (encodes cs)
text_encodes [] s = ([], refl)
text_encodes (c ∷ cs) s =
    let both = and_parts (scalar c) (scalars cs) s in
    let rest = text_encodes cs both.1 in
    (encode c ∷ rest.0, (encode c, encodes cs, refl, (IsCharacter-encode c both.0, refl), rest.1))

pub IsText-utf8 : (b : List ℕ) → IsUtf8 b → IsText b
IsText-utf8 b (cs, (s, e)) = subst IsText e (text_encodes cs s)
