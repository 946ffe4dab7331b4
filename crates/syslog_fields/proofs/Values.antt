-- Values of parameters: pieces up to the quotation mark.
use Rattle.std.proofs.Common.{◌≡◌, ◌≢◌, ℕ, ◌≤◌, List, [], ◌∷◌, ◌++◌, length, refl, sym, ap, subst, ◌∙◌, arith, inl, inr}
use Rattle.std.proofs.Common.{◌⊎◌, append_assoc}
use Rattle.std.specs.Prelude.{Result}
use Rattle.std.specs.List.{AllByRecursion}
use Rattle.std.proofs.lemmas.List.{length-append}
use Rattle.std.proofs.lemmas.Bool.{cases_eq}
use Rattle.octet_language.specs.Language.{Language, Only, AnyOf, Refuses, NoPrefix, IsPrefixFree, IfFirst}
use Rattle.octet_language.specs.Reading.{Fails, Passes}
use Rattle.octet_language.proofs.Lists.{heads, tails}
use Rattle.octet_language.proofs.Chain.{IsPrefixFree-only}
use Rattle.octet_language.proofs.Many.{Many, IsPrefixFree-many}
use Rattle.syslog_fields.specs.Utf8.{table, from_to, IsCharacter}
use Rattle.syslog_fields.specs.Values.{AreEscapes, IsSpecial, IsPlain, IsPlainOctet, PassesEscapes, PassesPlain, Piece}
use Rattle.syslog_fields.proofs.Loops.{Carries, carries_more}
use Rattle.syslog_fields.proofs.Prefix.{Passes-behind, Passes-alike}
use Rattle.syslog_fields.proofs.Characters.{character_some, IsPrefixFree-character, octet_cons, width, table_widths}

-- ---- ASCII

pub ascii : (x : ℕ) → x ≤ 127 → IsCharacter (x ∷ [])
unfolding IsCharacter
ascii x h = inl (octet_cons (from_to 0x00 0x7f) [] x [] (omega arith) h refl)

alone : (x : ℕ) (s : List ℕ) → x ≤ 127 → IsCharacter (x ∷ s) → s ≡ []
unfolding IsCharacter
alone x [] low h = refl
alone x (y ∷ s) low h = absurd (omega (arith, (width table x (y ∷ s) table_widths h).one low))

-- ---- pieces

abbrev pub AnyPiece : Language
AnyPiece = AnyOf Piece

one_of : (x : ℕ) → IsSpecial x ⊎ ((x ≢ 34) × (x ≢ 92) × (x ≢ 93))
one_of x = elim (cases_eq x 34) [
  | inl a ↦ inl (inl a)
  | inr a ↦ elim (cases_eq x 92) [
    | inl b ↦ inl (inr (inl b))
    | inr b ↦ elim (cases_eq x 93) [ inl c ↦ inl (inr (inr c)) | inr c ↦ inr (a, b, c) ]
  ]
]

special_low : (x : ℕ) → IsSpecial x → x ≤ 127
special_low x (inl h) = omega arith
special_low x (inr (inl h)) = omega arith
special_low x (inr (inr h)) = omega arith

pub plain_or : (s : List ℕ) → IsCharacter s → ((x : ℕ) × (s ≡ x ∷ []) × IsSpecial x) ⊎ IsPlain s
plain_or [] h = absurd (character_some h)
plain_or (x ∷ y ∷ s) h = inr (h, λ e. absurd cc, λ e. absurd cc, λ e. absurd cc)
plain_or (x ∷ []) h = elim (one_of x) [
  | inl k ↦ inl (x, refl, k)
  | inr k ↦ inr (h, λ e. k.0 (heads x 34 [] [] e), λ e. k.1 (heads x 92 [] [] e), λ e. k.2 (heads x 93 [] [] e))
]

pub no_special : (x : ℕ) (s : List ℕ) → IsSpecial x → ¬ (IsPlain (x ∷ s))
no_special x s h p =
    let whole : x ∷ s ≡ x ∷ [] = ap (λ (k : List ℕ). x ∷ k) (alone x s (special_low x h) p.0) in
    apart h whole p
  where
    apart : IsSpecial x → x ∷ s ≡ x ∷ [] → IsPlain (x ∷ s) → ⊥
    apart (inl k) e p = p.1 (e ∙ ap (λ (n : ℕ). n ∷ []) k)
    apart (inr (inl k)) e p = p.2 (e ∙ ap (λ (n : ℕ). n ∷ []) k)
    apart (inr (inr k)) e p = p.3 (e ∙ ap (λ (n : ℕ). n ∷ []) k)

pub piece_some : ¬ (AnyPiece [])
piece_some (m, inl (x, k, e, f)) = absurd cc
piece_some (m, inr (inl (c, k, e, f))) = absurd cc
piece_some (m, inr (inr (k, e))) = character_some (subst IsCharacter (sym e) k.0)

-- after a backslash any character
behind_backslash : (s : List ℕ) → AnyPiece (92 ∷ s) → IsCharacter s
behind_backslash s (m, inl (x, k, e, f)) =
    subst IsCharacter (sym (tails 92 92 s (x ∷ []) f)) (ascii x (special_low x k))
behind_backslash s (m, inr (inl (c, k, e, f))) = subst IsCharacter (sym (tails 92 92 s c f)) k.0
behind_backslash s (m, inr (inr (k, e))) = absurd (no_special 92 s (inr (inl refl)) (subst IsPlain (sym e) k))

pub backslash : (s : List ℕ) → IsCharacter s → AnyPiece (92 ∷ s)
backslash s h = elim (plain_or s h) [
  | inl k ↦ (s, inl (k.0, k.2, k.1, ap (λ (t : List ℕ). 92 ∷ t) k.1))
  | inr k ↦ (92 ∷ s, inr (inl (s, k, refl, refl)))
]

-- before any other octet a piece is a character
other_from : (x : ℕ) (s : List ℕ) → x ≢ 92 → AnyPiece (x ∷ s) → IsPlain (x ∷ s)
other_from x s ne (m, inl (y, k, e, f)) = absurd (ne (heads x 92 s (y ∷ []) f))
other_from x s ne (m, inr (inl (c, k, e, f))) = absurd (ne (heads x 92 s c f))
other_from x s ne (m, inr (inr (k, e))) = subst IsPlain (sym e) k

other_to : (x : ℕ) (s : List ℕ) → ¬ (IsSpecial x) → IsCharacter (x ∷ s) → AnyPiece (x ∷ s)
other_to x s ne h = elim (plain_or (x ∷ s) h) [
  | inl k ↦ absurd (ne (subst (λ (n : ℕ). IsSpecial n) (sym (heads x k.0 s [] k.1)) k.2))
  | inr k ↦ (x ∷ s, inr (inr (k, refl)))
]

pub IsPrefixFree-piece : IsPrefixFree (AnyOf Piece)
IsPrefixFree-piece [] s q t a b e = absurd (piece_some a)
IsPrefixFree-piece (x ∷ p) s [] t a b e = absurd (piece_some b)
IsPrefixFree-piece (x ∷ p) s (y ∷ q) t a b e =
    let head = heads x y (p ++ s) (q ++ t) e in
    let rests = tails x y (p ++ s) (q ++ t) e in
    elim (cases_eq x 92) [
      | inl k ↦
          let c = behind_backslash p (subst (λ (n : ℕ). AnyPiece (n ∷ p)) k a) in
          let d = behind_backslash q (subst (λ (n : ℕ). AnyPiece (n ∷ q)) (sym head ∙ k) b) in
          ap (λ (n : ℕ). n ∷ p) head ∙ ap (λ (u : List ℕ). y ∷ u) (IsPrefixFree-character p s q t c d rests)
      | inr k ↦ IsPrefixFree-character (x ∷ p) s (y ∷ q) t (other_from x p k a).0
          (other_from y q (λ f. k (head ∙ f)) b).0 e
    ]

-- ---- the value

-- a quote or a bracket begins no piece
no_piece_from : (x : ℕ) (s : List ℕ) → (x ≡ 34) ⊎ (x ≡ 93) → ¬ (AnyPiece (x ∷ s))
no_piece_from x s (inl k) a = no_special x s (inl k) (other_from x s (λ e. omega (arith, e, k)) a)
no_piece_from x s (inr k) a = no_special x s (inr (inr k)) (other_from x s (λ e. omega (arith, e, k)) a)

some_piece : AnyPiece (97 ∷ [])
some_piece = (
  97 ∷ [],
  inr (inr (
    (
      ascii 97 (omega arith),
      λ e. omega (arith, heads 97 34 [] [] e),
      λ e.
          omega (arith, heads 97 92 [] [] e),
      λ e. omega (arith, heads 97 93 [] [] e),
    ),
    refl,
  )),
)

no_piece_refuses : (b : List ℕ) → IfFirst (λ x. (x ≡ 34) ⊎ (x ≡ 93)) b → Refuses (AnyOf Piece) [] b
no_piece_refuses [] h = tt
no_piece_refuses (x ∷ b) h = λ (more, m). no_piece_from x more h m

no_piece_none : (b : List ℕ) → IfFirst (λ x. (x ≡ 34) ⊎ (x ≡ 93)) b → NoPrefix (AnyOf Piece) b
no_piece_none b h [] v e m = piece_some m
no_piece_none [] h (z ∷ u) v e m = absurd cc
no_piece_none (x ∷ b) h (z ∷ u) v e m = no_piece_from x u h
    (subst (λ (n : ℕ). AnyPiece (n ∷ u)) (sym (heads x z b (u ++ v) e)) m)

-- at the end, or before a quote or a bracket
pub no_piece : (b : List ℕ) → IfFirst (λ x. (x ≡ 34) ⊎ (x ≡ 93)) b → Fails (AnyOf Piece) b (length b)
no_piece b h = record {
  none = no_piece_none b h;
  stops = record {
    read = [];
    rest = b;
    parts = refl;
    count = refl;
    begins = (97 ∷ [], some_piece);
    refuses =
        no_piece_refuses b h;
  };
}

pub piece_behind : {X E : Type 0} (at : E → ℕ) (b rest : List ℕ) (view : X → List ℕ) (r : Result X E) (x : ℕ)
    → b ≡ x ∷ rest → x ≡ 92 → Passes at IsCharacter view rest r → Passes at (AnyOf Piece) view b r
piece_behind at b rest view r x e k h = Passes-behind at IsCharacter (AnyOf Piece) 92 b rest view r behind_backslash
    backslash piece_some (e ∙ ap (λ (n : ℕ). n ∷ rest) k) h

pub piece_other : {X E : Type 0} (at : E → ℕ) (b rest : List ℕ) (view : X → List ℕ) (r : Result X E) (x : ℕ)
    → b ≡ x ∷ rest → x ≢ 34 → x ≢ 92 → x ≢ 93 → Passes at IsCharacter view b r → Passes at (AnyOf Piece) view b r
piece_other at b rest view r x e a c d h =
    Passes-alike at IsCharacter (AnyOf Piece) x b rest (97 ∷ []) view r
    (λ s m. (other_from x s c m).0) (λ s m. other_to x s (not_special a c d) m)
    character_some piece_some some_piece e h
  where
    not_special : x ≢ 34 → x ≢ 92 → x ≢ 93 → ¬ (IsSpecial x)
    not_special a c d (inl k) = a k
    not_special a c d (inr (inl k)) = c k
    not_special a c d (inr (inr k)) = d k

-- a quotation mark is no piece
apart_piece : (p s q t : List ℕ) → AnyPiece p → q ≡ 34 ∷ [] → p ++ s ≡ q ++ t → ⊥
apart_piece [] s q t h k e = piece_some h
apart_piece (x ∷ p) s q t h k e = no_piece_from x p (inl (heads x 34 (p ++ s) t (e ∙ ap (λ (u : List ℕ). u ++ t) k))) h

pub IsPrefixFree-value : IsPrefixFree (Many Piece (Only (34 ∷ [])))
IsPrefixFree-value = IsPrefixFree-many Piece (Only (34 ∷ [])) IsPrefixFree-piece (IsPrefixFree-only (34 ∷ []))
    apart_piece

-- ---- octets that mean themselves

pub plain_octet : (x : ℕ) → IsPlainOctet x → IsPlain (x ∷ [])
plain_octet x p = (
  ascii x (omega (arith, p.0)),
  (λ e. p.1 (heads x 34 [] [] e)),
  (λ e. p.2 (heads x 92 [] [] e)),
  (λ e. p.3 (heads x 93 [] [] e)),
)

plain_piece : (x : ℕ) → IsPlainOctet x → AnyPiece (x ∷ [])
plain_piece x p = (x ∷ [], inr (inr (plain_octet x p, refl)))

-- after such octets, what of the rest holds of the whole
carries_run : (b run rest : List ℕ) → AllByRecursion IsPlainOctet run → Carries Piece (Only (34 ∷ [])) b (run ++ rest)
    → Carries Piece (Only (34 ∷ [])) b rest
carries_run b [] rest h k = k
carries_run b (x ∷ run) rest h k = carries_run b run rest h.1
    (carries_more Piece 34 b (x ∷ run ++ rest) (run ++ rest) IsPrefixFree-piece h.0.1 (x ∷ [], refl, plain_piece x h.0)
    k)

pub carries_plain : (b from rest : List ℕ) → PassesPlain from rest → Carries Piece (Only (34 ∷ [])) b from
    → Carries Piece (Only (34 ∷ [])) b rest
carries_plain b from rest p k = carries_run b p.run rest p.plain (subst (Carries Piece (Only (34 ∷ [])) b) p.parts k)

pub plain_takes : (from rest : List ℕ) → PassesPlain from rest → length rest ≤ length from
plain_takes from rest p = omega (arith, ap length p.parts, length-append p.run rest)

-- ---- escapes

pub no_escapes : (b : List ℕ) → PassesEscapes b b
unfolding AreEscapes
no_escapes b = record { run = []; parts = refl; escapes = tt }

escapes_end : (run : List ℕ) (x : ℕ) → AreEscapes run → IsSpecial x → AreEscapes (run ++ 92 ∷ x ∷ [])
unfolding AreEscapes
escapes_end [] x h s = (refl, s, tt)
escapes_end (y ∷ []) x h s = absurd h
escapes_end (y ∷ z ∷ run) x h s = (h.0, h.1, escapes_end run x h.2 s)

pub escapes_more : (b rest behind : List ℕ) (x : ℕ) → IsSpecial x → rest ≡ 92 ∷ x ∷ behind → PassesEscapes b rest
    → PassesEscapes b behind
escapes_more b rest behind x s e p = record {
  run = p.run ++ 92 ∷ x ∷ [];
  parts = p.parts ∙ ap (λ (u : List ℕ). p.run ++ u) e ∙ sym (append_assoc p.run (92 ∷ x ∷ []) behind);
  escapes = escapes_end p.run x p.escapes s;
}

pub escapes_take : (from rest : List ℕ) → PassesEscapes from rest → length rest ≤ length from
escapes_take from rest p = omega (arith, ap length p.parts, length-append p.run rest)
