-- Texts of rows, piece by piece.
use Rattle.std.proofs.Common.{◌≡◌, ℕ, ◌+◌, ◌<◌, List, [], ◌∷◌, ◌++◌, length, get_or, take, refl, sym, ap, subst, ◌∙◌}
use Rattle.std.proofs.Common.{append-nil, append_assoc}
use Rattle.std.specs.Prelude.{Option, Result, ℤ, decimal}
use Rattle.std.proofs.lemmas.List.{take_more}
use Rattle.octet_language.specs.Language.{Each, Language, Only, ◌⋅◌}
use Rattle.syslog_fields.specs.Appending.{Adds, Puts}
use Rattle.syslog_fields.specs.Canonical.{TimeForm}
use Rattle.syslog_fields.proofs.Appends.{only_then, puts_as, puts_then}
use Rattle.archive_counts.specs.Texts.{FrontOf, PlainLine}

-- ---- one item behind the other

pub each_push : {V : Type 0} (A : V → Language) (xs : List V) (x : V) (s t : List ℕ) → Each A xs s → A x t
    → Each A (xs ++ x ∷ []) (s ++ t)
each_push A [] x s t h k = (t, [], ap (λ (l : List ℕ). l ++ t) h ∙ sym (append-nil t), k, refl)
each_push A (v ∷ xs) x s t (a, b, e, first, more) k = (
  a,
  b ++ t,
  ap (λ (l : List ℕ). l ++ t) e ∙ append_assoc a b t,
  first,
  each_push A xs x b t more k,
)

-- one item more was appended
pub adds_more : {V : Type 0} (A : V → Language) (xs : List V) (i : ℕ) (x : V) (old mid new : List ℕ) → i < length xs
    → x ≡ get_or xs i x → Adds (Each A (take i xs)) old mid → Adds (A x) mid new → Adds (Each A (take (i + 1) xs)) old new
adds_more {V = V} A xs i x old mid new within is (s, h, e) (t, k, f) =
    let more : take (i + 1) xs ≡ take i xs ++ x ∷ [] =
    take_more xs i x within ∙ ap (λ (y : V). take i xs ++ y ∷ []) (sym is) in (
      s ++ t,
      subst (λ (l : List V). Each A l (s ++ t)) (sym more) (each_push A (take i xs) x s t h k),
      f ∙ ap (λ (l : List ℕ). l ++ t) e ∙ append_assoc old s t,
    )

-- ---- two values, each behind a text

abbrev pub Pair : List ℕ → Language → List ℕ → Language → Language
Pair p A q B s = (x : List ℕ) × (y : List ℕ) × A x × B y × (s ≡ p ++ (x ++ (q ++ y)))

pair_from : (p q : List ℕ) (A B : Language) (s : List ℕ) → (Only p ⋅ A ⋅ Only q ⋅ B) s → Pair p A q B s
pair_from p q A B s (u, v, e, u_is, (x, w, f, a, (z, y, g, z_is, b))) = (
  x,
  y,
  a,
  b,
  e
      ∙ ap (λ (k : List ℕ). k ++ v) u_is
      ∙ ap (λ (k : List ℕ). p ++ k) (f ∙ ap (λ (k : List ℕ). x ++ k) (g ∙ ap (λ (k : List ℕ). k ++ y) z_is)),
)

pub pair_puts : {X E : Type 0} (p q : List ℕ) (A B : Language) (o m1 m2 m3 n : List ℕ) (r : Result X E)
    → Adds (Only p) o m1 → Adds A m1 m2 → Adds (Only q) m2 m3 → Puts B m3 n r → Puts (Pair p A q B) o n r
pair_puts p q A B o m1 m2 m3 n r h1 h2 h3 h4 =
    puts_as (Only p ⋅ A ⋅ Only q ⋅ B) (Pair p A q B) o n r (pair_from p q A B)
    (puts_then (Only p) (A ⋅ Only q ⋅ B) o m1 n r h1
    (puts_then A (Only q ⋅ B) m1 m2 n r h2 (puts_then (Only q) B m2 m3 n r h3 h4)))

-- four texts
pub four_texts : (a b c d o m1 m2 m3 m4 : List ℕ) → Adds (Only a) o m1 → Adds (Only b) m1 m2 → Adds (Only c) m2 m3
    → Adds (Only d) m3 m4 → Adds (Only (a ++ b ++ c ++ d)) o m4
four_texts a b c d o m1 m2 m3 m4 h1 h2 h3 h4 =
    only_then (a ++ b ++ c) d o m3 m4 (only_then (a ++ b) c o m2 m3 (only_then a b o m1 m2 h1 h2) h3) h4

-- ---- COUNT OCTETS FIRST LAST

front_parts : (a b x y : List ℕ)
    → (a ++ 32 ∷ [] ++ b ++ 32 ∷ []) ++ (x ++ ((32 ∷ []) ++ y)) ≡ a ++ 32 ∷ b ++ 32 ∷ x ++ 32 ∷ y
front_parts a b x y = simp append_assoc

pub front_puts : {X E : Type 0} (count octets : ℕ) (first last : Option ℤ) (o m1 m2 m3 m4 m5 m6 n : List ℕ)
    (r : Result X E) → Adds (Only (decimal count)) o m1 → Adds (Only (32 ∷ [])) m1 m2
    → Adds (Only (decimal octets)) m2 m3 → Adds (Only (32 ∷ [])) m3 m4 → Adds (TimeForm first) m4 m5
    → Adds (Only (32 ∷ [])) m5 m6 → Puts (TimeForm last) m6 n r → Puts (FrontOf count octets first last) o n r
front_puts count octets first last o m1 m2 m3 m4 m5 m6 n r h1 h2 h3 h4 h5 h6 h7 =
    let p : List ℕ = decimal count ++ 32 ∷ [] ++ decimal octets ++ 32 ∷ [] in
    puts_as (Pair p (TimeForm first) (32 ∷ []) (TimeForm last)) (FrontOf count octets first last) o n r
    (λ s (x, y, a, b, e). (
      x,
      y,
      record { first_form = a; last_form = b },
      e ∙ front_parts (decimal count) (decimal octets) x y,
    ))
    (pair_puts p (32 ∷ []) (TimeForm first) (TimeForm last) o m4 m5 m6 n r
    (four_texts (decimal count) (32 ∷ []) (decimal octets) (32 ∷ []) o m1 m2 m3 m4 h1 h2 h3 h4) h5 h6 h7)

-- ---- a line

line_from : (F : Language) (words end s : List ℕ) → (F ⋅ Only words ⋅ Only end) s
    → (front : List ℕ) × F front × (s ≡ front ++ words ++ end)
line_from F words end s (f, v, e, h, (w, z, g, w_is, z_is)) = (
  f,
  h,
  e
      ∙ ap (λ (k : List ℕ). f ++ k) (g ∙ ap (λ (k : List ℕ). k ++ z) w_is ∙ ap (λ (k : List ℕ). words ++ k) z_is)
      ∙ sym (append_assoc f words end),
)

pub line_puts : {X E : Type 0} (count octets : ℕ) (first last : Option ℤ) (words o m1 m2 n : List ℕ) (r : Result X E)
    → Adds (FrontOf count octets first last) o m1 → Adds (Only words) m1 m2 → Puts (Only (10 ∷ [])) m2 n r
    → Puts (PlainLine count octets first last words) o n r
line_puts count octets first last words o m1 m2 n r h1 h2 h3 =
    let F : Language = FrontOf count octets first last in
    puts_as (F ⋅ Only words ⋅ Only (10 ∷ [])) (PlainLine count octets first last words) o n r
    (line_from F words (10 ∷ []))
    (puts_then F (Only words ⋅ Only (10 ∷ [])) o m1 n r h1 (puts_then (Only words) (Only (10 ∷ [])) m1 m2 n r h2 h3))
