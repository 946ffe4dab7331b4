-- Values that are read by their marks, from octets that are characters.
use Rattle.std.proofs.Common.{◌≡◌, ◌≢◌, ℕ, zero, suc, ◌-◌, ◌<◌, List, [], ◌∷◌, ◌++◌, length, take, drop}
use Rattle.std.proofs.Common.{get_or, Bool, not, true, false, refl, sym, ap, subst, ◌∙◌, append_assoc, arith, inl, inr}
use Rattle.std.specs.Prelude.{Some, IsTrue, ◌==◌}
use Rattle.std.specs.List.{AllByRecursion}
use Rattle.std.proofs.lemmas.Bool.{cases_eq}
use Rattle.std.proofs.lemmas.List.{length-append, take-append-drop, take_at}
use Rattle.memchr.specs.Find.{IsFirstByte, is_byte2}
use Rattle.octet_language.specs.Language.{◌⋅◌, AnyOf, Each, Only}
use Rattle.octet_language.specs.Reading.{Follows}
use Rattle.octet_language.proofs.Lists.{tails}
use Rattle.syslog_fields.specs.Canonical.{escaped, needs_escape}
use Rattle.syslog_fields.specs.FirstElements.{HasNoMark, IsUnmarked, takes_next}
use Rattle.syslog_fields.specs.Forms.{IsValueForm, HasLongerForm, IsOwnForm}
use Rattle.syslog_fields.specs.Spans.{Text}
use Rattle.syslog_fields.specs.Utf8.{Character, IsCharacter, IsText}
use Rattle.syslog_fields.specs.Values.{AreEscapes, IsPlainOctet, IsSpecial, PassesEscapes, Piece}
use Rattle.syslog_fields.proofs.Characters.{character_some}
use Rattle.syslog_fields.proofs.FirstElements.{is_test}
use Rattle.syslog_fields.proofs.Unescaped.{plain_bare, special_test, test_special}
use Rattle.syslog_fields.proofs.EscapedRuns.{kept}
use Rattle.syslog_fields.proofs.ValueForms.{joined}
use Rattle.syslog_fields.proofs.Values.{backslash, no_special, plain_octet, plain_or}

-- ---- the pieces

-- octets that need no backslash hold no mark
unmarked_bare : (c y : List ℕ) → AllByRecursion (λ x. ¬ (needs_escape x ≡ true)) c → HasNoMark (c ++ y) → HasNoMark y
unfolding IsUnmarked takes_next
unmarked_bare [] y h m = m
unmarked_bare (x ∷ c) y h m =
    let other : (x == 92) ≡ false = is_test x (λ e. h.0 (special_test x (inr (inl e)))) in
    unmarked_bare c y h.1 (
      subst (λ (b : Bool). IsUnmarked b (c ++ y)) other m.0.2,
      ap (λ (b : Bool). takes_next b (c ++ y)) (sym other) ∙ m.1,
    )

-- a character that a backslash takes
unmarked_taken : (c y : List ℕ) → IsCharacter c → IsUnmarked true (c ++ y) → takes_next true (c ++ y) ≡ false
    → HasNoMark y
unfolding IsUnmarked takes_next
unmarked_taken [] y h m t = absurd (character_some h)
unmarked_taken (x ∷ c) y h m t = elim (plain_or (x ∷ c) h) [
  | inl (z, e, s) ↦
      let none : c ≡ [] = tails x z c [] e in
      subst (λ (u : List ℕ). HasNoMark (u ++ y)) none (m, t)
  | inr k ↦ unmarked_bare c y (plain_bare (x ∷ c) k).1 (m, t)
]

-- no mark comes first
no_first : (x : ℕ) (s : List ℕ) → IsSpecial x → x ≢ 92 → HasNoMark (x ∷ s) → ⊥
unfolding IsUnmarked
no_first x s (inl h) ne m = m.0.0 h
no_first x s (inr (inl h)) ne m = ne h
no_first x s (inr (inr h)) ne m = m.0.1 h

at_backslash : (s : List ℕ) → HasNoMark (92 ∷ s) → IsUnmarked true s × (takes_next true s ≡ false)
unfolding IsUnmarked takes_next
at_backslash s m = (m.0.2, m.1)

not_last : IsUnmarked true [] × (takes_next true [] ≡ false) → ⊥
unfolding takes_next
not_last m = absurd cc

pieces_of : (cs : List (List ℕ)) (raw : List ℕ) → Each Character cs raw → HasNoMark raw → AnyOf (Each Piece) raw
pieces_of [] raw h m = ([], h)
pieces_of (c ∷ []) raw (u, y, e, (h, f), k) m = elim (plain_or c h) [
  | inl (x, i, s) ↦ elim (cases_eq x 92) [
    | inl g ↦
        let whole : raw ≡ 92 ∷ [] = e ∙ rw (f, i, g, k) refl in
        absurd (not_last (at_backslash [] (subst HasNoMark whole m)))
    | inr g ↦ absurd (no_first x y s g (subst HasNoMark (e ∙ rw (f, i) refl) m))
  ]
  | inr p ↦ (c ∷ [], (u, y, e, inr (inr (p, f)), k))
]
pieces_of (c ∷ d ∷ cs) raw (u, y, e, (h, f), (v, z, g, (i, j), k)) m = elim (plain_or c h) [
  | inl (x, l, s) ↦ elim (cases_eq x 92) [
    | inl b ↦
        let whole : raw ≡ 92 ∷ (d ++ z) = e ∙ rw (f, l, b, g, j) refl in
        let taken = at_backslash (d ++ z) (subst HasNoMark whole m) in
        let deeper = pieces_of cs z k (unmarked_taken d z i taken.0 taken.1) in
        let piece = backslash d i in
        (piece.0 ∷ deeper.0, (92 ∷ d, z, whole, piece.1, deeper.1))
    | inr b ↦ absurd (no_first x y s b (subst HasNoMark (e ∙ rw (f, l) refl) m))
  ]
  | inr p ↦
      let deeper = pieces_of (d ∷ cs) y (v, z, g, (i, j), k)
      (unmarked_bare c y (plain_bare c p) (subst HasNoMark (e ∙ rw f refl) m)) in
      (c ∷ deeper.0, (u, y, e, inr (inr (p, f)), deeper.1))
]

-- characters without a mark are pieces
pub marked_pieces : (raw : List ℕ) → IsText raw → HasNoMark raw → AnyOf (Each Piece) raw
marked_pieces raw (cs, h) m = pieces_of cs raw h m

-- ---- the value

pub marked_read : (octets raw rest : List ℕ) → octets ≡ raw ++ 34 ∷ rest → AnyOf (Each Piece) raw
    → Follows (Text (AnyOf (Each Piece)) raw ⋅ Only (34 ∷ [])) octets rest
marked_read octets raw rest e h = (
  raw ++ 34 ∷ [],
  e ∙ sym (append_assoc raw (34 ∷ []) rest),
  (raw, 34 ∷ [], refl, (h, refl), refl),
)

-- up to a quotation mark
pub quoted : (octets raw marked rest : List ℕ) → octets ≡ raw ++ marked → Follows (Only (34 ∷ [])) marked rest
    → octets ≡ raw ++ 34 ∷ rest
quoted octets raw marked rest e (t, f, g) = e ∙ ap (λ (u : List ℕ). raw ++ u) (f ∙ ap (λ (u : List ℕ). u ++ rest) g)

pub halves : (octets front back : List ℕ) (n : ℕ) → front ≡ take n octets → back ≡ drop n octets
    → octets ≡ front ++ back
halves octets front back n f b = sym (take-append-drop n octets) ∙ rw (f, b) refl

-- the form of a value that is spelled by its marks
pub marked_form : (raw : List ℕ) (a : Bool) → AnyOf (Each Piece) raw → (IsTrue a → HasLongerForm raw)
    → ((IsTrue a → ⊥) → IsOwnForm raw) → IsValueForm (not a) raw
marked_form raw true (ms, h) longer own = (joined ms, (ms, refl, h), longer refl ms h)
marked_form raw false (ms, h) longer own = (joined ms, (ms, refl, h), sym (own (λ e. absurd cc) ms h))

-- octets that mean themselves
pub plain_pieces : (s : List ℕ) → AllByRecursion IsPlainOctet s → AnyOf (Each Piece) s
plain_pieces [] h = ([], refl)
plain_pieces (x ∷ s) h =
    let deeper = plain_pieces s h.1 in
    ((x ∷ []) ∷ deeper.0, (x ∷ [], s, refl, inr (inr (plain_octet x h.0, refl)), deeper.1))

plain_own : (s : List ℕ) → AllByRecursion IsPlainOctet s → s ≡ escaped s
plain_own [] h = refl
plain_own (x ∷ s) h =
    sym (kept x s (λ e. no_special x [] (test_special x e) (plain_octet x h.0))
    ∙ ap (λ (u : List ℕ). x ∷ u) (sym (plain_own s h.1)))

plain_joined : (s : List ℕ) (h : AllByRecursion IsPlainOctet s) → joined (plain_pieces s h).0 ≡ s
unfolding plain_pieces
plain_joined [] h = refl
plain_joined (x ∷ s) h = ap (λ (u : List ℕ). x ∷ u) (plain_joined s h.1)

pub plain_form : (raw : List ℕ) → AllByRecursion IsPlainOctet raw → IsValueForm true raw
plain_form raw h = (raw, ((plain_pieces raw h).0, sym (plain_joined raw h), (plain_pieces raw h).1), plain_own raw h)

-- ---- the marks

pub unmarked_join : (b : Bool) (s t : List ℕ) → IsUnmarked b s → IsUnmarked (takes_next b s) t → IsUnmarked b (s ++ t)
unfolding IsUnmarked takes_next
unmarked_join b [] t h k = k
unmarked_join true (x ∷ s) t h k = unmarked_join false s t h k
unmarked_join false (x ∷ s) t h k = (h.0, h.1, unmarked_join (x == 92) s t h.2 k)

unmarked_run : (b : Bool) (k : ℕ) (s : List ℕ) → ((i : ℕ) → i < k → ¬ (is_byte2 34 93 (get_or s i 0) ≡ true))
    → IsUnmarked b (take k s)
unfolding IsUnmarked
unmarked_run b zero s none = tt
unmarked_run b (suc k) [] none = tt
unmarked_run true (suc k) (x ∷ s) none = unmarked_run false k s (λ i less. none (suc i) (omega (arith, less)))
unmarked_run false (suc k) (x ∷ s) none = (
  λ e. none 0 (omega arith) (rw e refl),
  λ e. none 0 (omega arith) (rw e refl),
  unmarked_run (x == 92) k s (λ i less. none (suc i) (omega (arith, less))),
)

unmarked_one : (s : List ℕ) → IsUnmarked true (take 1 s)
unfolding IsUnmarked
unmarked_one [] = tt
unmarked_one (x ∷ s) = tt

-- what was passed of the octets has no mark
pub record Passed (octets rest : List ℕ) : Type 0 where
  pub done : List ℕ
  pub parts : octets ≡ done ++ rest
  pub unmarked : IsUnmarked false done

pub passed_none : (octets : List ℕ) → Passed octets octets
unfolding IsUnmarked
passed_none octets = record { done = []; parts = refl; unmarked = tt }

-- up to the next mark
pub record Marked (octets before found : List ℕ) : Type 0 where
  pub parts : octets ≡ before ++ found
  pub unmarked : IsUnmarked false before

pub passed_found : (octets rest found before : List ℕ) (k : ℕ) → Passed octets rest
    → IsFirstByte (is_byte2 34 93) rest (Some k) → found ≡ drop k rest
    → before ≡ take (length octets - length found) octets → Marked octets before found
passed_found octets rest found before k p f d b =
    let all : octets ≡ (p.done ++ take k rest) ++ found =
    p.parts ∙ ap (λ (u : List ℕ). p.done ++ u)
    (sym (take-append-drop k rest) ∙ ap (λ (u : List ℕ). take k rest ++ u) (sym d))
    ∙ sym (append_assoc p.done (take k rest) found) in
    let size : length octets - length found ≡ length (p.done ++ take k rest) =
    omega (arith, ap length all, length-append (p.done ++ take k rest) found) in
    let front : before ≡ p.done ++ take k rest =
    b ∙ rw (size, all) (take_at (p.done ++ take k rest) found (length (p.done ++ take k rest)) refl) in
    record {
      parts = all ∙ ap (λ (u : List ℕ). u ++ found) (sym front);
      unmarked = subst (IsUnmarked false) (sym front) (unmarked_join false p.done (take k rest) p.unmarked
          (unmarked_run (takes_next false p.done) k rest (λ i less. f.0.before i (omega arith) less)));
    }

takes_join : (b : Bool) (s t : List ℕ) → takes_next b (s ++ t) ≡ takes_next (takes_next b s) t
unfolding takes_next
takes_join b [] t = refl
takes_join true (x ∷ s) t = takes_join false s t
takes_join false (x ∷ s) t = takes_join (x == 92) s t

escapes_unmarked : (run : List ℕ) → AreEscapes run → IsUnmarked false run
unfolding AreEscapes IsUnmarked
escapes_unmarked [] h = tt
escapes_unmarked (x ∷ []) h = absurd h
escapes_unmarked (x ∷ y ∷ run) h = (
  λ e. omega (arith, h.0, e),
  λ e. omega (arith, h.0, e),
  rw h.0 (escapes_unmarked run h.2),
)

no_octets : (b : Bool) (run rest : List ℕ) → run ++ rest ≡ [] → IsUnmarked b run
unfolding IsUnmarked
no_octets b [] rest e = tt
no_octets b (x ∷ run) rest e = absurd cc

-- escapes behind a mark that is taken
escapes_behind : (found next rest : List ℕ) → next ≡ drop 1 found → (p : PassesEscapes next rest)
    → IsUnmarked (takes_next true (take 1 found)) p.run
unfolding takes_next
escapes_behind [] next rest n p = no_octets true p.run rest (sym p.parts ∙ n)
escapes_behind (x ∷ s) next rest n p = escapes_unmarked p.run p.escapes

pub passed_more : (octets found before next rest : List ℕ) → Marked octets before found
    → takes_next false before ≡ true → next ≡ drop 1 found → PassesEscapes next rest → Passed octets rest
passed_more octets found before next rest m takes n p = record {
  done = (before ++ take 1 found) ++ p.run;
  parts = m.parts ∙ ap (λ (u : List ℕ). before ++ u)
      (sym (take-append-drop 1 found) ∙ ap (λ (u : List ℕ). take 1 found ++ u) (sym n ∙ p.parts))
      ∙ simp append_assoc;
  unmarked = unmarked_join false (before ++ take 1 found) p.run
      (unmarked_join false before (take 1 found) m.unmarked
      (subst (λ (b : Bool). IsUnmarked b (take 1 found)) (sym takes) (unmarked_one found)))
      (subst (λ (b : Bool). IsUnmarked b p.run)
      (sym (takes_join false before (take 1 found) ∙ ap (λ (b : Bool). takes_next b (take 1 found)) takes))
      (escapes_behind found next rest n p));
}
