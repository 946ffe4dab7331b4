-- The spelling of a value beside the canonical one, run by run.
use Rattle.std.proofs.Common.{◌≡◌, ◌≢◌, ℕ, zero, suc, ◌<◌, List, [], ◌∷◌, ◌++◌, length, take, drop, get_or, refl, sym}
use Rattle.std.proofs.Common.{ap, subst, ◌∙◌, append_assoc, arith, inl, inr}
use Rattle.std.specs.Prelude.{if◌then◌else◌, ◌==◌, true, Some, None}
use Rattle.std.specs.List.{AllByRecursion, flat_map}
use Rattle.std.proofs.lemmas.Bool.{eqb-true}
use Rattle.std.proofs.lemmas.Grind.{flat_map-append}
use Rattle.std.proofs.lemmas.List.{take_all, take-append-drop}
use Rattle.memchr.specs.Find.{IsFirstByte, is_byte}
use Rattle.octet_language.specs.Language.{Each, IfFirst}
use Rattle.octet_language.proofs.Lists.{heads, tails, parted, not_free, AllByRecursion-right}
use Rattle.syslog_fields.specs.Canonical.{needs_escape, escaped}
use Rattle.syslog_fields.specs.Values.{IsSpecial, IsPlain, Piece}
use Rattle.syslog_fields.proofs.EscapedRuns.{bare}
use Rattle.syslog_fields.proofs.Characters.{character_some}
use Rattle.syslog_fields.proofs.Unescaped.{special_test, plain_bare, plain_free, free_prefix}
use Rattle.syslog_fields.proofs.Values.{no_special}

abbrev pub Free : List ℕ → Type 0
Free s = AllByRecursion (λ x. x ≢ 92) s

abbrev pub joined : List (List ℕ) → List ℕ
joined ms = flat_map (λ m. m) ms

pub escaped_join : (x y : List ℕ) → escaped (x ++ y) ≡ escaped x ++ escaped y
escaped_join x y = flat_map-append (λ n. if needs_escape n then 92 ∷ n ∷ [] else n ∷ []) x y

pub escaped_special : (x : ℕ) (s : List ℕ) → IsSpecial x → escaped (x ∷ s) ≡ 92 ∷ x ∷ escaped s
escaped_special x s h = rw (special_test x h) refl

-- ---- up to a backslash

-- the pieces from a backslash on, after a run that means itself
pub record Run (ms : List (List ℕ)) (run t : List ℕ) : Type 0 where
  pub behind : List (List ℕ)
  pub each : Each Piece behind (92 ∷ t)
  pub means : joined ms ≡ run ++ joined behind
  pub same : escaped run ≡ run

not_run : (m x y run t rest : List ℕ) (r : ℕ) (s : List ℕ) → rest ≡ x ++ y → x ≡ 92 ∷ s → rest ≡ (r ∷ run) ++ 92 ∷ t
    → Free (r ∷ run) → ⊥
not_run m x y run t rest r s e f g free = free.0
    (sym (heads 92 r (s ++ y) (run ++ 92 ∷ t) (ap (λ (u : List ℕ). u ++ y) (sym f) ∙ sym e ∙ g)))

pub runs : (ms : List (List ℕ)) (rest run t : List ℕ) → Each Piece ms rest → rest ≡ run ++ 92 ∷ t → Free run
    → Run ms run t
runs ms rest [] t h g free = record { behind = ms; each = subst (Each Piece ms) g h; means = refl; same = refl }
runs [] rest (r ∷ run) t h g free = let i : ◌≡◌ {A = List ℕ} [] (r ∷ (run ++ 92 ∷ t)) = sym h ∙ g in absurd cc
runs (m ∷ ms) rest (r ∷ run) t (x, y, e, inl (s, k, f, i), j) g free =
    absurd (not_run m x y run t rest r (s ∷ []) e i g free)
runs (m ∷ ms) rest (r ∷ run) t (x, y, e, inr (inl (c, k, f, i)), j) g free =
    absurd (not_run m x y run t rest r c e i g free)
runs (m ∷ ms) rest (r ∷ run) t (x, y, e, inr (inr (k, f)), j) g free = elim (parted x y (r ∷ run) 92 t (sym e ∙ g)) [
  | inl (z, i) ↦ absurd (not_free 92 m (r ∷ run) z (plain_free m k) (sym f ∙ i))
  | inr (w, i, l) ↦
      let deeper = runs ms y w t j l (AllByRecursion-right (λ n. n ≢ 92) x w (subst Free i free)) in
      let prefix : r ∷ run ≡ m ++ w = i ∙ ap (λ (u : List ℕ). u ++ w) f in
      record {
        behind = deeper.behind;
        each = deeper.each;
        means = ap (λ (u : List ℕ). m ++ u) deeper.means ∙ sym (append_assoc m w (joined deeper.behind))
            ∙ ap (λ (u : List ℕ). u ++ joined deeper.behind) (sym prefix);
        same = ap escaped prefix ∙ escaped_join m w ∙ ap (λ (u : List ℕ). u ++ escaped w) (bare m (plain_bare m k))
            ∙ ap (λ (u : List ℕ). m ++ u) deeper.same ∙ sym prefix;
      }
]

-- ---- the piece at a backslash

pub no_plain : (m z t : List ℕ) (x : ℕ) → IsPlain m → IsSpecial x → x ∷ t ≡ m ++ z → ⊥
no_plain [] z t x k s e = character_some k.0
no_plain (y ∷ m) z t x k s e = no_special y m (subst IsSpecial (heads x y t (m ++ z) e) s) k

-- an escape, and the pieces after it
pub record Escape (ms : List (List ℕ)) (y : ℕ) (after : List ℕ) : Type 0 where
  pub behind : List (List ℕ)
  pub each : Each Piece behind after
  pub means : joined ms ≡ y ∷ joined behind

pub escape : (ms : List (List ℕ)) (y : ℕ) (after : List ℕ) → Each Piece ms (92 ∷ y ∷ after) → IsSpecial y
    → Escape ms y after
escape [] y after h s = absurd cc
escape (m ∷ ms) y after (x, z, e, inl (q, k, f, i), j) s =
    let both : 92 ∷ y ∷ after ≡ 92 ∷ q ∷ z = e ∙ ap (λ (u : List ℕ). u ++ z) i in
    let same : y ≡ q = heads y q after z (tails 92 92 (y ∷ after) (q ∷ z) both) in
    record {
      behind = ms;
      each = subst (Each Piece ms) (sym (tails y q after z (tails 92 92 (y ∷ after) (q ∷ z) both))) j;
      means = ap (λ (u : List ℕ). u ++ joined ms) f ∙ ap (λ (n : ℕ). n ∷ joined ms) (sym same);
    }
escape (m ∷ ms) y after (x, z, e, inr (inl (c, k, f, i)), j) s =
    absurd (no_plain c z after y k s (tails 92 92 (y ∷ after) (c ++ z) (e ∙ ap (λ (u : List ℕ). u ++ z) i)))
escape (m ∷ ms) y after (x, z, e, inr (inr (k, f)), j) s =
    absurd (no_plain m z (y ∷ after) 92 k (inr (inl refl)) (e ∙ ap (λ (u : List ℕ). u ++ z) f))

-- the pieces after a backslash that is no escape
pub lone_more : (ms : List (List ℕ)) (t : List ℕ) → Each Piece ms (92 ∷ t) → IfFirst (λ x. ¬ (IsSpecial x)) t
    → (ks : List (List ℕ)) × Each Piece ks t × (joined ms ≡ 92 ∷ joined ks)
lone_more [] t h none = absurd cc
lone_more (m ∷ ms) t (x, z, e, inl (q, k, f, i), j) none =
    let rest : t ≡ q ∷ z = tails 92 92 t (q ∷ z) (e ∙ ap (λ (u : List ℕ). u ++ z) i) in
    absurd (subst (IfFirst (λ n. ¬ (IsSpecial n))) rest none k)
lone_more (m ∷ ms) t (x, z, e, inr (inl (c, k, f, i)), j) none =
    let rest : t ≡ c ++ z = tails 92 92 t (c ++ z) (e ∙ ap (λ (u : List ℕ). u ++ z) i) in
    (c ∷ ms, (c, z, rest, inr (inr (k, refl)), j), ap (λ (u : List ℕ). u ++ joined ms) f)
lone_more (m ∷ ms) t (x, z, e, inr (inr (k, f)), j) none =
    absurd (no_plain m z t 92 k (inr (inl refl)) (e ∙ ap (λ (u : List ℕ). u ++ z) f))

-- ---- no backslash

pub free_rest : (rest : List ℕ) → IsFirstByte (is_byte 92) rest None → Free rest
free_rest rest f = subst Free (take_all (length rest) rest (omega arith))
    (free_prefix (length rest) rest (λ i less. f i (omega arith) less))

pub all_plain : (ms : List (List ℕ)) (rest : List ℕ) → Each Piece ms rest → Free rest → rest ≡ escaped (joined ms)
all_plain [] rest h free = h
all_plain (m ∷ ms) rest (x, y, e, inl (s, k, f, i), j) free =
    absurd ((subst Free (e ∙ ap (λ (u : List ℕ). u ++ y) i) free).0 refl)
all_plain (m ∷ ms) rest (x, y, e, inr (inl (c, k, f, i)), j) free =
    absurd ((subst Free (e ∙ ap (λ (u : List ℕ). u ++ y) i) free).0 refl)
all_plain (m ∷ ms) rest (x, y, e, inr (inr (k, f)), j) free =
    e ∙ ap (λ (u : List ℕ). u ++ y) (f ∙ sym (bare m (plain_bare m k)))
    ∙ ap (λ (u : List ℕ). escaped m ++ u) (all_plain ms y j
    (AllByRecursion-right (λ n. n ≢ 92) x y (subst Free e free))) ∙ sym (escaped_join m (joined ms))

-- ---- at a backslash

pub at_mark : (k : ℕ) (rest : List ℕ) → k < length rest → (get_or rest k 0 == 92) ≡ true
    → drop k rest ≡ 92 ∷ drop 1 (drop k rest)
at_mark k [] h e = absurd (omega arith)
at_mark zero (x ∷ rest) h e = ap (λ (n : ℕ). n ∷ rest) (eqb-true x 92 e)
at_mark (suc k) (x ∷ rest) h e = at_mark k rest (omega arith) e

-- what comes before the first backslash, and after it
pub record Delimited (rest run behind : List ℕ) : Type 0 where
  pub parts : rest ≡ run ++ 92 ∷ behind
  pub free : Free run

pub marked_at : (rest escaped_rest behind : List ℕ) (k : ℕ) → IsFirstByte (is_byte 92) rest (Some k)
    → escaped_rest ≡ drop k rest → behind ≡ drop 1 escaped_rest → Delimited rest (take k rest) behind
marked_at rest escaped_rest behind k f m b = record {
  parts = sym (take-append-drop k rest) ∙ ap (λ (u : List ℕ). take k rest ++ u)
      (at_mark k rest f.0.high f.1 ∙ ap (λ (u : List ℕ). 92 ∷ u) (ap (drop 1) (sym m) ∙ sym b));
  free = free_prefix k rest (λ i less. f.0.before i (omega arith) less);
}
