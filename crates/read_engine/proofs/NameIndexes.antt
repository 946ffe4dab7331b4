-- A set of names, as it grows.
use Rattle.std.proofs.Common.{◌≡◌, ◌≢◌, ◌⊎◌, ◌<◌, ◌+◌, ◌||◌, ◌∙◌, ap, Bool, true, false, ℕ, List, [], ◌∷◌, ◌++◌, get_or, inl, inr, length, refl, subst, sym, take}
use Rattle.std.specs.Prelude.{Vec, nat_eq}
use Rattle.std.specs.Bool.{Decides}
use Rattle.std.specs.BTreeMap.{is_at}
use Rattle.std.specs.BTreeSet.{BTreeSet, UpdatesBy, contains_by}
use Rattle.std.specs.Cmp.Lexicographic.{pointwise, slice_cmp}
use Rattle.std.specs.Ordering.{is_eq, nat_cmp}
use Rattle.std.specs.Set.{KeepsOthers}
use Rattle.std.proofs.lemmas.Bool.Decides.{Decides-eqb}
use Rattle.std.proofs.lemmas.Cmp.{eq_by_cmp_equiv, nat_list_cmp_total}
use Rattle.std.proofs.lemmas.List.{take_more}
use Rattle.std.proofs.lemmas.List.Folds.{list_any-append}
use Rattle.std.proofs.lemmas.Map.Text.{is_eq-slice_cmp}
use Rattle.std.proofs.lemmas.Slice.Eq.{bytes_eq-Decides, slice_eq-Decides}
use Rattle.read_engine.specs.LeftOut.{Indexes, is_among}

equal_octets : (a b : List ℕ) → is_eq (slice_cmp nat_cmp a b) ≡ true → a ≡ b
equal_octets a b h = (bytes_eq-Decides a b).0 (sym (is_eq-slice_cmp a b) ∙ h)

no_other : (a b k : List ℕ) (r : Bool) → r ≡ is_eq (slice_cmp nat_cmp b k) → b ≢ a → is_eq (slice_cmp nat_cmp a k) ≡ true
    → r ≡ false
no_other a b k true e apart here = absurd (apart (equal_octets b k (sym e) ∙ sym (equal_octets a k here)))
no_other a b k false e apart here = refl

-- what another query finds stays
others_stay : {Y : Type 0} (s n : BTreeSet (Vec ℕ Y)) (text : List ℕ) (b : Bool)
    → UpdatesBy (λ (x y : Vec ℕ Y). slice_cmp nat_cmp x.items y.items) (λ k. slice_cmp nat_cmp text k.items) s n b
    → (other : List ℕ) → other ≢ text
    → contains_by (λ (k : Vec ℕ Y). slice_cmp nat_cmp other k.items) n
    ≡ contains_by (λ (k : Vec ℕ Y). slice_cmp nat_cmp other k.items) s
unfolding KeepsOthers
others_stay {Y = Y} s n text b h other apart =
    h.3 (is_at (λ (k : Vec ℕ Y). slice_cmp nat_cmp other k.items))
    (λ x y. (eq_by_cmp_equiv nat_list_cmp_total).congr other x.items y.items)
    (λ k here. no_other text other k.items (is_eq (slice_cmp nat_cmp other k.items)) refl apart here)

same_names : (a b : List ℕ) → Decides (pointwise nat_eq a b) (a ≡ b)
same_names a b = slice_eq-Decides Decides-eqb a b (pointwise nat_eq a b) refl

by_test : (a b : List ℕ) (r : Bool) → Decides r (a ≡ b) → (a ≡ b) ⊎ (a ≢ b)
by_test a b true d = inl (d.0 refl)
by_test a b false d = inr (λ e. let k : false ≡ true = d.1 e in absurd cc)

-- no test of two names that differ passes
apart_false : (a b : List ℕ) (r : Bool) → Decides r (a ≡ b) → a ≢ b → r ≡ false
apart_false a b true d apart = absurd (apart (d.0 refl))
apart_false a b false d apart = refl

or_false : (r s : Bool) → s ≡ false → (r || s) ≡ r
or_false true s e = refl
or_false false s e = e

or_true : (r s : Bool) → s ≡ true → (r || s) ≡ true
or_true true s e = refl
or_true false s e = e

-- one name more
pub index_push : {Y : Type 0} (s n : BTreeSet (Vec ℕ Y)) (names : List (List ℕ)) (text : List ℕ)
    → UpdatesBy (λ (x y : Vec ℕ Y). slice_cmp nat_cmp x.items y.items) (λ k. slice_cmp nat_cmp text k.items) s n true
    → Indexes s names → Indexes n (names ++ text ∷ [])
index_push {Y = Y} s n names text h old = λ name. at name (by_test name text (pointwise nat_eq name text) (same_names name text))
  where
    among : (name : List ℕ) → is_among (names ++ text ∷ []) name
        ≡ (is_among names name || is_among (text ∷ []) name)
    among name = list_any-append (pointwise nat_eq name) names (text ∷ [])

    one : (name : List ℕ) → is_among (text ∷ []) name ≡ (pointwise nat_eq name text || false)
    one name = refl

    at : (name : List ℕ) → (name ≡ text) ⊎ (name ≢ text)
        → contains_by (λ (k : Vec ℕ Y). slice_cmp nat_cmp name k.items) n ≡ is_among (names ++ text ∷ []) name
    at name (inl same) =
        ap (λ (o : List ℕ). contains_by (λ (k : Vec ℕ Y). slice_cmp nat_cmp o k.items) n) same ∙ h.1
        ∙ sym (among name ∙ or_true (is_among names name) (is_among (text ∷ []) name)
        (one name ∙ ap (λ (b : Bool). b || false) ((same_names name text).1 same)))
    at name (inr apart) =
        others_stay s n text true h name apart ∙ old name
        ∙ sym (among name ∙ or_false (is_among names name) (is_among (text ∷ []) name)
        (one name ∙ ap (λ (b : Bool). b || false)
        (apart_false name text (pointwise nat_eq name text) (same_names name text) apart)))

-- the next of some names more
pub index_next : {Y : Type 0} (s n : BTreeSet (Vec ℕ Y)) (names : List (List ℕ)) (i : ℕ) (text next : List ℕ)
    → i < length names → next ≡ get_or names i next → text ≡ next
    → UpdatesBy (λ (x y : Vec ℕ Y). slice_cmp nat_cmp x.items y.items) (λ k. slice_cmp nat_cmp text k.items) s n true
    → Indexes s (take i names) → Indexes n (take (i + 1) names)
index_next s n names i text next within is same h old =
    subst (Indexes n)
    (sym (take_more names i next within ∙ ap (λ (x : List ℕ). take i names ++ x ∷ []) (sym is)))
    (subst (λ (t : List ℕ). Indexes n (take i names ++ t ∷ [])) same (index_push s n (take i names) text h old))
