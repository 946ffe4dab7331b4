-- What a line does to a standing.
use Rattle.std.proofs.Common.{◌≡◌, ◌≢◌, ℕ, ◌+◌, ◌<◌, List, length, slice_index_or, Bor, arith, Option, None, Bool, true, false, refl, sym, ap, subst, ◌∙◌, inl, inr}
use Rattle.std.specs.Prelude.{◌⊎◌, Vec}
use Rattle.std.specs.BTreeMap.{BTreeMap, UpdatesBy, get_by, is_at}
use Rattle.std.specs.Bool.{Decides}
use Rattle.std.specs.Cmp.Lexicographic.{slice_cmp}
use Rattle.std.specs.Map.{KeepsOthers}
use Rattle.std.specs.Ordering.{is_eq, nat_cmp}
use Rattle.std.specs.Str.{bytes_eq}
use Rattle.std.proofs.lemmas.Bool.{cases_lt}
use Rattle.std.proofs.lemmas.List.{get_or_default}
use Rattle.std.specs.List.{All, Any}
use Rattle.std.proofs.lemmas.Cmp.{eq_by_cmp_equiv, nat_list_cmp_total}
use Rattle.std.proofs.lemmas.Map.Text.{is_eq-slice_cmp}
use Rattle.std.proofs.lemmas.Slice.Eq.{bytes_eq-Decides}
use Rattle.ledger.specs.Lines.{Said}
use Rattle.ledger.specs.Standings.{TakesLine, behind_line, listed_at}
use Rattle.ledger.specs.declared.standing.Listed.{Listed}
use Rattle.ledger.specs.declared.standing.Standing.{Standing}

-- ---- a map under octets

equal_octets : (a b : List ℕ) → is_eq (slice_cmp nat_cmp a b) ≡ true → a ≡ b
equal_octets a b h = (bytes_eq-Decides a b).0 (sym (is_eq-slice_cmp a b) ∙ h)

no_other : (a b k : List ℕ) (r : Bool) → r ≡ is_eq (slice_cmp nat_cmp b k) → b ≢ a → is_eq (slice_cmp nat_cmp a k) ≡ true
    → r ≡ false
no_other a b k true e apart here = absurd (apart (equal_octets b k (sym e) ∙ sym (equal_octets a k here)))
no_other a b k false e apart here = refl

-- what another query finds stays
others_stay : {X Y : Type 0} (m n : BTreeMap (Vec ℕ Y) X) (text : List ℕ) (w : Option X)
    → UpdatesBy (λ (x y : Vec ℕ Y). slice_cmp nat_cmp x.items y.items) (λ k. slice_cmp nat_cmp text k.items) m n w
    → (other : List ℕ) → other ≢ text
    → get_by (λ (k : Vec ℕ Y). slice_cmp nat_cmp other k.items) n
    ≡ get_by (λ (k : Vec ℕ Y). slice_cmp nat_cmp other k.items) m
unfolding KeepsOthers
others_stay {X = X} {Y = Y} m n text w h other apart =
    h.3 (is_at (λ (k : Vec ℕ Y). slice_cmp nat_cmp other k.items))
    (λ x y. (eq_by_cmp_equiv nat_list_cmp_total).congr other x.items y.items)
    (λ k here. no_other text other k.items (is_eq (slice_cmp nat_cmp other k.items)) refl apart here)

-- ---- one line

pub takes_line : (s t : Standing) (number : ℕ) (said : Said) (key : List ℕ) (w : Option Listed) → key ≡ said.name
    → UpdatesBy (λ x y. slice_cmp nat_cmp x.items y.items) (λ k. slice_cmp nat_cmp key k.items) s.segments t.segments w
    → w ≡ behind_line (listed_at s said.name) number said → TakesLine s t number said
takes_line s t number said key w is h e =
    let updates = subst (λ (l : List ℕ).
    UpdatesBy (λ x y. slice_cmp nat_cmp x.items y.items) (λ k. slice_cmp nat_cmp l k.items) s.segments t.segments w) is h
    in
    record {
      here = updates.1 ∙ e;
      others = λ other apart. others_stay s.segments t.segments said.name w updates other apart;
    }

pub strikes : (s t : Standing) (key : List ℕ)
    → UpdatesBy (λ x y. slice_cmp nat_cmp x.items y.items) (λ k. slice_cmp nat_cmp key k.items) s.segments t.segments None
    → (listed_at t key ≡ None)
    × ((other : List ℕ) → other ≢ key → listed_at t other ≡ listed_at s other)
strikes s t key h = (h.1, λ other apart. others_stay s.segments t.segments key None h other apart)

-- ---- names are struck out

decide : (a b : List ℕ) → (a ≡ b) ⊎ (a ≢ b)
decide a b = by_test (bytes_eq a b) (bytes_eq-Decides a b)
  where
    by_test : (r : Bool) → Decides r (a ≡ b) → (a ≡ b) ⊎ (a ≢ b)
    by_test true d = inl (d.0 refl)
    by_test false d = inr (λ e. let k : false ≡ true = d.1 e in cc)

-- the first of some names were struck out
pub record IsStruck (first now : Standing) (names : List (Bor (List ℕ))) (i : ℕ) : Type 0 where
  pub there : (k : ℕ) (d : Bor (List ℕ)) → k < i → listed_at now (slice_index_or names k d).now ≡ None
  pub missing : (name : List ℕ) → ((k : ℕ) (d : Bor (List ℕ)) → k < i → (slice_index_or names k d).now ≢ name)
      → listed_at now name ≡ listed_at first name

pub strikes_on : (first s t : Standing) (names : List (Bor (List ℕ))) (i : ℕ) (e : Bor (List ℕ)) → i < length names
    → UpdatesBy (λ x y. slice_cmp nat_cmp x.items y.items)
    (λ k. slice_cmp nat_cmp (slice_index_or names i e).now k.items) s.segments t.segments None
    → IsStruck first s names i → IsStruck first t names (i + 1)
strikes_on first s t names i e inside h old = record {
  there = λ k d below. there k d below (decide (slice_index_or names k d).now key);
  missing = λ name apart.
      let here : key ≢ name = apart i e (omega arith) in
      struck.1 name (λ same. here (sym same)) ∙ old.missing name (λ k d less. apart k d (omega arith));
}
  where
    key : List ℕ
    key = (slice_index_or names i e).now

    struck : (listed_at t key ≡ None) × ((other : List ℕ) → other ≢ key → listed_at t other ≡ listed_at s other)
    struck = strikes s t key h

    there : (k : ℕ) (d : Bor (List ℕ)) → k < i + 1
        → ((slice_index_or names k d).now ≡ key) ⊎ ((slice_index_or names k d).now ≢ key)
        → listed_at t (slice_index_or names k d).now ≡ None
    there k d below (inl same) = ap (listed_at t) same ∙ struck.0
    there k d below (inr apart) =
        elim (cases_lt k i) [
          | inl less ↦ struck.1 (slice_index_or names k d).now apart ∙ old.there k d less
          | inr high ↦
              let at : k ≡ i = omega arith in
              absurd (apart (ap (λ (b : Bor (List ℕ)). b.now) (ap (λ (j : ℕ). slice_index_or names j d) at
              ∙ get_or_default names i d e inside)))
        ]

pub struck_there : (first now : Standing) (names : List (Bor (List ℕ))) (i : ℕ) → i ≡ length names
    → IsStruck first now names i → (name : List ℕ) → Any (λ other. other.now ≡ name) names → listed_at now name ≡ None
struck_there first now names i all h name (k, d, inside, at, is) =
    ap (listed_at now) (sym is ∙ ap (λ (b : Bor (List ℕ)). b.now) (sym at)) ∙ h.there k d (omega arith)

pub struck_missing : (first now : Standing) (names : List (Bor (List ℕ))) (i : ℕ) → i ≡ length names
    → IsStruck first now names i → (name : List ℕ) → All (λ other. other.now ≢ name) names
    → listed_at now name ≡ listed_at first name
struck_missing first now names i all h name apart = h.missing name (λ k d less. apart k d (omega arith))
