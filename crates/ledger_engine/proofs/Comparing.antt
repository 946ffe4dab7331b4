-- A ledger is compared with names.
use Rattle.std.proofs.Common.{◌≡◌, ◌≢◌, ℕ, List, [], ◌∷◌, ◌++◌, map, arith, Bor, Global, Option, None, Some, Bool, true, false, refl, sym, ap, subst, ◌∙◌, inl, inr, suc}
use Rattle.std.specs.Prelude.{◌⊎◌, Contains, IsSome, Vec}
use Rattle.std.specs.Bool.{Decides}
use Rattle.std.specs.Cmp.Lexicographic.{slice_cmp}
use Rattle.std.specs.List.{All, AllByRecursion, Any}
use Rattle.std.specs.Map.{lookup}
use Rattle.std.specs.Map.Iter.{deref_pair}
use Rattle.std.specs.Ordering.{is_eq, nat_cmp}
use Rattle.std.specs.Str.{bytes_eq}
use Rattle.std.proofs.lemmas.List.Elements.{All-contains, All-from_recursion, All-map, All-push, All-weaker, recursion_from_All}
use Rattle.std.proofs.lemmas.List.Elements.{Contains-append_cases, Contains-append_left, Contains-append_right, Contains-push, Contains-push_cases}
use Rattle.std.proofs.lemmas.Map.Text.{is_eq-slice_cmp}
use Rattle.std.proofs.lemmas.Slice.Eq.{bytes_eq-Decides}
use Rattle.ledger.specs.Standings.{listed_at}
use Rattle.ledger.specs.declared.standing.Listed.{Listed}
use Rattle.ledger.specs.declared.standing.Standing.{Standing}
use Rattle.ledger_engine.specs.Findings.{IsCompared, IsListedAbsent, IsThereOrMissing, WasSetAside, missing_names, octets_of}
use Rattle.ledger_engine.specs.Known.{AreThose, IsOfStore, IsUnlisted}
use Rattle.ledger_engine.specs.declared.findings.LedgerFindings.{LedgerFindings}

-- ---- names

no_element : (name : List ℕ) → Contains [] name → ⊥
no_element name (k, below, same) = omega (arith, below)

decide : (a b : List ℕ) → (a ≡ b) ⊎ (a ≢ b)
decide a b = by_test (bytes_eq a b) (bytes_eq-Decides a b)
  where
    by_test : (r : Bool) → Decides r (a ≡ b) → (a ≡ b) ⊎ (a ≢ b)
    by_test true d = inl (d.0 refl)
    by_test false d = inr (λ e. let k : false ≡ true = d.1 e in cc)

first : (x : List ℕ) (xs : List (List ℕ)) → Contains (x ∷ xs) x
first x xs = Contains-append_left (x ∷ []) xs x (Contains-push [] x)

later : (x : List ℕ) (xs : List (List ℕ)) (name : List ℕ) → Contains xs name → Contains (x ∷ xs) name
later x xs name has = Contains-append_right (x ∷ []) xs name has

first_or_later : (x : List ℕ) (xs : List (List ℕ)) (name : List ℕ) → Contains (x ∷ xs) name
    → (x ≡ name) ⊎ Contains xs name
first_or_later x xs name has =
    elim (Contains-append_cases (x ∷ []) xs name has) [
      | inl here ↦ elim (Contains-push_cases [] x name here) [
        | inl none ↦ absurd (no_element name none)
        | inr same ↦ inl same
      ]
      | inr there ↦ inr there
    ]

among : (names : List (List ℕ)) (name : List ℕ) → Contains names name ⊎ (Contains names name → ⊥)
among [] name = inr (no_element name)
among (x ∷ xs) name = either (decide x name) (among xs name)
  where
    either : (x ≡ name) ⊎ (x ≢ name) → Contains xs name ⊎ (Contains xs name → ⊥)
        → Contains (x ∷ xs) name ⊎ (Contains (x ∷ xs) name → ⊥)
    either (inl same) rest = inl (subst (Contains (x ∷ xs)) same (first x xs))
    either (inr apart) (inl has) = inl (later x xs name has)
    either (inr apart) (inr never) = inr (λ has. elim (first_or_later x xs name has) [
      | inl same ↦ apart same
      | inr there ↦ never there
    ])

-- ---- those of some names

pub those_none : (P : List ℕ → Type 0) → AreThose P [] []
those_none P name = (λ has. absurd (no_element name has), λ both. absurd (no_element name both.0))

pub those_with : (P : List ℕ → Type 0) (before those : List (List ℕ)) (name : List ℕ) → AreThose P before those → P name
    → AreThose P (before ++ name ∷ []) (those ++ name ∷ [])
those_with P before those name h p other = (to, from)
  where
    to : Contains (those ++ name ∷ []) other → Contains (before ++ name ∷ []) other × P other
    to has =
        elim (Contains-push_cases those name other has) [
          | inl early ↦ (Contains-append_left before (name ∷ []) other ((h other).0 early).0, ((h other).0 early).1)
          | inr is ↦ (subst (Contains (before ++ name ∷ [])) is (Contains-push before name), subst P is p)
        ]

    from : Contains (before ++ name ∷ []) other × P other → Contains (those ++ name ∷ []) other
    from both =
        elim (Contains-push_cases before name other both.0) [
          | inl early ↦ Contains-append_left those (name ∷ []) other ((h other).1 (early, both.1))
          | inr is ↦ subst (Contains (those ++ name ∷ [])) is (Contains-push those name)
        ]

pub those_without : (P : List ℕ → Type 0) (before those : List (List ℕ)) (name : List ℕ) → AreThose P before those
    → (P name → ⊥) → AreThose P (before ++ name ∷ []) those
those_without P before those name h never other = (to, from)
  where
    to : Contains those other → Contains (before ++ name ∷ []) other × P other
    to has = (Contains-append_left before (name ∷ []) other ((h other).0 has).0, ((h other).0 has).1)

    from : Contains (before ++ name ∷ []) other × P other → Contains those other
    from both =
        elim (Contains-push_cases before name other both.0) [
          | inl early ↦ (h other).1 (early, both.1)
          | inr is ↦ absurd (never (subst P (sym is) both.1))
        ]

-- ---- what is listed

equal_octets : (a b : List ℕ) → is_eq (slice_cmp nat_cmp a b) ≡ true → a ≡ b
equal_octets a b h = (bytes_eq-Decides a b).0 (sym (is_eq-slice_cmp a b) ∙ h)

-- what holds of each entry holds of what a look-up finds
found : {K X : Type 0} (octets : K → List ℕ) (R : List ℕ → X → Type 0) (name : List ℕ) (es : List (K × X)) (x : X)
    → AllByRecursion (λ e. R (octets e.0) e.1) es → lookup (λ k. is_eq (slice_cmp nat_cmp name (octets k))) es ≡ Some x
    → R name x
found octets R name [] x all is = absurd (cc is)
found {X = X} octets R name (e ∷ es) x all is =
    by_test (is_eq (slice_cmp nat_cmp name (octets e.0))) refl (λ now. found octets R name es x all.1 now)
  where
    by_test : (b : Bool) → is_eq (slice_cmp nat_cmp name (octets e.0)) ≡ b
        → (lookup (λ k. is_eq (slice_cmp nat_cmp name (octets k))) es ≡ Some x → R name x) → R name x
    by_test true same rest =
        let now : Some e.1 ≡ Some x = rw same at is in
        let value : e.1 ≡ x = cc in
        subst (λ (y : X). R name y) value
        (subst (λ (n : List ℕ). R n e.1) (sym (equal_octets name (octets e.0) same)) all.0)
    by_test false other rest =
        let now : lookup (λ k. is_eq (slice_cmp nat_cmp name (octets k))) es ≡ Some x = rw other at is in
        rest now

some_from : {X : Type 0} (o : Option X) (x : X) → o ≡ Some x → IsSome o
some_from o x h = subst IsSome (sym h) refl

none_from : {X : Type 0} (o : Option X) → o ≡ None → IsSome o → ⊥
none_from None h some = absurd (cc some)
none_from (Some x) h some = absurd (cc h)

-- of entries that were gone through, those are missing that were not set aside
pub record AreTaken {A B : Type 0} (There : List ℕ → Type 0) (ys : List (Bor (Vec ℕ B) × Bor Listed))
    (missing : List (Vec ℕ A)) : Type 0 where
  pub kept : All (λ y. WasSetAside There y.0.now.items y.1.now ⊎ Contains (octets_of missing) y.0.now.items) ys
  pub only : (name : List ℕ) → Contains (octets_of missing) name
      → Contains (map (λ e. e.0.items) (map deref_pair ys)) name

pub taken_none : {A B : Type 0} (There : List ℕ → Type 0) → AreTaken {A = A} {B = B} There [] []
taken_none There = record {
  kept = λ k d below. absurd (let never : ⊥ = omega (arith, below) in never);
  only = λ name has. absurd (no_element name has);
}

yielded_more : {B : Type 0} (ys : List (Bor (Vec ℕ B) × Bor Listed)) (y : Bor (Vec ℕ B) × Bor Listed)
    → map (λ e. e.0.items) (map deref_pair (ys ++ y ∷ [])) ≡ map (λ e. e.0.items) (map deref_pair ys) ++ y.0.now.items ∷ []
yielded_more [] y = refl
yielded_more (x ∷ ys) y = ap (λ (l : List (List ℕ)). x.0.now.items ∷ l) (yielded_more ys y)

octets_more : {A : Type 0} (vs : List (Vec ℕ A)) (v : Vec ℕ A) → octets_of (vs ++ v ∷ []) ≡ octets_of vs ++ v.items ∷ []
octets_more [] v = refl
octets_more (x ∷ vs) v = ap (λ (l : List (List ℕ)). x.items ∷ l) (octets_more vs v)

pub taken_aside : {A B : Type 0} (There : List ℕ → Type 0) (ys : List (Bor (Vec ℕ B) × Bor Listed)) (missing : List (Vec ℕ A))
    (y : Bor (Vec ℕ B) × Bor Listed) → AreTaken There ys missing → WasSetAside There y.0.now.items y.1.now
    → AreTaken There (ys ++ y ∷ []) missing
taken_aside There ys missing y h aside = record {
  kept = All-push (λ z. WasSetAside There z.0.now.items z.1.now ⊎ Contains (octets_of missing) z.0.now.items) ys y h.kept
      (inl aside);
  only = λ name has. subst (λ (l : List (List ℕ)). Contains l name) (sym (yielded_more ys y))
      (Contains-append_left (map (λ e. e.0.items) (map deref_pair ys)) (y.0.now.items ∷ []) name (h.only name has));
}

pub taken_missing : {A B : Type 0} (There : List ℕ → Type 0) (ys : List (Bor (Vec ℕ B) × Bor Listed))
    (missing : List (Vec ℕ A)) (y : Bor (Vec ℕ B) × Bor Listed) (v : Vec ℕ A) → AreTaken There ys missing
    → v.items ≡ y.0.now.items → AreTaken There (ys ++ y ∷ []) (missing ++ v ∷ [])
taken_missing There ys missing y v h is = record {
  kept = All-push (λ z. WasSetAside There z.0.now.items z.1.now ⊎ Contains (octets_of (missing ++ v ∷ [])) z.0.now.items) ys y
      (All-weaker (λ z. WasSetAside There z.0.now.items z.1.now ⊎ Contains (octets_of missing) z.0.now.items)
      (λ z. WasSetAside There z.0.now.items z.1.now ⊎ Contains (octets_of (missing ++ v ∷ [])) z.0.now.items)
      (λ z old. still z.0.now.items (WasSetAside There z.0.now.items z.1.now) old) ys h.kept)
      (inr (subst (Contains (octets_of (missing ++ v ∷ []))) is last));
  only = λ name has. subst (λ (l : List (List ℕ)). Contains l name) (sym (yielded_more ys y))
      (either name (Contains-push_cases (octets_of missing) v.items name
      (subst (λ (l : List (List ℕ)). Contains l name) (octets_more missing v) has)));
}
  where
    more : (name : List ℕ) → Contains (octets_of missing ++ v.items ∷ []) name → Contains (octets_of (missing ++ v ∷ [])) name
    more name has = subst (λ (l : List (List ℕ)). Contains l name) (sym (octets_more missing v)) has

    last : Contains (octets_of (missing ++ v ∷ [])) v.items
    last = more v.items (Contains-push (octets_of missing) v.items)

    still : (name : List ℕ) (Q : Type 0) → Q ⊎ Contains (octets_of missing) name
        → Q ⊎ Contains (octets_of (missing ++ v ∷ [])) name
    still name Q (inl q) = inl q
    still name Q (inr has) = inr (more name (Contains-append_left (octets_of missing) (v.items ∷ []) name has))

    either : (name : List ℕ) → Contains (octets_of missing) name ⊎ (v.items ≡ name)
        → Contains (map (λ e. e.0.items) (map deref_pair ys) ++ y.0.now.items ∷ []) name
    either name (inl old) =
        Contains-append_left (map (λ e. e.0.items) (map deref_pair ys)) (y.0.now.items ∷ []) name (h.only name old)
    either name (inr new) = subst (Contains (map (λ e. e.0.items) (map deref_pair ys) ++ y.0.now.items ∷ [])) (sym is ∙ new)
        (Contains-push (map (λ e. e.0.items) (map deref_pair ys)) y.0.now.items)

-- ---- names in memory

any_of : (os : List (Bor (List ℕ))) (name : List ℕ) → Contains (map (λ b. b.now) os) name → Any (λ o. o.now ≡ name) os
any_of [] name has = absurd (no_element name has)
any_of (o ∷ os) name has = either (first_or_later o.now (map (λ b. b.now) os) name has) (λ there. any_of os name there)
  where
    on : Any (λ z. z.now ≡ name) os → Any (λ z. z.now ≡ name) (o ∷ os)
    on (k, d, inside, at', is) = (suc k, d, omega (arith, inside), at', is)

    either : (o.now ≡ name) ⊎ Contains (map (λ b. b.now) os) name
        → (Contains (map (λ b. b.now) os) name → Any (λ z. z.now ≡ name) os) → Any (λ z. z.now ≡ name) (o ∷ os)
    either (inl same) rest = (0, o, omega arith, refl, same)
    either (inr there) rest = on (rest there)

none_of : (os : List (Bor (List ℕ))) (name : List ℕ) → (Contains (map (λ b. b.now) os) name → ⊥)
    → AllByRecursion (λ o. o.now ≢ name) os
none_of [] name never = tt
none_of (o ∷ os) name never = (
  λ same. never (subst (Contains (o.now ∷ map (λ b. b.now) os)) same (first o.now (map (λ b. b.now) os))),
  none_of os name (λ has. never (later o.now (map (λ b. b.now) os) name has)),
)

-- ---- a ledger is compared

pub compared : (names : List (List ℕ)) (os : List (Bor (List ℕ))) (standing absent : Standing) (f : LedgerFindings)
    → map (λ b. b.now) os ≡ names
    → ((name : List ℕ) → Any (λ o. o.now ≡ name) os → listed_at absent name ≡ None)
    → ((name : List ℕ) → All (λ o. o.now ≢ name) os → listed_at absent name ≡ listed_at standing name)
    → f.broken ≡ None → IsListedAbsent (Contains names) absent f.missing.items
    → AreThose (IsUnlisted standing) names f.unlisted.items → AreThose (λ name. ¬ (IsOfStore name)) names f.foreign.items
    → IsCompared (Contains names) standing f
compared names os standing absent f octets there gone whole missing unlisted foreign = record {
  whole = whole;
  listed = λ name l is. place name l is (among names name);
  missing = λ name has. tell name has (among names name);
  unlisted = unlisted;
  foreign = foreign;
}
  where
    apart : (name : List ℕ) → (Contains names name → ⊥) → listed_at absent name ≡ listed_at standing name
    apart name never = gone name (All-from_recursion (λ o. o.now ≢ name) os
        (none_of os name (λ has. never (subst (λ (l : List (List ℕ)). Contains l name) octets has))))

    place : (name : List ℕ) (l : Listed) → listed_at standing name ≡ Some l
        → Contains names name ⊎ (Contains names name → ⊥) → IsThereOrMissing (Contains names) f name l
    place name l is (inl has) = inl has
    place name l is (inr never) = inr (missing.listed name l (apart name never ∙ is))

    tell : (name : List ℕ) → Contains (missing_names f) name → Contains names name ⊎ (Contains names name → ⊥)
        → IsSome (listed_at standing name) × (Contains names name → ⊥)
    tell name has (inl is) =
        absurd (none_from (listed_at absent name) (there name (any_of os name
        (subst (λ (l : List (List ℕ)). Contains l name) (sym octets) is))) (missing.only name has))
    tell name has (inr never) = (subst IsSome (apart name never) (missing.only name has), never)

pub absent_listed : {A : Type 0} (There : List ℕ → Type 0) (t : Standing) (missing : List (Vec ℕ A))
    → All (λ e. WasSetAside There e.0.items e.1 ⊎ Contains (octets_of missing) e.0.items) t.segments.entries
    → ((name : List ℕ) → Contains (octets_of missing) name → Contains (map (λ e. e.0.items) t.segments.entries) name)
    → All (λ e. listed_at t e.0.items ≡ Some e.1) t.segments.entries → IsListedAbsent There t missing
absent_listed There t missing kept only listed = record {
  listed = λ name l is. found (λ k. k.items) (λ n x. WasSetAside There n x ⊎ Contains (octets_of missing) n) name
      t.segments.entries l
      (recursion_from_All (λ e. WasSetAside There e.0.items e.1 ⊎ Contains (octets_of missing) e.0.items) t.segments.entries
      kept) is;
  only = λ name has. All-contains (λ n. IsSome (listed_at t n)) (map (λ e. e.0.items) t.segments.entries) name
      (All-map (λ n. IsSome (listed_at t n)) (λ e. e.0.items) t.segments.entries
      (All-weaker (λ e. listed_at t e.0.items ≡ Some e.1) (λ e. IsSome (listed_at t e.0.items))
      (λ e is. some_from (listed_at t e.0.items) e.1 is) t.segments.entries listed)) (only name has);
}

pub absent_taken : {A : Type 0} (There : List ℕ → Type 0) (t : Standing) (ys : List (Bor (Vec ℕ Global) × Bor Listed))
    (missing : List (Vec ℕ A)) → map deref_pair ys ≡ t.segments.entries → AreTaken There ys missing
    → All (λ e. listed_at t e.0.items ≡ Some e.1) t.segments.entries → IsListedAbsent There t missing
absent_taken There t ys missing e taken listed =
    absent_listed There t missing
    (subst (All (λ x. WasSetAside There x.0.items x.1 ⊎ Contains (octets_of missing) x.0.items)) e
    (All-map (λ x. WasSetAside There x.0.items x.1 ⊎ Contains (octets_of missing) x.0.items) deref_pair ys taken.kept))
    (λ name has. subst (λ es. Contains (map (λ x. x.0.items) es) name) e (taken.only name has)) listed
