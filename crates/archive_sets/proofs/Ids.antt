-- The ids of elements, in the order of the octets and by id.
use Rattle.std.proofs.Common.{◌≡◌, ℕ, ◌<◌, List, [], ◌∷◌, ◌++◌, length, refl, sym, ap, subst, ◌∙◌}
use Rattle.std.proofs.Common.{inl, inr, arith}
use Rattle.std.specs.Prelude.{◌↔◌}
use Rattle.std.specs.List.{AllByRecursion}
use Rattle.std.specs.List.Sorted.{IsPermutation}
use Rattle.std.proofs.lemmas.List.{append_cancel_left, length-append}
use Rattle.std.proofs.lemmas.List.Sorted.{IsPermutation-sym}
use Rattle.octet_language.specs.Language.{AnyOf, Each, NoPrefix}
use Rattle.octet_language.specs.Reading.{Follows}
use Rattle.syslog_value.specs.Parts.{ElementParts}
use Rattle.syslog_fields.specs.Grammar.{Element}
use Rattle.syslog_fields.specs.Spans.{ElementSpan, SpannedElement}
use Rattle.syslog_reading.proofs.ById.{all_permuted}
use Rattle.syslog_reading.proofs.OwnedParts.{element_same}
use Rattle.syslog_fields.proofs.ParamTexts.{IsPrefixFree-element, element_spanned, spanned_element}
use Rattle.archive_sets.specs.Fields.{HasId}

-- ---- an id in any order

each_own : (fs xs : List ElementParts) → ((id : List ℕ) → HasId xs id → HasId fs id)
    → AllByRecursion (λ e. HasId fs e.id) xs
each_own fs [] from = tt
each_own fs (x ∷ xs) from = (from x.id (inl refl), each_own fs xs (λ id h. from id (inr h)))

one_of : (fs xs : List ElementParts) (id : List ℕ) → AllByRecursion (λ e. HasId fs e.id) xs → HasId xs id → HasId fs id
one_of fs [] id all h = absurd h
one_of fs (x ∷ xs) id all (inl same) = subst (HasId fs) same all.0
one_of fs (x ∷ xs) id all (inr more) = one_of fs xs id all.1 more

one_way : (es fs : List ElementParts) (id : List ℕ) → IsPermutation es fs → HasId es id → HasId fs id
one_way es fs id p h =
    one_of fs es id (all_permuted (λ e. HasId fs e.id) fs es (IsPermutation-sym es fs p) (each_own fs fs (λ i k. k))) h

pub ids_permuted : (es fs : List ElementParts) (id : List ℕ) → IsPermutation es fs → HasId es id ↔ HasId fs id
ids_permuted es fs id p = (one_way es fs id p, one_way fs es id (IsPermutation-sym es fs p))

-- ---- elements that are looked at one after the other

-- none of the elements of a text before `rest` has the id
abbrev pub IsSearched : List ℕ → List ℕ → List ℕ → Type 0
IsSearched id text rest =
    (es : List ElementParts) → Each Element es text
    → (todo : List ElementParts) × Each Element todo rest × (HasId es id ↔ HasId todo id)

pub searched_none : (id text : List ℕ) → IsSearched id text text
searched_none id text es h = (es, h, (λ k. k, λ k. k))

-- an element has octets
pub element_shorter : (v : ElementSpan) (rest behind : List ℕ) → Follows (SpannedElement v) rest behind
    → length behind < length rest
element_shorter v rest behind (text, parts, (x, y, e, h, k)) =
    omega (arith, ap length parts, length-append text behind, ap length e, length-append x y, ap length h)

no_element : (v : ElementSpan) (rest behind : List ℕ) → rest ≡ [] → Follows (SpannedElement v) rest behind → ⊥
no_element v rest behind none f = omega (arith, ap length none, element_shorter v rest behind f)

-- the first element is the one that follows
record IsNextElement (q : ElementParts) (todo : List ElementParts) (v : ElementSpan) (behind : List ℕ) : Type 0 where
  id : q.id ≡ v.id
  others : Each Element todo behind

next_element : (q : ElementParts) (todo : List ElementParts) (v : ElementSpan) (rest behind : List ℕ)
    → Each Element (q ∷ todo) rest → Follows (SpannedElement v) rest behind → IsNextElement q todo v behind
next_element q todo v rest behind (x, y, e, h, k) (t, f, s) =
    let same : x ≡ t = IsPrefixFree-element x y t behind (q, h) (spanned_element t (v, s)) (sym e ∙ f) in
    let others : y ≡ behind =
    append_cancel_left x y behind (sym e ∙ f ∙ ap (λ (u : List ℕ). u ++ behind) (sym same)) in
    record {
      id = (element_same q v t (subst (Element q) same h) s).0;
      others = subst (Each Element todo) others k;
    }

-- the next one does not have it
pub searched_more : (id text rest behind : List ℕ) (v : ElementSpan) → Follows (SpannedElement v) rest behind
    → ¬ (v.id ≡ id) → IsSearched id text rest → IsSearched id text behind
searched_more id text rest behind v f other before es h = go (before es h)
  where
    go : ((todo : List ElementParts) × Each Element todo rest × (HasId es id ↔ HasId todo id))
        → (todo : List ElementParts) × Each Element todo behind × (HasId es id ↔ HasId todo id)
    go ([], k, same) = absurd (no_element v rest behind k f)
    go (q ∷ todo, k, same) =
        let next = next_element q todo v rest behind k f in
        (todo, next.others, (λ l. later next.id (same.0 l), λ l. same.1 (inr l)))
      where
        later : q.id ≡ v.id → HasId (q ∷ todo) id → HasId todo id
        later is (inl l) = absurd (other (sym is ∙ l))
        later is (inr l) = l

-- or it has
pub searched_found : (id text rest behind : List ℕ) (v : ElementSpan) → Follows (SpannedElement v) rest behind
    → v.id ≡ id → IsSearched id text rest → (es : List ElementParts) → Each Element es text → HasId es id
searched_found id text rest behind v f this before es h = go (before es h)
  where
    go : ((todo : List ElementParts) × Each Element todo rest × (HasId es id ↔ HasId todo id)) → HasId es id
    go ([], k, same) = absurd (no_element v rest behind k f)
    go (q ∷ todo, k, same) = same.1 (inl ((next_element q todo v rest behind k f).id ∙ this))

-- there is no further one
pub searched_all : (id text rest : List ℕ) → NoPrefix (AnyOf SpannedElement) rest → IsSearched id text rest
    → (es : List ElementParts) → Each Element es text → HasId es id → ⊥
searched_all id text rest none before es h has = go (before es h)
  where
    go : ((todo : List ElementParts) × Each Element todo rest × (HasId es id ↔ HasId todo id)) → ⊥
    go ([], k, same) = same.0 has
    go (q ∷ todo, (x, y, e, k, l), same) = none x y e (element_spanned x (q, k))
