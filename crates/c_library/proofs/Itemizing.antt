-- Items, one after the other.
use Rattle.std.proofs.Common.{◌≡◌, ℕ, zero, suc, ◌+◌, ◌-◌, ◌*◌, ◌≤◌, List, [], ◌∷◌, ◌++◌, Result, Ok, Err, false, length, take, drop, get_or, ap, arith, append_assoc, inl, inr, refl, subst, sym, ◌∙◌}
use Rattle.std.specs.Prelude.{MatchResult, if◌then◌else◌, is_err, is_ok}
use Rattle.std.specs.Result.{IsErr, IsErrAnd}
use Rattle.std.specs.List.{AllByRecursion, flat_map}
use Rattle.std.proofs.lemmas.List.{append-nil, drop-map, length-append, length-drop, length-map, take_all}
use Rattle.std.proofs.lemmas.List.Concat.{flat_map-append}
use Rattle.std.proofs.Math.Seq.{drop-append_seam}
use Rattle.archive_text.proofs.Members.{all_append}
use Rattle.syslog_value.specs.Parts.{ElementParts, IsElement, IsName, IsParam, ParamParts}
use Rattle.c_library.specs.DataItems.{BeginsId, BeginsName, BeginsPart, BeginsValue, HasItem, HasNoName, IsElementBad, IsItemsBad, IsItemsFault, StopsAt, StopsBehind, TakesElement, TakesParam, TakesValue, element_items, pairs, param_items}
use Rattle.c_library.specs.declared.items.ItemsFault.{ItemsFault}
use Rattle.c_library.specs.declared.items.ItemsFault.TheVariants.{Bad, Memory}
use Rattle.c_library.specs.declared.items.SyslogboxItem.{SyslogboxItem}

-- ---- lists

drop_none : {A : Type 0} (n : ℕ) → drop {A = A} n [] ≡ []
drop_none zero = refl
drop_none (suc n) = refl

-- what is left behind two parts
drop_both : {A : Type 0} (i n : ℕ) (xs : List A) → drop (i + n) xs ≡ drop n (drop i xs)
drop_both zero n xs = ap (λ k. drop k xs) (omega arith)
drop_both (suc i) n [] = drop_none (suc i + n) ∙ sym (drop_none n)
drop_both (suc i) n (x ∷ xs) =
    let e : suc i + n ≡ suc (i + n) = omega arith in
    ap (λ k. drop k (x ∷ xs)) e ∙ drop_both i n xs

-- behind items that are known
pub pairs_behind : (items : List SyslogboxItem) (at : ℕ) (front rest : List (ℕ × List ℕ)) → at ≤ length items
    → pairs (drop at items) ≡ front ++ rest
    → (at + length front ≤ length items) × (pairs (drop (at + length front) items) ≡ rest)
pairs_behind items at front rest within is =
    let sizes : length (pairs (drop at items)) ≡ length front + length rest = ap length is ∙ length-append front rest in
    let count : length (pairs (drop at items)) ≡ length items - at =
    length-map (drop at items) _ ∙ length-drop at items in (
      omega (arith, sizes, count, within),
      ap pairs (drop_both at (length front) items)
          ∙ (sym (drop-map _ (length front) (drop at items))
          ∙ (ap (λ (ys : List (ℕ × List ℕ)). drop (length front) ys) is ∙ drop-append_seam front rest)),
    )

-- the rest of a slice, as it is lent
pub lent : (items : List SyslogboxItem) (at : ℕ) → take (length items - at) (drop at items) ≡ drop at items
lent items at = take_all (length items - at) (drop at items) (omega (arith, length-drop at items))

-- a vector to which something was pushed
pub pushed : {X T E : Type 0} (r : Result T E) (old new : List X) (x : X)
    → new ≡ (if is_ok r then old ++ x ∷ [] else old) → is_err r ≡ false → new ≡ old ++ x ∷ []
pushed (Ok t) old new x is good = is
pushed (Err e) old new x is good = absurd cc

-- ---- a value, a parameter

pub value_first : (items : List SyslogboxItem) (d : SyslogboxItem) (text value : List ℕ) → 1 ≤ length items
    → (get_or items 0 d).part ≡ 10 → text ≡ (get_or items 0 d).octets.now → value ≡ text → TakesValue (pairs items) value
value_first [] d text value some part is same = absurd (omega (arith, some))
value_first (x ∷ xs) d text value some part is same = (pairs xs, cc)

pub name_refused : (items : List SyslogboxItem) (d : SyslogboxItem) → 1 ≤ length items
    → (get_or items 0 d).part ≡ 9 → ¬ (IsName (get_or items 0 d).octets.now) → StopsBehind (pairs items) (length items)
name_refused [] d some part never = absurd (omega (arith, some))
name_refused (x ∷ xs) d some part never = inl (
  tt,
  (λ h. omega (arith, part, h.0)),
  (λ h. never h.1),
  sym (length-map (x ∷ xs) _),
)

pub value_refused : (items : List SyslogboxItem) (d : SyslogboxItem) → 1 ≤ length items
    → (get_or items 0 d).part ≡ 9 → IsName (get_or items 0 d).octets.now
    → ¬ (BeginsValue (pairs (take (length items - 1) (drop 1 items))))
    → StopsBehind (pairs items) (length (take (length items - 1) (drop 1 items)))
value_refused [] d some part is never = absurd (omega (arith, some))
value_refused (x ∷ xs) d some part is never =
    let all : take (length (x ∷ xs) - 1) xs ≡ xs = take_all (length (x ∷ xs) - 1) xs (omega arith) in
    inr (
      x.octets.now,
      pairs xs,
      ap (λ k. (k, x.octets.now) ∷ pairs xs) part,
      is,
      subst (λ (ys : List SyslogboxItem). ¬ (BeginsValue (pairs ys))) all never,
      ap length all ∙ sym (length-map xs _),
    )

-- ---- parameters

pub params_more : (items : List SyslogboxItem) (at : ℕ) (ps : List ParamParts) (p : ParamParts) → at ≤ length items
    → AllByRecursion IsParam ps → pairs items ≡ flat_map param_items ps ++ pairs (drop at items)
    → TakesParam (pairs (drop at items)) p
    → (at + 2 ≤ length items) × AllByRecursion IsParam (ps ++ p ∷ [])
    × (pairs items ≡ flat_map param_items (ps ++ p ∷ []) ++ pairs (drop (at + 2) items))
params_more items at ps p within each is (rest, valid, next) =
    let behind = pairs_behind items at (param_items p) rest within next in
    let one : flat_map param_items (ps ++ p ∷ []) ≡ flat_map param_items ps ++ param_items p =
    flat_map-append param_items ps (p ∷ []) in (
      behind.0,
      all_append IsParam ps (p ∷ []) each (valid, tt),
      is ∙ (ap (λ (ys : List (ℕ × List ℕ)). flat_map param_items ps ++ ys) (next ∙ ap (λ (ys : List (ℕ × List ℕ)). param_items p ++ ys) (sym behind.1))
          ∙ (sym (append_assoc (flat_map param_items ps) (param_items p) (pairs (drop (at + 2) items)))
          ∙ ap (λ (ys : List (ℕ × List ℕ)). ys ++ pairs (drop (at + 2) items)) (sym one))),
    )

-- ---- elements

-- how many items an element has
params_len : (ps : List ParamParts) → length (flat_map param_items ps) ≡ 2 * length ps
params_len [] = refl
params_len (p ∷ ps) = omega (arith, params_len ps)

element_len : (e : ElementParts) → length (element_items e) ≡ 1 + 2 * length e.params
element_len e = omega (arith, params_len e.params)

not_empty : (es : List ElementParts) (e : ElementParts) (ys : List (ℕ × List ℕ)) → ¬ (BeginsPart 9 ys)
    → HasNoName (es ++ e ∷ []) ys
not_empty [] e ys never = never
not_empty (x ∷ es) e ys never = never

pub elements_more : (items : List SyslogboxItem) (at n : ℕ) (es : List ElementParts) (e : ElementParts) → at ≤ length items
    → AllByRecursion IsElement es → pairs items ≡ flat_map element_items es ++ pairs (drop at items)
    → TakesElement (pairs (drop at items)) e → n ≡ length e.params
    → (at + (1 + 2 * n) ≤ length items) × AllByRecursion IsElement (es ++ e ∷ [])
    × (pairs items ≡ flat_map element_items (es ++ e ∷ []) ++ pairs (drop (at + (1 + 2 * n)) items))
    × HasNoName (es ++ e ∷ []) (pairs (drop (at + (1 + 2 * n)) items))
elements_more items at n es e within each is next count =
    let size : 1 + 2 * n ≡ length (element_items e) = omega (arith, element_len e, count) in
    let behind = pairs_behind items at (element_items e) next.rest within next.items in
    let here : pairs (drop (at + (1 + 2 * n)) items) ≡ next.rest =
    ap (λ k. pairs (drop (at + k) items)) size ∙ behind.1 in
    let one : flat_map element_items (es ++ e ∷ []) ≡ flat_map element_items es ++ element_items e =
    flat_map-append element_items es (e ∷ []) ∙ ap (λ (ys : List (ℕ × List ℕ)). flat_map element_items es ++ ys) (append-nil (element_items e)) in (
      omega (arith, behind.0, size),
      all_append IsElement es (e ∷ []) each (next.valid, tt),
      is ∙ (ap (λ (ys : List (ℕ × List ℕ)). flat_map element_items es ++ ys) (next.items ∙ ap (λ (ys : List (ℕ × List ℕ)). element_items e ++ ys) (sym here))
          ∙ (sym (append_assoc (flat_map element_items es) (element_items e) (pairs (drop (at + (1 + 2 * n)) items)))
          ∙ ap (λ (ys : List (ℕ × List ℕ)). ys ++ pairs (drop (at + (1 + 2 * n)) items)) (sym one))),
      not_empty es e _ (subst (λ (ys : List (ℕ × List ℕ)). ¬ (BeginsPart 9 ys)) (sym here) next.next),
    )

-- ---- an element that is refused, behind others

no_name : (ys : List (ℕ × List ℕ)) → ¬ (BeginsPart 9 ys) → ¬ (BeginsName ys)
no_name [] never h = h
no_name (y ∷ ys) never h = never h.0

stops_at : (es : List ElementParts) (ys : List (ℕ × List ℕ)) (left : ℕ) → HasNoName es ys → HasItem ys → ¬ (BeginsId ys)
    → left ≡ length ys → StopsAt es ys left
stops_at [] ys left next some never size = (some, never, size)
stops_at (e ∷ es) ys left next some never size = inl (some, never, no_name ys next, size)

stops_in : (es : List ElementParts) (e : ElementParts) (ys : List (ℕ × List ℕ)) (left : ℕ) → StopsBehind ys left
    → StopsAt (es ++ e ∷ []) ys left
stops_in [] e ys left h = h
stops_in (x ∷ es) e ys left h = h

pub elements_refused : (items ys : List (ℕ × List ℕ)) (left : ℕ) (es : List ElementParts) → AllByRecursion IsElement es
    → items ≡ flat_map element_items es ++ ys → HasNoName es ys → IsElementBad ys left → IsItemsBad items left
elements_refused items ys left es each is next (inl (some, never, size)) = record {
  elements = es;
  rest = ys;
  each = each;
  items = is;
  stops = stops_at es ys left next some never size;
}
elements_refused items ys left es each is next (inr (id, zs, front, named, bad)) =
    let e : ElementParts = record { id = id; params = bad.params } in
    let one : flat_map element_items (es ++ e ∷ []) ≡ flat_map element_items es ++ element_items e =
    flat_map-append element_items es (e ∷ []) ∙ ap (λ (us : List (ℕ × List ℕ)). flat_map element_items es ++ us) (append-nil (element_items e)) in
    let whole : ys ≡ element_items e ++ bad.rest = front ∙ ap (λ (us : List (ℕ × List ℕ)). (8, id) ∷ us) bad.items in
    record {
      elements = es ++ e ∷ [];
      rest = bad.rest;
      each = all_append IsElement es (e ∷ []) each ((named, bad.each), tt);
      items = is ∙ (ap (λ (us : List (ℕ × List ℕ)). flat_map element_items es ++ us) whole
          ∙ (sym (append_assoc (flat_map element_items es) (element_items e) bad.rest)
          ∙ ap (λ (us : List (ℕ × List ℕ)). us ++ bad.rest) (sym one)));
      stops = stops_in es e bad.rest left bad.stops;
    }

pub items_refused : (items ys : List (ℕ × List ℕ)) (fault : ItemsFault) (es : List ElementParts) → AllByRecursion IsElement es
    → items ≡ flat_map element_items es ++ ys → HasNoName es ys → IsItemsFault (IsElementBad ys) fault
    → IsItemsFault (IsItemsBad items) fault
items_refused items ys (Bad left) es each is next h = elements_refused items ys left es each is next h
items_refused items ys Memory es each is next h = tt

-- a fault that is passed on
pub passed : {T F : Type 0} (r : Result T F) (P : T → Type 0) (Q : F → Type 0) (fault : F)
    → IsErr r × IsErrAnd r (λ told. told ≡ fault) → Q fault → MatchResult r P Q
passed (Ok v) P Q fault h q = absurd cc
passed (Err told) P Q fault h q = subst Q (sym h.1) q
