-- Pages that are joined, and one more span in one of them.
use Rattle.std.proofs.Common.{◌≡◌, ℕ, ◌+◌, ◌<◌, ◌≤◌, List, [], ◌∷◌, ◌++◌, length, take, drop, sym, ap, ◌∙◌, subst}
use Rattle.std.proofs.Common.{arith, append_assoc, take-append-drop, add-one, ◌-◌}
use Rattle.std.specs.Prelude.{slice_index_or, slice_set}
use Rattle.std.specs.List.{AllByRecursion}
use Rattle.std.specs.Prelude.{Ok, Err, OnErr, OnOk, Result, Vec}
use Rattle.std.specs.List.{insert}
use Rattle.std.specs.declared.alloc.Global.{Global}
use Rattle.std.proofs.lemmas.List.{drop_more, drop-map, length-map, length-take-le, map-append, map-set, set-get_or}
use Rattle.std.proofs.lemmas.List.{set_at, set_split, take-map, take_more}
use Rattle.std.proofs.lemmas.List.Edits.{insert-append_right, length-insert}
use Rattle.archive_pages.specs.Spans.{lists_of}
use Rattle.archive_pages.proofs.Blocks.{list_at}
use Rattle.std.proofs.lemmas.List.Concat.{flat_map-append}
use Rattle.archive_text.proofs.Members.{all_append, all_left, all_right}
use Rattle.archive_pages.specs.Pages.{HaveSizes, after, before, joined, page_at}
use Rattle.archive_pages.specs.declared.arena.Span.{Span}

pub joined-append : (a b : List (List Span)) → joined (a ++ b) ≡ joined a ++ joined b
joined-append a b = flat_map-append (λ p. p) a b

pub joined_from : (pages : List (List Span)) (k : ℕ) → joined pages ≡ joined (take k pages) ++ joined (drop k pages)
joined_from pages k = ap joined (sym (take-append-drop k pages)) ∙ joined-append (take k pages) (drop k pages)

-- the page of an index, and those behind it
pub joined_rest : (pages : List (List Span)) (k : ℕ) → k < length pages
    → joined (drop k pages) ≡ page_at pages k ++ joined (drop (k + 1) pages)
joined_rest pages k h = ap joined (drop_more pages k [] h)

pub joined_parts : (pages : List (List Span)) (k : ℕ) → k < length pages
    → joined pages ≡ joined (take k pages) ++ (page_at pages k ++ joined (drop (k + 1) pages))
joined_parts pages k h = joined_from pages k
    ∙ ap (λ (s : List Span). joined (take k pages) ++ s) (joined_rest pages k h)

-- four lists in a row, with or without one more span in their middle
four : (a b c d : List Span) → a ++ ((b ++ c) ++ d) ≡ (a ++ b) ++ (c ++ d)
four a b c d = ap (λ (s : List Span). a ++ s) (append_assoc b c d) ∙ sym (append_assoc a b (c ++ d))

-- what is before a place of a page and what is behind it are all
pub joined_around : (pages : List (List Span)) (k at : ℕ) → k < length pages
    → joined pages ≡ before pages k at ++ after pages k at
joined_around pages k at h =
    let p = page_at pages k in
    joined_parts pages k h
    ∙ ap (λ (s : List Span). joined (take k pages) ++ (s ++ joined (drop (k + 1) pages))) (sym (take-append-drop at p))
    ∙ four (joined (take k pages)) (take at p) (drop at p) (joined (drop (k + 1) pages))

abbrev with_span : List Span → ℕ → Span → List Span
with_span p at s = take at p ++ s ∷ drop at p

-- a page with one more span, among the others
with_more : (pages : List (List Span)) (k at : ℕ) (s : Span)
    → joined (take k pages) ++ (with_span (page_at pages k) at s ++ joined (drop (k + 1) pages))
    ≡ before pages k at ++ s ∷ after pages k at
with_more pages k at s =
    let p = page_at pages k in
    four (joined (take k pages)) (take at p) (s ∷ drop at p) (joined (drop (k + 1) pages))

-- one more span in a page
pub joined_set : (pages : List (List Span)) (k at : ℕ) (s : Span) → k < length pages
    → joined (slice_set pages k (with_span (page_at pages k) at s)) ≡ before pages k at ++ s ∷ after pages k at
joined_set pages k at s h =
    let q = with_span (page_at pages k) at s in
    let parts : slice_set pages k q ≡ take k pages ++ q ∷ drop (k + 1) pages = rw add-one (set_split pages k q h) in
    ap joined parts ∙ joined-append (take k pages) (q ∷ drop (k + 1) pages) ∙ with_more pages k at s

-- two pages in the place of one
pub joined_split : (pages : List (List Span)) (k at : ℕ) (s : Span) (lower upper : List Span) → k < length pages
    → lower ++ upper ≡ with_span (page_at pages k) at s
    → joined (take k pages ++ lower ∷ upper ∷ drop (k + 1) pages) ≡ before pages k at ++ s ∷ after pages k at
joined_split pages k at s lower upper h parts =
    joined-append (take k pages) (lower ∷ upper ∷ drop (k + 1) pages)
    ∙ ap (λ (r : List Span). joined (take k pages) ++ r) (sym (append_assoc lower upper (joined (drop (k + 1) pages))))
    ∙ ap (λ (r : List Span). joined (take k pages) ++ (r ++ joined (drop (k + 1) pages))) parts
    ∙ with_more pages k at s

-- ---- what holds of each page

pub all_take : {X : Type 0} (P : X → Type 0) (xs : List X) (k : ℕ) → AllByRecursion P xs → AllByRecursion P (take k xs)
all_take P xs k h = all_left P (take k xs) (drop k xs) (subst (AllByRecursion P) (sym (take-append-drop k xs)) h)

pub all_drop : {X : Type 0} (P : X → Type 0) (xs : List X) (k : ℕ) → AllByRecursion P xs → AllByRecursion P (drop k xs)
all_drop P xs k h = all_right P (take k xs) (drop k xs) (subst (AllByRecursion P) (sym (take-append-drop k xs)) h)

pub all_at : {X : Type 0} (P : X → Type 0) (xs : List X) (k : ℕ) (d : X) → k < length xs → AllByRecursion P xs
    → P (slice_index_or xs k d)
all_at P xs k d within h = (subst (AllByRecursion P) (drop_more xs k d within) (all_drop P xs k h)).0

pub all_set : {X : Type 0} (P : X → Type 0) (xs : List X) (k : ℕ) (x : X) → k < length xs → AllByRecursion P xs → P x
    → AllByRecursion P (slice_set xs k x)
all_set P xs k x within h p =
    let parts : slice_set xs k x ≡ take k xs ++ x ∷ drop (k + 1) xs = rw add-one (set_split xs k x within) in
    subst (AllByRecursion P) (sym parts) (all_append P (take k xs) (x ∷ drop (k + 1) xs) (all_take P xs k h)
    (p, all_drop P xs (k + 1) h))

pub all_split : {X : Type 0} (P : X → Type 0) (xs : List X) (k : ℕ) (x y : X) → AllByRecursion P xs → P x → P y
    → AllByRecursion P (take k xs ++ x ∷ y ∷ drop (k + 1) xs)
all_split P xs k x y h p q = all_append P (take k xs) (x ∷ y ∷ drop (k + 1) xs) (all_take P xs k h)
    (p, (q, all_drop P xs (k + 1) h))

-- ---- vectors of pages

pub on_err : {T E P : Type 0} (r : Result T E) → P → OnErr r P
on_err (Ok x) p = tt
on_err (Err e) p = p

pub either_way : {T E A B P : Type 0} (r : Result T E) → OnOk r A → OnErr r B → (A → P) → (B → P) → P
either_way (Ok x) a b f g = f a
either_way (Err e) a b f g = g b

-- the page of an index
pub page_is : (vs : List (Vec Span Global)) (k : ℕ) (v : Vec Span Global) (p : List Span) → k < length vs
    → v ≡ slice_index_or vs k v → p ≡ v.items → p ≡ page_at (lists_of vs) k
page_is vs k v p h read is = is ∙ sym (list_at vs k v h read)

pub count_is : (vs : List (Vec Span Global)) → length (lists_of vs) ≡ length vs
count_is vs = length-map vs (λ v. v.items)

-- a page that was written
pub written : (vs : List (Vec Span Global)) (k : ℕ) (v : Vec Span Global)
    → lists_of (slice_set vs k v) ≡ slice_set (lists_of vs) k v.items
written vs k v = map-set (λ w. w.items) vs k v

pub unchanged : (vs : List (Vec Span Global)) (k : ℕ) (w v : Vec Span Global) → k < length vs
    → w ≡ slice_index_or vs k w → v.items ≡ w.items → lists_of (slice_set vs k v) ≡ lists_of vs
unchanged vs k w v h read same =
    written vs k v ∙ ap (λ (p : List Span). slice_set (lists_of vs) k p) (same ∙ sym (list_at vs k w h read))
    ∙ set-get_or (lists_of vs) k []

-- one more span in a page
pub spans_more : (vs : List (Vec Span Global)) (k at : ℕ) (s : Span) (w v : Vec Span Global) → k < length vs
    → w ≡ slice_index_or vs k w → v.items ≡ insert w.items at s
    → lists_of (slice_set vs k v) ≡ slice_set (lists_of vs) k (with_span (page_at (lists_of vs) k) at s)
spans_more vs k at s w v h read is =
    written vs k v ∙ ap (λ (p : List Span). slice_set (lists_of vs) k p)
    (is ∙ ap (λ (p : List Span). with_span p at s) (sym (list_at vs k w h read)))

pub joined_more : (vs : List (Vec Span Global)) (k at : ℕ) (s : Span) (w v : Vec Span Global) → k < length vs
    → w ≡ slice_index_or vs k w → v.items ≡ insert w.items at s
    → joined (lists_of (slice_set vs k v)) ≡ before (lists_of vs) k at ++ s ∷ after (lists_of vs) k at
joined_more vs k at s w v h read is = ap joined (spans_more vs k at s w v h read is)
    ∙ joined_set (lists_of vs) k at s (omega (arith, h, count_is vs))

pub sizes_more : (vs : List (Vec Span Global)) (k at : ℕ) (s : Span) (w v : Vec Span Global) → k < length vs
    → w ≡ slice_index_or vs k w → v.items ≡ insert w.items at s
    → at ≤ length (page_at (lists_of vs) k) → length (page_at (lists_of vs) k) < 256 → HaveSizes (lists_of vs)
    → HaveSizes (lists_of (slice_set vs k v))
sizes_more vs k at s w v h read is in_page room sizes =
    let p = page_at (lists_of vs) k in
    let size : length (with_span p at s) ≡ length p + 1 = length-insert p at s in_page in
    subst HaveSizes (sym (spans_more vs k at s w v h read is))
    (all_set (λ q. (0 < length q) × (length q ≤ 256)) (lists_of vs) k (with_span p at s) (omega (arith, h, count_is vs))
    sizes (omega (arith, size), omega (arith, size, room)))

-- a page and one more span, in two
pub split_upper : (p : List Span) (at n : ℕ) (s : Span) (lower second upper : List Span) → n ≤ at → n ≤ length p
    → lower ≡ take n p → second ≡ drop n p → upper ≡ insert second (at - n) s
    → lower ++ upper ≡ with_span p at s
split_upper p at n s lower second upper h within low sec up =
    let whole : insert (take n p ++ drop n p) at s ≡ take n p ++ insert (drop n p) (at - n) s =
    insert-append_right (take n p) (drop n p) n at s (length-take-le n p within) h in
    ap (λ (q : List Span). q ++ upper) low
    ∙ ap (λ (q : List Span). take n p ++ q) (up ∙ ap (λ (q : List Span). insert q (at - n) s) sec)
    ∙ sym whole ∙ ap (λ (q : List Span). insert q at s) (take-append-drop n p)

-- two pages in the place of one
pub replaced : (vs more : List (Vec Span Global)) (k : ℕ) (lower upper : Vec Span Global) → k < length vs
    → more ≡ insert vs (k + 1) upper
    → lists_of (slice_set more k lower) ≡ take k (lists_of vs) ++ lower.items ∷ upper.items ∷ drop (k + 1) (lists_of vs)
replaced vs more k lower upper h e =
    let d : Vec Span Global = slice_index_or vs k lower in
    let rest : List (Vec Span Global) = upper ∷ drop (k + 1) vs in
    let shape : more ≡ take k vs ++ d ∷ rest =
    e ∙ ap (λ (q : List (Vec Span Global)). q ++ rest) (take_more vs k lower h)
    ∙ append_assoc (take k vs) (d ∷ []) rest in
    ap (λ (q : List (Vec Span Global)). lists_of (slice_set q k lower)) shape
    ∙ ap (λ (q : List (Vec Span Global)). lists_of q)
    (set_at (take k vs) d rest lower k (length-take-le k vs (omega arith)))
    ∙ map-append (λ v. v.items) (take k vs) (lower ∷ rest)
    ∙ ap (λ (q : List (List Span)). q ++ lower.items ∷ upper.items ∷ lists_of (drop (k + 1) vs))
    (sym (take-map (λ v. v.items) k vs))
    ∙ ap (λ (q : List (List Span)). take k (lists_of vs) ++ lower.items ∷ upper.items ∷ q)
    (sym (drop-map (λ v. v.items) (k + 1) vs))

-- the joined spans and the sizes after a split
pub split_joined : (vs : List (Vec Span Global)) (k at : ℕ) (s : Span) (v : Vec Span Global) (p lower upper : List Span)
    → k < length vs → v ≡ slice_index_or vs k v → p ≡ v.items
    → lower ++ upper ≡ with_span p at s → (more : List (List Span))
    → more ≡ take k (lists_of vs) ++ lower ∷ upper ∷ drop (k + 1) (lists_of vs)
    → joined more ≡ before (lists_of vs) k at ++ s ∷ after (lists_of vs) k at
split_joined vs k at s v p lower upper h read is parts more e =
    ap joined e ∙ joined_split (lists_of vs) k at s lower upper (omega (arith, h, count_is vs))
    (parts ∙ ap (λ (q : List Span). with_span q at s) (page_is vs k v p h read is))

pub split_sizes : (pages more : List (List Span)) (k : ℕ) (lower upper : List Span) → length lower ≡ 128
    → length upper ≡ 129 → HaveSizes pages
    → more ≡ take k pages ++ lower ∷ upper ∷ drop (k + 1) pages → HaveSizes more
split_sizes pages more k lower upper low up sizes e =
    subst HaveSizes (sym e) (all_split (λ q. (0 < length q) × (length q ≤ 256)) pages k lower upper sizes
    (omega (arith, low), omega (arith, low)) (omega (arith, up), omega (arith, up)))
