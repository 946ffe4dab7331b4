-- An entry is sought among spans in order.
use Rattle.std.proofs.Common.{◌≡◌, ℕ, ◌+◌, ◌-◌, ◌<◌, ◌≤◌, zero, suc, List, [], ◌∷◌, ◌++◌, length, take, drop, map, sym}
use Rattle.std.proofs.Common.{ap, ◌∙◌, subst, arith, inl, inr, append_assoc, take-append-drop}
use Rattle.std.specs.Prelude.{slice_index_or}
use Rattle.std.specs.List.{AllByRecursion}
use Rattle.std.proofs.lemmas.List.{drop_more, get_or_default, map-append, take_more, drop_all}
use Rattle.archive_text.specs.Entries.{Entry, Has, IsAscending, IsBelow, IsOrder}
use Rattle.archive_text.proofs.Ascending.{ascending_left, ascending_right}
use Rattle.archive_text.proofs.Members.{all_append, all_left, all_right, all_weaker, has_left, has_right}
use Rattle.archive_text.proofs.Orders.{below_transitive, by_octets, equal_is_same, greater_is_above, less_is_below}
use Rattle.std.specs.Prelude.{Vec}
use Rattle.std.specs.declared.alloc.Global.{Global}
use Rattle.std.specs.Ordering.{MatchOrdering}
use Rattle.syslog_value.specs.Order.{OctetsBelow}
use Rattle.std.specs.declared.cmp.Ordering.{Ordering}
use Rattle.std.specs.declared.cmp.Ordering.TheVariants.{Less, Equal, Greater}
use Rattle.archive_pages.specs.Spans.{IsWithin, entries_at, entry_at, lists_of}
use Rattle.archive_pages.specs.Pages.{AreSearchable, entries_of, joined, page_at}
use Rattle.archive_pages.specs.Places.{AreAbove, AreBelow, BeginsAbove, BeginsUpTo, GoesTo, IsLastOrder, IsPage}
use Rattle.archive_pages.specs.declared.arena.Span.{Span}
use Rattle.archive_pages.proofs.PageLists.{all_at, count_is, joined_from, joined_parts, joined_rest, page_is}

abbrev Blocks : Type 0
Blocks = List (List ℕ)

pub entries-append : (blocks : Blocks) (a b : List Span)
    → entries_at blocks (a ++ b) ≡ entries_at blocks a ++ entries_at blocks b
entries-append blocks a b = map-append (entry_at blocks) a b

pub all_mapped : {X Y : Type 0} (f : X → Y) (P : Y → Type 0) (xs : List X) → AllByRecursion P (map f xs)
    → AllByRecursion (λ x. P (f x)) xs
all_mapped f P [] h = tt
all_mapped f P (x ∷ xs) h = (h.0, all_mapped f P xs h.1)

pub all_to_map : {X Y : Type 0} (f : X → Y) (P : Y → Type 0) (xs : List X) → AllByRecursion (λ x. P (f x)) xs
    → AllByRecursion P (map f xs)
all_to_map f P [] h = tt
all_to_map f P (x ∷ xs) h = (h.0, all_to_map f P xs h.1)

-- ---- around one span

-- in order, what is before a span is below its entry
before_all : (blocks : Blocks) (a : List Span) (s : Span) (b : List Span) → IsAscending (entries_at blocks (a ++ s ∷ b))
    → AreBelow blocks (entry_at blocks s) a
before_all blocks [] s b h = tt
before_all blocks (x ∷ a) s b h =
    let all = all_mapped (entry_at blocks) (IsBelow (entry_at blocks x)) (a ++ s ∷ b) h.0 in
    ((all_right (λ y. IsBelow (entry_at blocks x) (entry_at blocks y)) a (s ∷ b) all).0, before_all blocks a s b h.1)

-- and what is behind it is above
behind : (blocks : Blocks) (a : List Span) (s : Span) (b : List Span) → IsAscending (entries_at blocks (a ++ s ∷ b))
    → AreAbove blocks (entry_at blocks s) b
behind blocks [] s b h = all_mapped (entry_at blocks) (IsBelow (entry_at blocks s)) b h.0
behind blocks (x ∷ a) s b h = behind blocks a s b h.1

pub below_prefix : (blocks : Blocks) (e : Entry) (a : List Span) (s : Span) (b : List Span)
    → IsAscending (entries_at blocks (a ++ s ∷ b)) → IsBelow (entry_at blocks s) e → AreBelow blocks e a
below_prefix blocks e a s b h low =
    all_weaker (λ x. IsBelow (entry_at blocks x) (entry_at blocks s)) (λ x. IsBelow (entry_at blocks x) e)
    (λ x k. below_transitive (entry_at blocks x) (entry_at blocks s) e k low) a (before_all blocks a s b h)

pub below_with : (blocks : Blocks) (e : Entry) (a : List Span) (s : Span) (b : List Span)
    → IsAscending (entries_at blocks (a ++ s ∷ b)) → IsBelow (entry_at blocks s) e → AreBelow blocks e (a ++ s ∷ [])
below_with blocks e a s b h low = all_append (λ x. IsBelow (entry_at blocks x) e) a (s ∷ [])
    (below_prefix blocks e a s b h low) (low, tt)

pub above_with : (blocks : Blocks) (e : Entry) (a : List Span) (s : Span) (b : List Span)
    → IsAscending (entries_at blocks (a ++ s ∷ b)) → IsBelow e (entry_at blocks s) → AreAbove blocks e (s ∷ b)
above_with blocks e a s b h high = (
  high,
  all_weaker (λ x. IsBelow (entry_at blocks s) (entry_at blocks x)) (λ x. IsBelow e (entry_at blocks x))
      (λ x k. below_transitive e (entry_at blocks s) (entry_at blocks x) high k) b (behind blocks a s b h),
)

pub has_span : (blocks : Blocks) (a : List Span) (s : Span) (b : List Span) (e : Entry) → entry_at blocks s ≡ e
    → Has (entries_at blocks (a ++ s ∷ b)) e
has_span blocks [] s b e h = inl h
has_span blocks (x ∷ a) s b e h = inr (has_span blocks a s b e h)

-- ---- in a page

-- a page, around the span of an index
pub around : (p : List Span) (k : ℕ) (s : Span) → k < length p → s ≡ slice_index_or p k s
    → p ≡ take k p ++ s ∷ drop (k + 1) p
around p k s h read =
    sym (take-append-drop k p) ∙ ap (λ (r : List Span). take k p ++ r) (drop_more p k s h)
    ∙ ap (λ (x : Span). take k p ++ x ∷ drop (k + 1) p) (sym read)

-- the span that an index reads
abbrev pub spare : Span
spare = record { rank = 0; block = 0; start = 0 }

pub read_at : (p : List Span) (k : ℕ) → k < length p
    → slice_index_or p k spare ≡ slice_index_or p k (slice_index_or p k spare)
read_at p k h = get_or_default p k spare (slice_index_or p k spare) h

pub below_index : (blocks : Blocks) (e : Entry) (p : List Span) (k : ℕ) (s : Span) → k < length p
    → s ≡ slice_index_or p k s → IsAscending (entries_at blocks p) → IsBelow (entry_at blocks s) e
    → AreBelow blocks e (take (k + 1) p)
below_index blocks e p k s h read ascending low =
    let parts = subst (λ (q : List Span). IsAscending (entries_at blocks q)) (around p k s h read) ascending in
    let prefix : take (k + 1) p ≡ take k p ++ s ∷ [] =
    take_more p k s h ∙ ap (λ (x : Span). take k p ++ x ∷ []) (sym read) in
    subst (AreBelow blocks e) (sym prefix) (below_with blocks e (take k p) s (drop (k + 1) p) parts low)

pub above_index : (blocks : Blocks) (e : Entry) (p : List Span) (k : ℕ) (s : Span) → k < length p
    → s ≡ slice_index_or p k s → IsAscending (entries_at blocks p) → IsBelow e (entry_at blocks s)
    → AreAbove blocks e (drop k p)
above_index blocks e p k s h read ascending high =
    let parts = subst (λ (q : List Span). IsAscending (entries_at blocks q)) (around p k s h read) ascending in
    let rest : drop k p ≡ s ∷ drop (k + 1) p = drop_more p k s h ∙ ap (λ (x : Span). x ∷ drop (k + 1) p) (sym read) in
    subst (AreAbove blocks e) (sym rest) (above_with blocks e (take k p) s (drop (k + 1) p) parts high)

pub has_index : (blocks : Blocks) (e : Entry) (p : List Span) (k : ℕ) (s : Span) → k < length p
    → s ≡ slice_index_or p k s → entry_at blocks s ≡ e → Has (entries_at blocks p) e
has_index blocks e p k s h read same =
    subst (λ (q : List Span). Has (entries_at blocks q) e) (sym (around p k s h read))
    (has_span blocks (take k p) s (drop (k + 1) p) e same)

-- ---- among pages

-- the spans of one page, with what holds of all
pub page_all : (P : Span → Type 0) (pages : List (List Span)) (k : ℕ) → k < length pages
    → AllByRecursion P (joined pages) → AllByRecursion P (page_at pages k)
page_all P pages k h all =
    let rest = joined (drop (k + 1) pages) in
    let parts = subst (AllByRecursion P) (joined_parts pages k h) all in
    all_left P (page_at pages k) rest (all_right P (joined (take k pages)) (page_at pages k ++ rest) parts)

pub parts_ascending : (blocks : Blocks) (pages : List (List Span)) (k : ℕ) → k < length pages
    → IsAscending (entries_of blocks pages)
    → IsAscending (entries_at blocks (joined (take k pages) ++ (page_at pages k ++ joined (drop (k + 1) pages))))
parts_ascending blocks pages k h all = subst (λ (q : List Span). IsAscending (entries_at blocks q))
    (joined_parts pages k h) all

pub page_ascending : (blocks : Blocks) (pages : List (List Span)) (k : ℕ) → k < length pages
    → IsAscending (entries_of blocks pages) → IsAscending (entries_at blocks (page_at pages k))
page_ascending blocks pages k h all =
    let a = joined (take k pages) in
    let p = page_at pages k in
    let b = joined (drop (k + 1) pages) in
    let one = ascending_right (entries_at blocks a) (entries_at blocks (p ++ b))
    (subst IsAscending (entries-append blocks a (p ++ b)) (parts_ascending blocks pages k h all)) in
    ascending_left (entries_at blocks p) (entries_at blocks b) (subst IsAscending (entries-append blocks p b) one)

-- where a page begins above the entry, all from it on is above
begun_above : (blocks : Blocks) (e : Entry) (a p b : List Span) → IsAscending (entries_at blocks (a ++ (p ++ b)))
    → BeginsAbove blocks p e → AreAbove blocks e (p ++ b)
begun_above blocks e a [] b h k = absurd k
begun_above blocks e a (s ∷ p) b h k = above_with blocks e a s (p ++ b) h k

-- where it does not, all before it is below
begun_up_to : (blocks : Blocks) (e : Entry) (a p b : List Span) → IsAscending (entries_at blocks (a ++ (p ++ b)))
    → BeginsUpTo blocks p e → AreBelow blocks e a
begun_up_to blocks e a [] b h k = absurd k
begun_up_to blocks e a (s ∷ p) b h (inl low) = below_prefix blocks e a s (p ++ b) h low
begun_up_to blocks e a (s ∷ p) b h (inr same) =
    subst (λ (x : Entry). AreBelow blocks x a) same (before_all blocks a s (p ++ b) h)

pub page_above : (blocks : Blocks) (pages : List (List Span)) (e : Entry) (k : ℕ) → AreSearchable blocks pages
    → k < length pages → BeginsAbove blocks (page_at pages k) e
    → AreAbove blocks e (joined (drop k pages))
page_above blocks pages e k h within begins =
    subst (AreAbove blocks e) (sym (joined_rest pages k within))
    (begun_above blocks e (joined (take k pages)) (page_at pages k) (joined (drop (k + 1) pages))
    (parts_ascending blocks pages k within h.ascending) begins)

pub page_up_to : (blocks : Blocks) (pages : List (List Span)) (e : Entry) (k : ℕ) → AreSearchable blocks pages
    → k < length pages → BeginsUpTo blocks (page_at pages k) e
    → AreBelow blocks e (joined (take k pages))
page_up_to blocks pages e k h within begins =
    begun_up_to blocks e (joined (take k pages)) (page_at pages k) (joined (drop (k + 1) pages))
    (parts_ascending blocks pages k within h.ascending) begins

-- the page before the first one that begins above the entry, or the first page
pub page_found : (blocks : Blocks) (pages : List (List Span)) (e : Entry) (n : ℕ) → 0 < length pages → n ≤ length pages
    → AreBelow blocks e (joined (take (n - 1) pages))
    → AreAbove blocks e (joined (drop n pages)) → IsPage blocks pages e (n - 1)
page_found blocks pages e zero some within below above =
    record {
      within = omega arith;
      below = below;
      above = all_right (λ s. IsBelow e (entry_at blocks s)) (joined (take 1 pages)) (joined (drop 1 pages))
          (subst (AreAbove blocks e) (joined_from pages 1) above);
    }
page_found blocks pages e (suc n) some within below above =
    let back : suc n - 1 + 1 ≡ suc n = omega arith in
    record {
      within = omega arith;
      below = below;
      above =
          subst (λ (k : ℕ). AreAbove blocks e (joined (drop k pages))) (sym back) above;
    }

-- the place in a page is the place among all
pub placed : (blocks : Blocks) (pages : List (List Span)) (e : Entry) (k at : ℕ) → IsPage blocks pages e k
    → at ≤ length (page_at pages k) → AreBelow blocks e (take at (page_at pages k))
    → AreAbove blocks e (drop at (page_at pages k)) → GoesTo blocks pages e k at
placed blocks pages e k at h within below above =
    record {
      page = h.within;
      index = within;
      below = all_append (λ s. IsBelow (entry_at blocks s) e) (joined (take k pages)) (take at (page_at pages k))
          h.below below;
      above = all_append (λ s. IsBelow e (entry_at blocks s)) (drop at (page_at pages k)) (joined (drop (k + 1) pages))
          above h.above;
    }

-- what a page holds is held
pub has_joined : (blocks : Blocks) (pages : List (List Span)) (e : Entry) (k : ℕ) → k < length pages
    → Has (entries_at blocks (page_at pages k)) e → Has (entries_of blocks pages) e
has_joined blocks pages e k within h =
    let a = joined (take k pages) in
    let p = page_at pages k in
    let b = joined (drop (k + 1) pages) in
    let one : Has (entries_at blocks (p ++ b)) e =
    subst (λ (es : List Entry). Has es e) (sym (entries-append blocks p b))
    (has_left (entries_at blocks p) (entries_at blocks b) e h) in
    let two : Has (entries_at blocks (a ++ (p ++ b))) e =
    subst (λ (es : List Entry). Has es e) (sym (entries-append blocks a (p ++ b)))
    (has_right (entries_at blocks a) (entries_at blocks (p ++ b)) e one) in
    subst (λ (q : List Span). Has (entries_at blocks q) e) (sym (joined_parts pages k within)) two

-- the pages before the page of a span are below an entry above it
prefix_below : (blocks : Blocks) (pages : List (List Span)) (e : Entry) (k n : ℕ) (s : Span)
    → AreSearchable blocks pages → k < length pages → n < length (page_at pages k)
    → s ≡ slice_index_or (page_at pages k) n s → IsBelow (entry_at blocks s) e
    → AreBelow blocks e (joined (take k pages))
prefix_below blocks pages e k n s h within in_page read low =
    let a = joined (take k pages) in
    let p = page_at pages k in
    let b = joined (drop (k + 1) pages) in
    let parts : a ++ (p ++ b) ≡ (a ++ take n p) ++ s ∷ (drop (n + 1) p ++ b) =
    ap (λ (q : List Span). a ++ (q ++ b)) (around p n s in_page read)
    ∙ ap (λ (q : List Span). a ++ q) (append_assoc (take n p) (s ∷ drop (n + 1) p) b)
    ∙ sym (append_assoc a (take n p) (s ∷ (drop (n + 1) p ++ b))) in
    let ascending = subst (λ (q : List Span). IsAscending (entries_at blocks q)) parts
    (parts_ascending blocks pages k within h.ascending) in
    all_left (λ x. IsBelow (entry_at blocks x) e) a (take n p)
    (below_prefix blocks e (a ++ take n p) s (drop (n + 1) p ++ b) ascending low)

-- an entry above the last one goes to the end of the last page
pub at_end : (blocks : Blocks) (pages : List (List Span)) (e : Entry) (k n : ℕ) (s : Span) → AreSearchable blocks pages
    → k + 1 ≡ length pages → n + 1 ≡ length (page_at pages k)
    → s ≡ slice_index_or (page_at pages k) n s → IsBelow (entry_at blocks s) e → GoesTo blocks pages e k (n + 1)
at_end blocks pages e k n s h last end read low =
    let p = page_at pages k in
    let within : k < length pages = omega arith in
    let none : drop (k + 1) pages ≡ [] = drop_all (k + 1) pages (omega arith) in
    let gone : drop (n + 1) p ≡ [] = drop_all (n + 1) p (omega arith) in
    let ascending = page_ascending blocks pages k within h.ascending in
    record {
      page = within;
      index = omega arith;
      below = all_append (λ x. IsBelow (entry_at blocks x) e) (joined (take k pages)) (take (n + 1) p)
          (prefix_below blocks pages e k n s h within (omega arith) read low)
          (below_index blocks e p n s (omega arith) read ascending low);
      above = rw (none, gone) tt;
    }

-- ---- by comparisons

-- what a comparison with the entry of a span says
pub order_below : (a x e : Entry) (o : Ordering) → a ≡ x → IsOrder o a e → o ≡ Less → IsBelow x e
order_below a x e o same h is = less_is_below x e o (subst (λ (y : Entry). IsOrder o y e) same h) is

pub order_same : (a x e : Entry) (o : Ordering) → a ≡ x → IsOrder o a e → o ≡ Equal → x ≡ e
order_same a x e o same h is = equal_is_same x e o (subst (λ (y : Entry). IsOrder o y e) same h) is

pub order_above : (a x e : Entry) (o : Ordering) → a ≡ x → IsOrder o a e → o ≡ Greater → IsBelow e x
order_above a x e o same h is = greater_is_above x e o (subst (λ (y : Entry). IsOrder o y e) same h) is

-- entries of one instant are in the order of their octets
pub order_of_octets : (x e : Entry) (o : Ordering) (xs : List ℕ) → x.instant ≡ e.instant → xs ≡ x.octets
    → MatchOrdering o (OctetsBelow xs e.octets) (xs ≡ e.octets) (OctetsBelow e.octets xs)
    → IsOrder o x e
order_of_octets x e o xs same is h = by_octets x e o same
    (subst (λ (ys : List ℕ). MatchOrdering o (OctetsBelow ys e.octets) (ys ≡ e.octets) (OctetsBelow e.octets ys)) is h)

-- the span of an index is one
pub one_span : (p : List Span) (n : ℕ) (x s : Span) → n < length p → x ≡ slice_index_or p n x → s ≡ slice_index_or p n s
    → x ≡ s
one_span p n x s h read also = read ∙ get_or_default p n x s h ∙ sym also

pub last_order : (blocks : Blocks) (p : List Span) (n : ℕ) (x : Span) (a e : Entry) (o : Ordering) → n < length p
    → n ≡ length p - 1 → x ≡ slice_index_or p n x → a ≡ entry_at blocks x
    → IsOrder o a e → IsLastOrder blocks p e o
last_order blocks p n x a e o h last read same order =
    λ s also.
    let alike : x ≡ s = one_span p n x s h read (also ∙ ap (λ (k : ℕ). slice_index_or p k s) (sym last)) in
    subst (λ (y : Entry). IsOrder o y e) (same ∙ ap (entry_at blocks) alike) order

last_of : (p : List Span) → 0 < length p → (s : Span) × (s ≡ slice_index_or p (length p - 1) s)
last_of [] h = absurd (omega (arith, h))
last_of (x ∷ xs) h =
    let p : List Span = x ∷ xs in
    let s : Span = slice_index_or p (length p - 1) x in
    (s, get_or_default p (length p - 1) x s (omega (arith, h)))

-- a page of searchable ones
pub page_some : (blocks : Blocks) (vs : List (Vec Span Global)) (k : ℕ) (v : Vec Span Global) (p : List Span)
    → AreSearchable blocks (lists_of vs) → k < length vs → v ≡ slice_index_or vs k v
    → p ≡ v.items → 0 < length p
page_some blocks vs k v p h within read is =
    subst (λ (q : List Span). 0 < length q) (sym (page_is vs k v p within read is))
    (all_at (λ q. (0 < length q) × (length q ≤ 256)) (lists_of vs) k [] (omega (arith, within, count_is vs)) h.sizes).0

pub page_within : (blocks : Blocks) (vs : List (Vec Span Global)) (k : ℕ) (v : Vec Span Global) (p : List Span)
    → AreSearchable blocks (lists_of vs) → k < length vs
    → v ≡ slice_index_or vs k v → p ≡ v.items → AllByRecursion (IsWithin blocks) p
page_within blocks vs k v p h within read is =
    subst (AllByRecursion (IsWithin blocks)) (sym (page_is vs k v p within read is))
    (page_all (IsWithin blocks) (lists_of vs) k (omega (arith, within, count_is vs)) h.within)

pub page_in_order : (blocks : Blocks) (vs : List (Vec Span Global)) (k : ℕ) (v : Vec Span Global) (p : List Span)
    → AreSearchable blocks (lists_of vs) → k < length vs
    → v ≡ slice_index_or vs k v → p ≡ v.items → IsAscending (entries_at blocks p)
page_in_order blocks vs k v p h within read is =
    subst (λ (q : List Span). IsAscending (entries_at blocks q)) (sym (page_is vs k v p within read is))
    (page_ascending blocks (lists_of vs) k (omega (arith, within, count_is vs)) h.ascending)

-- the last entry of the last page is below the entry
pub at_last : (blocks : Blocks) (vs : List (Vec Span Global)) (e : Entry) (k n : ℕ) (v : Vec Span Global)
    (p : List Span) (o : Ordering) → AreSearchable blocks (lists_of vs)
    → k + 1 ≡ length vs → v ≡ slice_index_or vs k v → p ≡ v.items → n ≡ length p → IsLastOrder blocks p e o → o ≡ Less
    → GoesTo blocks (lists_of vs) e k n
at_last blocks vs e k n v p o h last read is count order less =
    let same = page_is vs k v p (omega arith) read is in
    let some = page_some blocks vs k v p h (omega arith) read is in
    let s = last_of p some in
    let low : IsBelow (entry_at blocks s.0) e = less_is_below (entry_at blocks s.0) e o (order s.0 s.1) less in
    let read_last : s.0 ≡ slice_index_or (page_at (lists_of vs) k) (length p - 1) s.0 =
    s.1 ∙ ap (λ (q : List Span). slice_index_or q (length p - 1) s.0) same in
    let end : length p - 1 + 1 ≡ length (page_at (lists_of vs) k) = omega (arith, ap length same, some) in
    let found : GoesTo blocks (lists_of vs) e k (length p - 1 + 1) =
    at_end blocks (lists_of vs) e k (length p - 1) s.0 h (omega (arith, last, count_is vs)) end read_last low in
    let back : length p - 1 + 1 ≡ n = omega (arith, some, count) in
    subst (GoesTo blocks (lists_of vs) e k) back found

pub held_last : (blocks : Blocks) (vs : List (Vec Span Global)) (e : Entry) (k : ℕ) (v : Vec Span Global)
    (p : List Span) (o : Ordering) → AreSearchable blocks (lists_of vs)
    → k < length vs → v ≡ slice_index_or vs k v → p ≡ v.items → IsLastOrder blocks p e o → o ≡ Equal
    → Has (entries_of blocks (lists_of vs)) e
held_last blocks vs e k v p o h within read is order equal =
    let same = page_is vs k v p within read is in
    let some = page_some blocks vs k v p h within read is in
    let s = last_of p some in
    let holds : Has (entries_at blocks p) e =
    has_index blocks e p (length p - 1) s.0 (omega (arith, some)) s.1
    (equal_is_same (entry_at blocks s.0) e o (order s.0 s.1) equal) in
    has_joined blocks (lists_of vs) e k (omega (arith, within, count_is vs))
    (subst (λ (q : List Span). Has (entries_at blocks q) e) same holds)

-- an entry that a page holds, or has room for
pub held_in : (blocks : Blocks) (vs : List (Vec Span Global)) (e : Entry) (k : ℕ) (v : Vec Span Global) (p : List Span)
    → k < length vs → v ≡ slice_index_or vs k v → p ≡ v.items
    → Has (entries_at blocks p) e → Has (entries_of blocks (lists_of vs)) e
held_in blocks vs e k v p within read is holds =
    has_joined blocks (lists_of vs) e k (omega (arith, within, count_is vs))
    (subst (λ (q : List Span). Has (entries_at blocks q) e) (page_is vs k v p within read is) holds)

pub goes_in : (blocks : Blocks) (vs : List (Vec Span Global)) (e : Entry) (k n : ℕ) (v : Vec Span Global)
    (p : List Span) → k < length vs → v ≡ slice_index_or vs k v → p ≡ v.items
    → IsPage blocks (lists_of vs) e k → (n ≤ length p) × AreBelow blocks e (take n p) × AreAbove blocks e (drop n p)
    → GoesTo blocks (lists_of vs) e k n
goes_in blocks vs e k n v p within read is page found =
    let same = page_is vs k v p within read is in
    placed blocks (lists_of vs) e k n page (subst (λ (q : List Span). n ≤ length q) same found.0)
    (subst (λ (q : List Span). AreBelow blocks e (take n q)) same found.1)
    (subst (λ (q : List Span). AreAbove blocks e (drop n q)) same found.2)
