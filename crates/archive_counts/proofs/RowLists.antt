-- The rows of a table, from the entries of its map.
use Rattle.std.proofs.Common.{◌≡◌, ℕ, Bool, true, false, List, [], ◌∷◌, Option, None, Some, map, refl, sym, subst, ◌∙◌}
use Rattle.std.specs.Prelude.{IsSome, Vec}
use Rattle.std.specs.Global.{Global}
use Rattle.std.specs.Cmp.{IsTotalOrder}
use Rattle.std.specs.Cmp.Lexicographic.{slice_cmp}
use Rattle.std.specs.BTreeMap.{is_at}
use Rattle.std.specs.List.{AllByRecursion}
use Rattle.std.specs.List.Sorted.{IsStrictlySortedBy}
use Rattle.std.specs.Map.{keys_of, lookup}
use Rattle.std.specs.Ordering.{is_eq, nat_cmp, ordering_reverse}
use Rattle.std.specs.declared.cmp.Ordering.{Ordering}
use Rattle.std.specs.declared.cmp.Ordering.TheVariants.{Less, Equal, Greater}
use Rattle.std.proofs.lemmas.Cmp.{nat_list_cmp_total, on_total, tied_itself}
use Rattle.std.proofs.lemmas.List.Elements.{All-contains, All-from_recursion, Contains-append_left}
use Rattle.std.proofs.lemmas.List.Elements.{Contains-append_right, Contains-push}
use Rattle.std.proofs.lemmas.Map.Entries.{lookup_head, lookup_tail}
use Rattle.std.proofs.lemmas.Map.Keys.{IsDistinct-from_sorted, sorted_head, sorted_tail}
use Rattle.archive_counts.specs.Rows.{AreRowsOf, IsUnder, compare_words}
use Rattle.archive_counts.specs.Tables.{tally_at}
use Rattle.archive_counts.specs.declared.rows.Row.{Row}
use Rattle.archive_counts.specs.declared.table.Table.{Table}
use Rattle.archive_counts.specs.declared.tally.Tally.{Tally}
use Rattle.archive_counts.proofs.Tables.{equal_octets}

-- an entry of the map
abbrev Kept : Type 0
Kept = Vec ℕ Global × Tally

abbrev pub row_of : Kept → Row
row_of e = record { words = e.0; tally = e.1 }

abbrev pub compare_keys : Vec ℕ Global → Vec ℕ Global → Ordering
compare_keys x y = slice_cmp nat_cmp x.items y.items

keys_total : IsTotalOrder compare_keys
keys_total = on_total (λ (x : Vec ℕ Global). x.items) nat_list_cmp_total

-- the tally under octets
abbrev find : List ℕ → List Kept → Option Tally
find text es = lookup (is_at (λ (k : Vec ℕ Global). slice_cmp nat_cmp text k.items)) es

-- ---- each entry is found under its words

is_itself : (o : Ordering) → o ≡ Equal → is_eq o ≡ true
is_itself Less e = absurd cc
is_itself Equal e = refl
is_itself Greater e = absurd cc

is_other : (o p : Ordering) → o ≡ ordering_reverse p → p ≡ Less → is_eq o ≡ false
is_other Less p e h = refl
is_other Equal Less e h = absurd cc
is_other Equal Equal e h = absurd cc
is_other Equal Greater e h = absurd cc
is_other Greater p e h = refl

found_behind : (e : Kept) (all es : List Kept) → AllByRecursion (λ y. compare_keys e.0 y ≡ Less) (keys_of es)
    → AllByRecursion (λ (x : Kept). find x.0.items all ≡ Some x.1) es
    → AllByRecursion (λ (x : Kept). find x.0.items (e ∷ all) ≡ Some x.1) es
found_behind e all [] less h = tt
found_behind e all (x ∷ es) less h = (
  lookup_tail (is_at (λ (k : Vec ℕ Global). slice_cmp nat_cmp x.0.items k.items)) e all
      (is_other (compare_keys x.0 e.0) (compare_keys e.0 x.0) (keys_total.antisymm x.0 e.0) less.0)
      ∙ h.0,
  found_behind e all es less.1 h.1,
)

found : (es : List Kept) → IsStrictlySortedBy compare_keys (keys_of es)
    → AllByRecursion (λ (x : Kept). find x.0.items es ≡ Some x.1) es
found [] up = tt
found (e ∷ es) up = (
  lookup_head (is_at (λ (k : Vec ℕ Global). slice_cmp nat_cmp e.0.items k.items)) e es
      (is_itself (compare_keys e.0 e.0) (tied_itself keys_total e.0)),
  found_behind e es es (sorted_head compare_keys e.0 (keys_of es) up)
      (found es (sorted_tail compare_keys e.0 (keys_of es) up)),
)

all_rows : (P : Row → Type 0) (es : List Kept) → AllByRecursion (λ (e : Kept). P (row_of e)) es
    → AllByRecursion P (map row_of es)
all_rows P [] h = tt
all_rows P (e ∷ es) h = (h.0, all_rows P es h.1)

-- ---- each tally has its row

first_under : (r : Row) (rows : List Row) (text : List ℕ) → r.words.items ≡ text → IsUnder (r ∷ rows) text
first_under r rows text is =
    record { row = r; among = Contains-append_left (r ∷ []) rows r (Contains-push [] r); words = is }

later_under : (r : Row) (rows : List Row) (text : List ℕ) → IsUnder rows text → IsUnder (r ∷ rows) text
later_under r rows text u =
    record { row = u.row; among = Contains-append_right (r ∷ []) rows u.row u.among; words = u.words }

under_first : (e : Kept) (es : List Kept) (text : List ℕ) (b : Bool) → b ≡ is_eq (slice_cmp nat_cmp text e.0.items)
    → (IsSome (find text es) → IsUnder (map row_of es) text) → IsSome (find text (e ∷ es))
    → IsUnder (map row_of (e ∷ es)) text
under_first e es text true is later some =
    first_under (row_of e) (map row_of es) text (sym (equal_octets text e.0.items (sym is)))
under_first e es text false is later some =
    later_under (row_of e) (map row_of es) text
    (later (subst (λ (o : Option Tally). IsSome o)
    (lookup_tail (is_at (λ (k : Vec ℕ Global). slice_cmp nat_cmp text k.items)) e es (sym is)) some))

pub under : (es : List Kept) (text : List ℕ) → IsSome (find text es) → IsUnder (map row_of es) text
under [] text some = let clash : IsSome {T = Tally} None = some in absurd cc
under (e ∷ es) text some =
    under_first e es text (is_eq (slice_cmp nat_cmp text e.0.items)) refl (under es text) some

-- ---- no two rows are under the same words

rows_above : (r : Row) (es : List Kept)
    → AllByRecursion (λ (y : Vec ℕ Global). slice_cmp nat_cmp r.words.items y.items ≡ Less) (keys_of es)
    → AllByRecursion (λ s. compare_words r s ≡ Less) (map row_of es)
rows_above r [] h = tt
rows_above r (e ∷ es) h = (h.0, rows_above r es h.1)

rows_sorted : (es : List Kept) → IsStrictlySortedBy compare_keys (keys_of es)
    → IsStrictlySortedBy compare_words (map row_of es)
unfolding IsStrictlySortedBy
rows_sorted [] up = tt
rows_sorted (e ∷ es) up = (rows_above (row_of e) es up.0, rows_sorted es up.1)

pub rows_of : (t : Table) → IsStrictlySortedBy compare_keys (keys_of t.rows.entries)
    → AreRowsOf t (map row_of t.rows.entries)
rows_of t up =
    let es : List Kept = t.rows.entries in
    record {
      each = λ r among.
          All-contains (λ (s : Row). tally_at t s.words.items ≡ Some s.tally) (map row_of es) r
          (All-from_recursion (λ (s : Row). tally_at t s.words.items ≡ Some s.tally) (map row_of es)
          (all_rows (λ (s : Row). tally_at t s.words.items ≡ Some s.tally) es (found es up))) among;
      all = λ text some. under es text some;
      apart = IsDistinct-from_sorted compare_words (map row_of es) (rows_sorted es up);
    }
