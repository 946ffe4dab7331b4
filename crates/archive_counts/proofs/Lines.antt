-- From the rows of a table to lines.
use Rattle.std.proofs.Common.{◌≡◌, ℕ, zero, suc, ◌<◌, List, [], ◌∷◌, Option, None, Some, length, take, refl, sym, ap, subst}
use Rattle.std.proofs.Common.{inl, inr, arith, ◌∙◌}
use Rattle.std.specs.Prelude.{◌⊎◌, ◌≢◌, ◌↔◌, Contains, IsSome}
use Rattle.std.specs.List.{AllByRecursion}
use Rattle.std.specs.Ordering.{nat_cmp, ordering_then}
use Rattle.std.specs.Cmp.Lexicographic.{slice_cmp}
use Rattle.std.specs.declared.cmp.Ordering.{Ordering}
use Rattle.std.specs.declared.cmp.Ordering.TheVariants.{Less, Equal, Greater}
use Rattle.std.proofs.lemmas.Cmp.{ranked}
use Rattle.std.proofs.lemmas.List.Elements.{All-contains, All-contains_itself, All-from_recursion, recursion_from_All}
use Rattle.std.proofs.lemmas.Map.Keys.{sorted_head, sorted_tail}
use Rattle.octet_language.specs.Language.{Each}
use Rattle.syslog_value.specs.Order.{OctetsBelow}
use Rattle.syslog_value.proofs.Octets.{octets_ranked}
use Rattle.syslog_reading.proofs.Valid.{well_formed_valid}
use Rattle.archive_text.specs.Entries.{Entry, Has}
use Rattle.archive_text.proofs.Members.{all_weaker}
use Rattle.archive_sets.specs.Selections.{IsSelection}
use Rattle.archive_counts.specs.Lines.{AreLinesOf, AreWordsBelow, IsAhead, IsLineOf, IsToldOf, Line, first_of}
use Rattle.archive_counts.specs.Lines.{AreRanked as AreRankedLines}
use Rattle.archive_counts.specs.Rows.{AreRanked, AreRowsOf, compare_rows, compare_words}
use Rattle.archive_counts.specs.Tables.{IsNeeded, IsRowOf, IsTableOf, IsTallyAt, tally_at}
use Rattle.archive_counts.specs.Tallies.{IsTallyOf}
use Rattle.archive_counts.specs.Texts.{AreRowsFor, IsRowFor, LineText, RowText}
use Rattle.archive_counts.specs.Words.{AreSpaced, HasText, HasWords, spaced}
use Rattle.archive_counts.specs.declared.key.CountKey.{CountKey}
use Rattle.archive_counts.specs.declared.order.LineOrder.{LineOrder}
use Rattle.archive_counts.specs.declared.order.LineOrder.TheVariants.{MostFirst, ByWords}
use Rattle.archive_counts.specs.declared.rows.Row.{Row}
use Rattle.archive_counts.specs.declared.table.Table.{Table}
use Rattle.archive_counts.specs.declared.tally.Tally.{Tally}
use Rattle.archive_counts.proofs.WordOrders.{words_below}
use Rattle.archive_counts.proofs.WordTexts.{are_spaced, has_words}

-- ---- the line of a row

-- a row, and the line that it is told by
pub record Told (keys : List CountKey) (xs : List Entry) (r : Row) : Type 0 where
  pub line : Line
  pub is : IsLineOf keys xs line
  pub row : IsRowFor keys r line
  pub some : keys ≢ [] → line.entries ≢ []
  pub has : (x : Entry) → HasText keys r.words.items x → HasWords keys line.words x

reselect : (P Q : Entry → Type 0) (xs ys : List Entry) → ((x : Entry) → P x ↔ Q x) → IsSelection P xs ys
    → IsSelection Q xs ys
reselect P Q xs ys same s = record {
  ascending = s.ascending;
  members = λ x. (
    λ h. let m = (s.members x).0 h in (m.0, (same x).0 m.1),
    λ m. (s.members x).1 (m.0, (same x).1 m.1),
  );
}

line_from : (keys : List CountKey) (xs : List Entry) (r : Row) (es : List Entry) (ws : List (List ℕ))
    → IsSelection (HasText keys r.words.items) xs es → IsTallyOf r.tally es → AreSpaced keys ws r.words.items
    → ((x : Entry) → HasText keys r.words.items x ↔ HasWords keys ws x) → (keys ≢ [] → es ≢ []) → Told keys xs r
line_from keys xs r es ws s t is same some = record {
  line = record { words = ws; entries = es; first = r.tally.first; last = r.tally.last };
  is = record {
    size = is.count;
    selection = reselect (HasText keys r.words.items) (HasWords keys ws) xs es same s;
    first = t.first;
    last = t.last;
  };
  row = record { words = is; tally = t; first = refl; last = refl };
  some = some;
  has = λ x h. (same x).0 h;
}

-- without keys there are no words
no_words : (keys : List CountKey) (x : Entry) → keys ≡ [] → HasText keys [] x ↔ HasWords keys [] x
no_words [] x none = (
  λ h. record { of = h.of; well_formed = h.well_formed; holds = refl },
  λ h. record { of = h.of; well_formed = h.well_formed; holds = ([], refl, refl) },
)
no_words (k ∷ keys) x none = absurd cc

line_of_some : (keys : List CountKey) (xs : List Entry) (r : Row) (e : Entry) (es : List Entry)
    → IsSelection (HasText keys r.words.items) xs (e ∷ es) → IsTallyOf r.tally (e ∷ es) → Told keys xs r
line_of_some keys xs r e es s t =
    let first : HasText keys r.words.items e = ((s.members e).0 (inl refl)).1 in
    let ws : List (List ℕ) = first.holds.0 in
    let words : HasWords keys ws e =
    record { of = first.of; well_formed = first.well_formed; holds = first.holds.1 } in
    let is : r.words.items ≡ spaced ws = first.holds.2 in
    line_from keys xs r (e ∷ es) ws s t
    (are_spaced keys first.of ws r.words.items (well_formed_valid first.of e.octets first.well_formed) first.holds.1 is)
    (λ x. subst (λ (l : List ℕ). HasText keys l x ↔ HasWords keys ws x) (sym is) (has_words keys ws e x words))
    (λ k none. absurd cc)

line_of_none : (keys : List CountKey) (xs : List Entry) (r : Row) (es : List Entry)
    → IsSelection (HasText keys r.words.items) xs es → IsTallyOf r.tally es → keys ≡ [] → r.words.items ≡ []
    → Told keys xs r
line_of_none keys xs r es s t none is =
    line_from keys xs r es [] s t (record { is = is; free = tt; count = sym (ap length none) })
    (λ x. subst (λ (l : List ℕ). HasText keys l x ↔ HasWords keys [] x) (sym is) (no_words keys x none))
    (λ some. absurd (some none))

line_needed : (keys : List CountKey) (xs : List Entry) (r : Row) (es : List Entry)
    → IsSelection (HasText keys r.words.items) xs es → IsTallyOf r.tally es → IsNeeded keys r.words.items es
    → Told keys xs r
line_needed keys xs r [] s t (inl some) = absurd (some refl)
line_needed keys xs r (e ∷ es) s t (inl some) = line_of_some keys xs r e es s t
line_needed keys xs r es s t (inr none) = line_of_none keys xs r es s t none.0 none.1

told : (keys : List CountKey) (t : Table) (xs : List Entry) (r : Row) → IsTableOf keys t xs
    → tally_at t r.words.items ≡ Some r.tally → Told keys xs r
told keys t xs r h at =
    let row : IsRowOf keys xs r.words.items (Some r.tally) =
    subst (IsRowOf keys xs r.words.items) at (h.rows r.words.items) in
    line_needed keys xs r row.es row.selection row.tally (row.needed refl)

-- ---- the lines of rows

-- the row is one of the list
abbrev pub IsAmong : List Row → Row → Type 0
IsAmong [] r = ⊥
IsAmong (s ∷ rows) r = (s ≡ r) ⊎ IsAmong rows r

among_all : (rows : List Row) → AllByRecursion (IsAmong rows) rows
among_all [] = tt
among_all (r ∷ rows) =
    (inl refl, all_weaker (IsAmong rows) (IsAmong (r ∷ rows)) (λ x h. inr h) rows (among_all rows))

pub among : (rows : List Row) (r : Row) → Contains rows r → IsAmong rows r
among rows r h = All-contains (IsAmong rows) rows r (All-from_recursion (IsAmong rows) rows (among_all rows)) h

lines_of : (keys : List CountKey) (xs : List Entry) (rows : List Row) → AllByRecursion (Told keys xs) rows → List Line
lines_of keys xs [] h = []
lines_of keys xs (r ∷ rows) h = h.0.line ∷ lines_of keys xs rows h.1

each_line : (keys : List CountKey) (xs : List Entry) (rows : List Row) (h : AllByRecursion (Told keys xs) rows)
    → AllByRecursion (IsLineOf keys xs) (lines_of keys xs rows h)
unfolding lines_of
each_line keys xs [] h = tt
each_line keys xs (r ∷ rows) h = (h.0.is, each_line keys xs rows h.1)

each_some : (keys : List CountKey) (xs : List Entry) (rows : List Row) (h : AllByRecursion (Told keys xs) rows)
    → keys ≢ [] → AllByRecursion (λ l. l.entries ≢ []) (lines_of keys xs rows h)
unfolding lines_of
each_some keys xs [] h k = tt
each_some keys xs (r ∷ rows) h k = (h.0.some k, each_some keys xs rows h.1 k)

rows_for : (keys : List CountKey) (xs : List Entry) (rows : List Row) (h : AllByRecursion (Told keys xs) rows)
    → AreRowsFor keys rows (lines_of keys xs rows h)
unfolding lines_of
rows_for keys xs [] h = refl
rows_for keys xs (r ∷ rows) h = (h.0.row, rows_for keys xs rows h.1)

-- an entry under the words of a row is told of
told_under : (keys : List CountKey) (xs : List Entry) (rows : List Row) (h : AllByRecursion (Told keys xs) rows)
    (r : Row) (e : Entry) → IsAmong rows r → Has xs e → HasText keys r.words.items e
    → IsToldOf (lines_of keys xs rows h) e
unfolding lines_of
told_under keys xs [] h r e among has text = absurd among
told_under keys xs (s ∷ rows) h r e (inl same) has text =
    let words : HasWords keys h.0.line.words e =
    h.0.has e (subst (λ (q : Row). HasText keys q.words.items e) (sym same) text) in
    inl ((h.0.is.selection.members e).1 (has, words))
told_under keys xs (s ∷ rows) h r e (inr later) has text = inr (told_under keys xs rows h.1 r e later has text)

-- ---- their order

-- a comparison that says less, by its parts
less_first : (o p : Ordering) → ordering_then o p ≡ Less → (o ≡ Less) ⊎ ((o ≡ Equal) × (p ≡ Less))
less_first Less p h = inl refl
less_first Equal p h = inr (refl, h)
less_first Greater p h = absurd cc

more_records : (a b : ℕ) (o : Ordering) → o ≡ nat_cmp a b → o ≡ Less → a < b
more_records a b Less e h = ranked a b Less e
more_records a b Equal e h = absurd cc
more_records a b Greater e h = absurd cc

as_many : (a b : ℕ) (o : Ordering) → o ≡ nat_cmp a b → o ≡ Equal → a ≡ b
as_many a b Less e h = absurd cc
as_many a b Equal e h = ranked a b Equal e
as_many a b Greater e h = absurd cc

below_octets : (a b : List ℕ) (o : Ordering) → o ≡ slice_cmp nat_cmp a b → o ≡ Less → OctetsBelow a b
below_octets a b Less e h = octets_ranked a b Less e
below_octets a b Equal e h = absurd cc
below_octets a b Greater e h = absurd cc

words_ahead : (keys : List CountKey) (r s : Row) (l m : Line) → IsRowFor keys r l → IsRowFor keys s m
    → compare_words r s ≡ Less → AreWordsBelow l.words m.words
words_ahead keys r s l m h k less =
    words_below l.words m.words h.words.free (h.words.count ∙ sym k.words.count)
    (subst (OctetsBelow (spaced l.words)) k.words.is
    (subst (λ (t : List ℕ). OctetsBelow t s.words.items) h.words.is
    (below_octets r.words.items s.words.items (compare_words r s) refl less)))

is_ahead : (keys : List CountKey) (order : LineOrder) (r s : Row) (l m : Line) → IsRowFor keys r l → IsRowFor keys s m
    → compare_rows order r s ≡ Less → IsAhead order l m
is_ahead keys ByWords r s l m h k less = words_ahead keys r s l m h k less
is_ahead keys MostFirst r s l m h k less =
    by_parts (less_first (nat_cmp s.tally.records r.tally.records) (compare_words r s) less)
  where
    by_parts : (nat_cmp s.tally.records r.tally.records ≡ Less)
        ⊎ ((nat_cmp s.tally.records r.tally.records ≡ Equal) × (compare_words r s ≡ Less)) → IsAhead MostFirst l m
    by_parts (inl more) =
        let fewer : s.tally.records < r.tally.records =
        more_records s.tally.records r.tally.records (nat_cmp s.tally.records r.tally.records) refl more in
        inl (omega (arith, fewer, h.tally.records, k.tally.records))
    by_parts (inr (same, below)) =
        let equal : s.tally.records ≡ r.tally.records =
        as_many s.tally.records r.tally.records (nat_cmp s.tally.records r.tally.records) refl same in
        inr (omega (arith, equal, h.tally.records, k.tally.records), words_ahead keys r s l m h k below)

ahead_of_all : (keys : List CountKey) (order : LineOrder) (xs : List Entry) (r : Row) (l : Line) (rows : List Row)
    (h : AllByRecursion (Told keys xs) rows) → IsRowFor keys r l
    → AllByRecursion (λ s. compare_rows order r s ≡ Less) rows
    → AllByRecursion (IsAhead order l) (lines_of keys xs rows h)
unfolding lines_of
ahead_of_all keys order xs r l [] h is less = tt
ahead_of_all keys order xs r l (s ∷ rows) h is less =
    (is_ahead keys order r s l h.0.line is h.0.row less.0, ahead_of_all keys order xs r l rows h.1 is less.1)

lines_ranked : (keys : List CountKey) (order : LineOrder) (xs : List Entry) (rows : List Row)
    (h : AllByRecursion (Told keys xs) rows)
    → AreRanked order rows → AreRankedLines order (lines_of keys xs rows h)
unfolding lines_of
lines_ranked keys order xs [] h up = tt
lines_ranked keys order xs (r ∷ rows) h up = (
  ahead_of_all keys order xs r h.0.line rows h.1 h.0.row (sorted_head (compare_rows order) r rows up),
  lines_ranked keys order xs rows h.1 (sorted_tail (compare_rows order) r rows up),
)

-- ---- what the rows of a table are told by

-- lines, and the rows that have what they tell
pub record Lines (keys : List CountKey) (order : LineOrder) (xs : List Entry) (rows : List Row) : Type 0 where
  pub lines : List Line
  pub are : AreLinesOf keys order xs lines
  pub rows_for : AreRowsFor keys rows lines

all_told : (keys : List CountKey) (t : Table) (xs : List Entry) (rows : List Row) → IsTableOf keys t xs
    → ((r : Row) → Contains rows r → tally_at t r.words.items ≡ Some r.tally) → AllByRecursion (Told keys xs) rows
all_told keys t xs rows h each =
    all_weaker (Contains rows) (Told keys xs) (λ r among. told keys t xs r h (each r among)) rows
    (recursion_from_All (Contains rows) rows (All-contains_itself rows))

-- an entry has a tally under its words
has_tally : (o : Option Tally) (es : List Entry) (e : Entry) → IsTallyAt o es → Has es e → IsSome o
has_tally None es e none has = absurd (subst (λ (l : List Entry). Has l e) none has)
has_tally (Some u) es e tally has = refl

some_lines : (keys : List CountKey) (rows : List Row) (ls : List Line) (r : Row) → AreRowsFor keys rows ls → IsAmong rows r → ls ≢ []
some_lines keys [] ls r are among none = among
some_lines keys (s ∷ rows) [] r are among none = are
some_lines keys (s ∷ rows) (l ∷ ls) r are among none = absurd cc

pub lines_from : (keys : List CountKey) (order : LineOrder) (t : Table) (xs : List Entry) (rows : List Row)
    → IsTableOf keys t xs → AreRowsOf t rows → AreRanked order rows → Lines keys order xs rows
lines_from keys order t xs rows h of up =
    let h' : AllByRecursion (Told keys xs) rows = all_told keys t xs rows h of.each in
    record {
      lines = lines_of keys xs rows h';
      are = record {
        each = each_line keys xs rows h';
        all = λ e has.
            let text : List ℕ = (h.all e has).0 in
            let words : HasText keys text e = (h.all e has).1 in
            let row = h.rows text in
            let some = has_tally (tally_at t text) row.es e row.tally ((row.selection.members e).1 (has, words)) in
            let under = of.all text some in
            told_under keys xs rows h' under.row e (among rows under.row under.among) has
            (subst (λ (l : List ℕ). HasText keys l e) (sym under.words) words);
        some = each_some keys xs rows h';
        alone = λ none.
            let under = of.all [] (h.alone none) in
            some_lines keys rows (lines_of keys xs rows h') under.row (rows_for keys xs rows h')
            (among rows under.row under.among);
        ranked = lines_ranked keys order xs rows h' up;
      };
      rows_for = rows_for keys xs rows h';
    }

-- ---- their text

taken_for : (keys : List CountKey) (n : ℕ) (rows : List Row) (ls : List Line) → AreRowsFor keys rows ls
    → AreRowsFor keys (take n rows) (take n ls)
taken_for keys zero rows ls h = refl
taken_for keys (suc n) [] ls h = subst (λ (k : List Line). take (suc n) k ≡ []) (sym h) refl
taken_for keys (suc n) (r ∷ rows) [] h = absurd h
taken_for keys (suc n) (r ∷ rows) (l ∷ ls) h = (h.0, taken_for keys n rows ls h.1)

pub first_for : (keys : List CountKey) (top : Option ℕ) (rows : List Row) (ls : List Line) → AreRowsFor keys rows ls
    → AreRowsFor keys (first_of top rows) (first_of top ls)
first_for keys None rows ls h = h
first_for keys (Some n) rows ls h = taken_for keys n rows ls h

row_text : (keys : List CountKey) (r : Row) (l : Line) (text : List ℕ) → IsRowFor keys r l → RowText r text
    → LineText l text
row_text keys r l text h t = rw (← h.tally.records, ← h.tally.octets, ← h.first, ← h.last, ← h.words.is) t

pub rows_text : (keys : List CountKey) (rows : List Row) (ls : List Line) (text : List ℕ) → AreRowsFor keys rows ls
    → Each RowText rows text → Each LineText ls text
rows_text keys [] ls text h t = subst (λ (k : List Line). Each LineText k text) (sym h) t
rows_text keys (r ∷ rows) [] text h t = absurd h
rows_text keys (r ∷ rows) (l ∷ ls) text h (a, b, e, first, more) =
    (a, b, e, row_text keys r l a h.0 first, rows_text keys rows ls b h.1 more)
