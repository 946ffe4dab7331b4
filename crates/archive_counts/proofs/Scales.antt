-- How long bars are.
use Rattle.std.proofs.Common.{◌≡◌, ℕ, ◌+◌, ◌*◌, ◌/◌, ◌%◌, ◌<◌, ◌≤◌, List, [], ◌∷◌, ◌++◌, length, map, max, min, get_or, take, refl, sym, ap}
use Rattle.std.proofs.Common.{subst, ◌∙◌, inl, inr, arith}
use Rattle.std.specs.Prelude.{◌⊎◌}
use Rattle.std.specs.List.{AllByRecursion}
use Rattle.std.proofs.Math.Nat.{mul-le-mul_left}
use Rattle.std.proofs.lemmas.Bool.{cases_lt}
use Rattle.std.proofs.lemmas.Grind.{div_ceil_times}
use Rattle.std.proofs.lemmas.List.{map-append, take_all, take_more}
use Rattle.std.proofs.lemmas.List.Elements.{All-from_recursion, All-get_or}
use Rattle.octet_language.specs.Language.{Each, Language}
use Rattle.syslog_fields.specs.Appending.{Adds}
use Rattle.archive_text.proofs.Members.{all_weaker}
use Rattle.archive_counts.specs.Bars.{BarText, BarsText, IsBar, Shown, largest, longest, room, shown_line}
use Rattle.archive_counts.specs.Bars.{shown_row}
use Rattle.archive_counts.specs.Lines.{Line}
use Rattle.archive_counts.specs.Texts.{AreRowsFor, IsRowFor}
use Rattle.archive_counts.specs.declared.key.CountKey.{CountKey}
use Rattle.archive_counts.specs.declared.rows.Row.{Row}

-- ---- one row more

pub largest_more : (xs : List Shown) (x : Shown) → largest (xs ++ x ∷ []) ≡ max (largest xs) x.count
largest_more [] x = omega arith
largest_more (y ∷ xs) x = omega (arith, largest_more xs x)

pub longest_more : (xs : List Shown) (x : Shown) → longest (xs ++ x ∷ []) ≡ max (longest xs) (length x.words)
longest_more [] x = omega arith
longest_more (y ∷ xs) x = omega (arith, longest_more xs x)

-- ---- no count is above the largest

none_above : (rows : List Row) → AllByRecursion (λ r. r.tally.records ≤ largest (map shown_row rows)) rows
none_above [] = tt
none_above (r ∷ rows) = (
  omega arith,
  all_weaker (λ (s : Row). s.tally.records ≤ largest (map shown_row rows))
      (λ (s : Row). s.tally.records ≤ largest (map shown_row (r ∷ rows))) (λ s h. omega (arith, h)) rows (none_above rows),
)

pub not_above : (rows : List Row) (i : ℕ) (d : Row) → i < length rows
    → (get_or rows i d).tally.records ≤ largest (map shown_row rows)
not_above rows i d within =
    All-get_or (λ (s : Row). s.tally.records ≤ largest (map shown_row rows)) rows i d within
    (All-from_recursion (λ (s : Row). s.tally.records ≤ largest (map shown_row rows)) rows (none_above rows))

-- ---- a part of the room, rounded up

pub bar_of_none : (most room : ℕ) → IsBar 0 most room 0
bar_of_none most room = record { enough = omega arith; least = λ m h. omega arith }

no_shorter : (part most n m : ℕ) → n * most < part + most → part ≤ m * most → n ≤ m
no_shorter part most n m near enough = by_cases (cases_lt m n)
  where
    by_cases : (m < n) ⊎ (n ≤ m) → n ≤ m
    by_cases (inl less) =
        let h : m + 1 ≤ n = omega (arith, less) in
        absurd (omega (arith, near, enough, mul-le-mul_left most h))
    by_cases (inr h) = h

pub bar_of_part : (count most room n : ℕ) → 0 < most → n ≡ count * room / most + min 1 (count * room % most)
    → IsBar count most room n
bar_of_part count most room n some is =
    let t = div_ceil_times (count * room) most some in
    record {
      enough = subst (λ (k : ℕ). count * room ≤ k * most) (sym is) t.0;
      least = λ m h. no_shorter (count * room) most n m (subst (λ (k : ℕ). k * most < count * room + most) (sym is) t.1) h;
    }

pub within_room : (count most room n : ℕ) → count ≤ most → IsBar count most room n → n ≤ room
within_room count most room n few bar =
    bar.least room (omega (arith, mul-le-mul_left room few))

-- ---- rows and lines

pub each_shown : {V W : Type 0} (A : W → Language) (f : V → W) (vs : List V) (text : List ℕ) → Each (λ v. A (f v)) vs text
    → Each A (map f vs) text
each_shown A f [] text h = h
each_shown A f (v ∷ vs) text (a, b, e, first, more) = (a, b, e, first, each_shown A f vs b more)

same_shown : (keys : List CountKey) (r : Row) (l : Line) → IsRowFor keys r l → shown_row r ≡ shown_line l
same_shown keys r l h = rw (h.tally.records, h.words.is) refl

pub shown_rows : (keys : List CountKey) (rows : List Row) (ls : List Line) → AreRowsFor keys rows ls
    → map shown_row rows ≡ map shown_line ls
shown_rows keys [] ls h = sym (ap (map shown_line) h)
shown_rows keys (r ∷ rows) [] h = absurd h
shown_rows keys (r ∷ rows) (l ∷ ls) h =
    ap (λ (x : Shown). x ∷ map shown_row rows) (same_shown keys r l h.0)
    ∙ ap (λ (xs : List Shown). shown_line l ∷ xs) (shown_rows keys rows ls h.1)

-- ---- one row more

shown_more : (rows : List Row) (i : ℕ) (r : Row) → i < length rows → r ≡ get_or rows i r
    → map shown_row (take (i + 1) rows) ≡ map shown_row (take i rows) ++ shown_row r ∷ []
shown_more rows i r within is =
    ap (map shown_row) (take_more rows i r within ∙ ap (λ (x : Row). take i rows ++ x ∷ []) (sym is))
    ∙ map-append shown_row (take i rows) (r ∷ [])

pub largest_step : (rows : List Row) (i : ℕ) (r : Row) (most : ℕ) → i < length rows → r ≡ get_or rows i r
    → most ≡ largest (map shown_row (take i rows))
    → max most r.tally.records ≡ largest (map shown_row (take (i + 1) rows))
largest_step rows i r most within is h =
    ap (λ (m : ℕ). max m r.tally.records) h ∙ sym (largest_more (map shown_row (take i rows)) (shown_row r))
    ∙ ap largest (sym (shown_more rows i r within is))

pub longest_step : (rows : List Row) (i : ℕ) (r : Row) (most : ℕ) → i < length rows → r ≡ get_or rows i r
    → most ≡ longest (map shown_row (take i rows))
    → max most (length r.words.items) ≡ longest (map shown_row (take (i + 1) rows))
longest_step rows i r most within is h =
    ap (λ (m : ℕ). max m (length r.words.items)) h ∙ sym (longest_more (map shown_row (take i rows)) (shown_row r))
    ∙ ap longest (sym (shown_more rows i r within is))

-- all rows
pub all_bars : (columns most free : ℕ) (rows : List Row) (i : ℕ) (old out : List ℕ) → length rows ≤ i
    → most ≡ largest (map shown_row rows) → free ≡ room columns (map shown_row rows)
    → Adds (Each (λ r. BarText most free (shown_row r)) (take i rows)) old out
    → Adds (BarsText columns (map shown_row rows)) old out
all_bars columns most free rows i old out all is_most is_free (text, each, e) =
    let xs : List Shown = map shown_row rows in
    let whole : Each (λ r. BarText most free (shown_row r)) rows text =
    subst (λ (l : List Row). Each (λ r. BarText most free (shown_row r)) l text) (take_all i rows all) each in (
      text,
      subst (λ (m : ℕ). Each (BarText m (room columns xs)) xs text) is_most
          (subst (λ (f : ℕ). Each (BarText most f) xs text) is_free
          (each_shown (BarText most free) shown_row rows text whole)),
      e,
    )
