-- The spans behind a place.
use Rattle.std.proofs.Common.{◌≡◌, ⊎_elim, ℕ, ◌+◌, ◌<◌, ◌≤◌, List, [], ◌∷◌, ◌++◌, length, drop, take, sym, ap, ◌∙◌, subst, arith}
use Rattle.std.specs.Prelude.{slice_index_or, IfSome, Vec}
use Rattle.std.specs.List.{AllByRecursion}
use Rattle.std.specs.declared.alloc.Global.{Global}
use Rattle.std.proofs.lemmas.Bool.{cases_lt}
use Rattle.std.proofs.lemmas.List.{drop_all, drop_more, get_or_past}
use Rattle.syslog_value.specs.Parts.{IsInstant}
use Rattle.archive_text.specs.Entries.{Entry, IsEntry}
use Rattle.archive_text.proofs.Members.{all_right}
use Rattle.archive_pages.specs.Pages.{after, before, entries_of, joined, page_at}
use Rattle.archive_pages.specs.Spans.{entry_at, lists_of}
use Rattle.archive_pages.specs.declared.arena.Span.{Span}
use Rattle.archive_pages.proofs.PageLists.{count_is, joined_around, joined_rest, page_is}
use Rattle.archive_pages.proofs.Searching.{all_mapped}

-- behind the last page there is none
pub from_none : (pages : List (List Span)) (k i : ℕ) → length pages ≤ k → after pages k i ≡ []
from_none pages k i h =
    ap (λ (p : List Span). drop i p ++ joined (drop (k + 1) pages)) (get_or_past pages k [] h)
    ∙ ap (λ (s : List Span). s ++ joined (drop (k + 1) pages)) (drop_all i [] (omega arith))
    ∙ ap joined (drop_all (k + 1) pages (omega arith))

-- the next page
next_page : (pages : List (List Span)) (k : ℕ) → joined (drop k pages) ≡ after pages k 0
next_page pages k = ⊎_elim
    (λ (here : k < length pages). joined_rest pages k here)
    (λ (past : length pages ≤ k). ap joined (drop_all k pages past) ∙ sym (from_none pages k 0 past))
    (cases_lt k (length pages))

pub from_page : (pages : List (List Span)) (k i : ℕ) → length (page_at pages k) ≤ i
    → after pages (k + 1) 0 ≡ after pages k i
from_page pages k i h =
    sym (next_page pages (k + 1))
    ∙ ap (λ (s : List Span). s ++ joined (drop (k + 1) pages)) (sym (drop_all i (page_at pages k) h))

pub from_index : (pages : List (List Span)) (k i : ℕ) (s : Span) → i < length (page_at pages k)
    → s ≡ slice_index_or (page_at pages k) i s → after pages k i ≡ s ∷ after pages k (i + 1)
from_index pages k i s h is =
    ap (λ (l : List Span). l ++ joined (drop (k + 1) pages))
    (drop_more (page_at pages k) i s h
    ∙ ap (λ (t : Span). t ∷ drop (i + 1) (page_at pages k)) (sym is))

-- what holds of all spans holds of the one behind a place
pub all_from : (P : Span → Type 0) (pages : List (List Span)) (k i : ℕ) (s : Span) (more : List Span)
    → AllByRecursion P (joined pages) → after pages k i ≡ s ∷ more → P s
all_from P pages k i s more all is = ⊎_elim
    (λ (here : k < length pages).
    (subst (AllByRecursion P) is
    (all_right P (before pages k i) (after pages k i)
    (subst (AllByRecursion P) (joined_around pages k i here) all))).0)
    (λ (past : length pages ≤ k).
    absurd (omega (arith, ap length (sym is ∙ from_none pages k i past))))
    (cases_lt k (length pages))

-- the instant of an entry is in range
instant_in : (e : Entry) → IsEntry e → IfSome e.instant IsInstant
instant_in e (r, is) = subst (λ o. IfSome o IsInstant) (sym is.instant) is.valid.time

pub instant_from : (blocks : List (List ℕ)) (pages : List (List Span)) (k i : ℕ) (s : Span) (more : List Span)
    → AllByRecursion IsEntry (entries_of blocks pages) → after pages k i ≡ s ∷ more
    → IfSome (entry_at blocks s).instant IsInstant
instant_from blocks pages k i s more all is =
    instant_in (entry_at blocks s)
    (all_from (λ t. IsEntry (entry_at blocks t)) pages k i s more
    (all_mapped (entry_at blocks) IsEntry (joined pages) all) is)
