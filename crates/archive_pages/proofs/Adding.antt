-- An entry is added to pages.
use Rattle.std.proofs.Common.{◌≡◌, ℕ, ◌+◌, ◌≤◌, List, [], ◌∷◌, ◌++◌, length, refl, sym, ap, ◌∙◌, subst, arith}
use Rattle.std.proofs.Common.{length-append}
use Rattle.std.proofs.lemmas.Bool.{false≢true}
use Rattle.std.proofs.lemmas.List.{length-map}
use Rattle.std.specs.List.{AllByRecursion}
use Rattle.std.specs.Prelude.{◌↔◌, Bool, true, false, not, IsTrue, Option, Some, None}
use Rattle.std.specs.Option.{is_some}
use Rattle.archive_text.specs.Entries.{Entry, Has, IsBelow, IsEntry}
use Rattle.archive_text.specs.Stores.{AddsEntry}
use Rattle.archive_text.specs.Text.{IsArchive}
use Rattle.archive_text.specs.declared.limits.TheConstants.{ENTRY_MAX}
use Rattle.archive_text.specs.declared.store.Added.TheVariants.{New, Held}
use Rattle.archive_text.proofs.Ascending.{archive_inserted, not_between}
use Rattle.archive_text.proofs.Members.{all_append, all_left, all_right, all_weaker}
use Rattle.archive_pages.specs.Spans.{IsWithin, Keeps, entries_at, entry_at}
use Rattle.archive_pages.specs.Pages.{ArePaged, AreSearchable, HaveSizes, after, before, entries_of, joined}
use Rattle.archive_pages.specs.Places.{AreAbove, AreBelow, GoesTo, IsPlace}
use Rattle.archive_pages.specs.declared.arena.Span.{Span}
use Rattle.archive_pages.proofs.Blocks.{entries_stay}
use Rattle.archive_pages.proofs.PageLists.{joined_around}
use Rattle.archive_pages.proofs.Searching.{all_to_map, entries-append}

abbrev Blocks : Type 0
Blocks = List (List ℕ)

pub searchable : (blocks : Blocks) (pages : List (List Span)) → ArePaged blocks pages → AreSearchable blocks pages
searchable blocks pages h = record { sizes = h.sizes; within = h.within; ascending = h.archive.ascending }

within_stays : (old new : Blocks) (spans : List Span) → Keeps old new → AllByRecursion (IsWithin old) spans
    → AllByRecursion (IsWithin new) spans
within_stays old new spans keeps = all_weaker (IsWithin old) (IsWithin new) (λ s h. (keeps s h).0) spans

-- pages stay those of an archive as blocks grow
pub paged_stays : (old new : Blocks) (pages : List (List Span)) → Keeps old new → ArePaged old pages
    → ArePaged new pages
paged_stays old new pages keeps h =
    record {
      sizes = h.sizes;
      within = within_stays old new (joined pages) keeps h.within;
      archive = subst (IsArchive ENTRY_MAX) (sym (entries_stay old new (joined pages) keeps h.within)) h.archive;
    }

pub same_entries : (old new : Blocks) (pages : List (List Span)) → Keeps old new → ArePaged old pages
    → entries_of new pages ≡ entries_of old pages
same_entries old new pages keeps h = entries_stay old new (joined pages) keeps h.within

-- the old pages and the new ones, which have one more span
pub record Gains (old new : Blocks) (pages more : List (List Span)) (s : Span) (e : Entry) : Type 0 where
  pub prefix : List Span
  pub back : List Span
  pub parts : joined pages ≡ prefix ++ back
  pub joins : joined more ≡ prefix ++ s ∷ back
  pub sizes : HaveSizes more
  pub keeps : Keeps old new
  pub within : IsWithin new s
  pub value : entry_at new s ≡ e
  pub below : AreBelow old e prefix
  pub above : AreAbove old e back

pub gains_at : (old new : Blocks) (pages more : List (List Span)) (s : Span) (e : Entry) (k at : ℕ)
    → GoesTo old pages e k at
    → joined more ≡ before pages k at ++ s ∷ after pages k at → HaveSizes more → Keeps old new → IsWithin new s
    → entry_at new s ≡ e → Gains old new pages more s e
gains_at old new pages more s e k at h joins sizes keeps within value =
    record {
      prefix = before pages k at;
      back = after pages k at;
      parts = joined_around pages k at h.page;
      joins = joins;
      sizes = sizes;
      keeps = keeps;
      within = within;
      value = value;
      below = h.below;
      above = h.above;
    }

-- the new entries
gained : (old new : Blocks) (pages more : List (List Span)) (s : Span) (e : Entry) → ArePaged old pages
    → (g : Gains old new pages more s e)
    → entries_of new more ≡ entries_at old g.prefix ++ e ∷ entries_at old g.back
gained old new pages more s e h g =
    let all = subst (AllByRecursion (IsWithin old)) g.parts h.within in
    let prefix = entries_stay old new g.prefix g.keeps (all_left (IsWithin old) g.prefix g.back all) in
    let back = entries_stay old new g.back g.keeps (all_right (IsWithin old) g.prefix g.back all) in
    ap (entries_at new) g.joins ∙ entries-append new g.prefix (s ∷ g.back)
    ∙ ap (λ (es : List Entry). es ++ entry_at new s ∷ entries_at new g.back) prefix
    ∙ ap (λ (x : Entry). entries_at old g.prefix ++ x ∷ entries_at new g.back) g.value
    ∙ ap (λ (es : List Entry). entries_at old g.prefix ++ e ∷ es) back

had : (old new : Blocks) (pages more : List (List Span)) (s : Span) (e : Entry) → (g : Gains old new pages more s e)
    → entries_of old pages ≡ entries_at old g.prefix ++ entries_at old g.back
had old new pages more s e g = ap (entries_at old) g.parts ∙ entries-append old g.prefix g.back

-- one more entry makes an archive again
pub paged_more : (old new : Blocks) (pages more : List (List Span)) (s : Span) (e : Entry) → ArePaged old pages
    → IsEntry e → length e.octets ≤ ENTRY_MAX → Gains old new pages more s e
    → ArePaged new more
paged_more old new pages more s e h entry fits g =
    let all = subst (AllByRecursion (IsWithin old)) g.parts h.within in
    let archive = subst (IsArchive ENTRY_MAX) (had old new pages more s e g) h.archive in
    record {
      sizes = g.sizes;
      within = subst (AllByRecursion (IsWithin new)) (sym g.joins)
          (all_append (IsWithin new) g.prefix (s ∷ g.back)
          (within_stays old new g.prefix g.keeps (all_left (IsWithin old) g.prefix g.back all))
          (g.within, within_stays old new g.back g.keeps (all_right (IsWithin old) g.prefix g.back all)));
      archive = subst (IsArchive ENTRY_MAX) (sym (gained old new pages more s e h g))
          (archive_inserted ENTRY_MAX (entries_at old g.prefix) (entries_at old g.back) e archive entry fits
          (all_to_map (entry_at old) (λ x. IsBelow x e) g.prefix g.below)
          (all_to_map (entry_at old) (IsBelow e) g.back g.above));
    }

-- and it was not there before
pub adds_more : (old new : Blocks) (pages more : List (List Span)) (s : Span) (e : Entry) → ArePaged old pages
    → Gains old new pages more s e
    → AddsEntry e (entries_of old pages) (entries_of new more) New
adds_more old new pages more s e h g = (
  λ has. not_between (entries_at old g.prefix) (entries_at old g.back) e
      (all_to_map (entry_at old) (λ x. IsBelow x e) g.prefix g.below)
      (all_to_map (entry_at old) (IsBelow e) g.back g.above)
      (subst (λ (es : List Entry). Has es e) (had old new pages more s e g) has),
  (entries_at old g.prefix, entries_at old g.back, had old new pages more s e g, gained old new pages more s e h g),
)

-- where there is room for it no entry is held
pub not_held : (blocks : Blocks) (pages : List (List Span)) (e : Entry) (k at : ℕ) → GoesTo blocks pages e k at
    → ¬ (Has (entries_of blocks pages) e)
not_held blocks pages e k at h has =
    let a = before pages k at in
    let b = after pages k at in
    not_between (entries_at blocks a) (entries_at blocks b) e
    (all_to_map (entry_at blocks) (λ x. IsBelow x e) a h.below)
    (all_to_map (entry_at blocks) (IsBelow e) b h.above)
    (subst (λ (es : List Entry). Has es e) (ap (entries_at blocks) (joined_around pages k at h.page)
    ∙ entries-append blocks a b) has)

-- the first entry
pub gains_first : (old new : Blocks) (pages more : List (List Span)) (s : Span) (e : Entry) → pages ≡ []
    → more ≡ (s ∷ []) ∷ [] → Keeps old new → IsWithin new s → entry_at new s ≡ e
    → Gains old new pages more s e
gains_first old new pages more s e none one keeps within value =
    record {
      prefix = [];
      back = [];
      parts = ap joined none;
      joins = ap joined one;
      sizes = subst HaveSizes (sym one) ((omega arith, omega arith), tt);
      keeps = keeps;
      within = within;
      value = value;
      below = tt;
      above = tt;
    }

-- a refused growth
pub paged_same : (old new : Blocks) (pages more : List (List Span)) → ArePaged old pages → Keeps old new → more ≡ pages
    → ArePaged new more
paged_same old new pages more h keeps same = subst (ArePaged new) (sym same) (paged_stays old new pages keeps h)

pub entries_same : (old new : Blocks) (pages more : List (List Span)) → ArePaged old pages → Keeps old new
    → more ≡ pages → entries_of new more ≡ entries_of old pages
entries_same old new pages more h keeps same = ap (entries_of new) same ∙ same_entries old new pages keeps h

-- ---- how many

pub count_of : (blocks : Blocks) (pages : List (List Span)) → length (entries_of blocks pages) ≡ length (joined pages)
count_of blocks pages = length-map (joined pages) (entry_at blocks)

pub count_same : (old new : Blocks) (pages more : List (List Span)) → entries_of new more ≡ entries_of old pages
    → length (joined more) ≡ length (joined pages)
count_same old new pages more same = sym (count_of new more) ∙ ap length same ∙ count_of old pages

pub count_more : (old new : Blocks) (pages more : List (List Span)) (e : Entry)
    → AddsEntry e (entries_of old pages) (entries_of new more) New → length (joined more) ≡ length (joined pages) + 1
count_more old new pages more e (none, (a, b, was, is)) =
    omega (
      arith,
      count_of old pages,
      count_of new more,
      ap length was,
      ap length is,
      length-append a b,
      length-append a (e ∷ b),
    )

pub count_held : (old new : Blocks) (pages more : List (List Span)) (e : Entry)
    → AddsEntry e (entries_of old pages) (entries_of new more) Held → length (joined more) ≡ length (joined pages)
count_held old new pages more e (has, same) = count_same old new pages more same

-- where no place is found the entry is held
pub none_held : (blocks : Blocks) (pages : List (List Span)) (e : Entry) (o : Option (ℕ × ℕ)) (r : Bool)
    → is_some o ≡ not r → IsPlace blocks pages e o → IsTrue r ↔ Has (entries_of blocks pages) e
none_held blocks pages e None true h is = (λ t. is, λ has. refl)
none_held blocks pages e None false h is = absurd (false≢true h)
none_held blocks pages e (Some p) true h is = absurd (false≢true (sym h))
none_held blocks pages e (Some p) false h is =
    (λ t. absurd (false≢true t), λ has. absurd (not_held blocks pages e p.0 p.1 is has))
