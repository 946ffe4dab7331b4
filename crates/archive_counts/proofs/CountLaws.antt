-- An archive has one list of lines.
use Rattle.std.proofs.Common.{◌≡◌, ℕ, List, [], ◌∷◌, Option, None, Some, length, refl, sym, ap, subst, ◌∙◌, inl, inr, arith}
use Rattle.std.specs.Prelude.{◌⊎◌, ◌≢◌, ℤ, ◌≤ℤ◌}
use Rattle.std.specs.List.{AllByRecursion}
use Rattle.std.proofs.lemmas.Int.{ints}
use Rattle.archive_text.specs.Entries.{Entry, Has}
use Rattle.archive_sets.specs.Selections.{IsSelection}
use Rattle.archive_sets.proofs.SelectionLaws.{one_selection}
use Rattle.archive_counts.specs.Lines.{AreLinesOf, AreRanked, IsAhead, IsLineOf, IsToldOf, Line}
use Rattle.archive_counts.specs.Tallies.{AreUndated, HasInstant, IsEarliest, IsLatest}
use Rattle.archive_counts.specs.Words.{HasWords}
use Rattle.archive_counts.specs.declared.key.CountKey.{CountKey}
use Rattle.archive_counts.specs.declared.order.LineOrder.{LineOrder}
use Rattle.archive_counts.specs.declared.order.LineOrder.TheVariants.{MostFirst, ByWords}
use Rattle.archive_counts.proofs.WordOrders.{words_asymmetric}
use Rattle.archive_counts.proofs.WordTexts.{same_words}

-- ---- one line

both_ways : (i j : ℤ) → i ≤ℤ j → j ≤ℤ i → i ≡ j
both_ways i j h k = omega (arith, ints, h, k)

no_instant : {X : Type 0} (es : List Entry) (i : ℤ) → AreUndated es → HasInstant es i → X
no_instant es i none h = let clash : None ≡ Some i = sym (none h.entry h.among) ∙ h.is in absurd cc

earliest_once : (es : List Entry) (a b : Option ℤ) → IsEarliest es a → IsEarliest es b → a ≡ b
earliest_once es None None h k = refl
earliest_once es None (Some j) h k = no_instant es j h k.0
earliest_once es (Some i) None h k = no_instant es i k h.0
earliest_once es (Some i) (Some j) h k = ap Some (both_ways i j (h.1 j k.0) (k.1 i h.0))

latest_once : (es : List Entry) (a b : Option ℤ) → IsLatest es a → IsLatest es b → a ≡ b
latest_once es None None h k = refl
latest_once es None (Some j) h k = no_instant es j h k.0
latest_once es (Some i) None h k = no_instant es i k h.0
latest_once es (Some i) (Some j) h k = ap Some (both_ways i j (k.1 i h.0) (h.1 j k.0))

abbrev line_with : List (List ℕ) → List Entry → Option ℤ → Option ℤ → Line
line_with words es first last = record { words = words; entries = es; first = first; last = last }

same_fields : (l m : Line) → l.words ≡ m.words → l.entries ≡ m.entries → l.first ≡ m.first → l.last ≡ m.last → l ≡ m
same_fields l m words entries first last =
    let same : line_with l.words l.entries l.first l.last ≡ line_with m.words m.entries m.first m.last =
    rw (words, entries, first, last) refl in same

same_line : (keys : List CountKey) (xs : List Entry) (l m : Line) → IsLineOf keys xs l → IsLineOf keys xs m
    → l.words ≡ m.words → l ≡ m
same_line keys xs l m h k words =
    let entries : l.entries ≡ m.entries =
    one_selection (HasWords keys m.words) xs l.entries m.entries
    (subst (λ (ws : List (List ℕ)). IsSelection (HasWords keys ws) xs l.entries) words h.selection) k.selection in
    same_fields l m words entries
    (earliest_once m.entries l.first m.first (subst (λ (es : List Entry). IsEarliest es l.first) entries h.first) k.first)
    (latest_once m.entries l.last m.last (subst (λ (es : List Entry). IsLatest es l.last) entries h.last) k.last)

-- ---- each line of one list is in the other

abbrev IsIn : List Line → Line → Type 0
IsIn [] x = ⊥
IsIn (l ∷ ls) x = (l ≡ x) ⊎ IsIn ls x

of_line : (P : Line → Type 0) (ls : List Line) (x : Line) → AllByRecursion P ls → IsIn ls x → P x
of_line P [] x all h = absurd h
of_line P (l ∷ ls) x all (inl same) = subst P same all.0
of_line P (l ∷ ls) x all (inr later) = of_line P ls x all.1 later

-- the line that tells of an entry
record Teller (ls : List Line) (e : Entry) : Type 0 where
  line : Line
  among : IsIn ls line
  tells : Has line.entries e

teller : (ls : List Line) (e : Entry) → IsToldOf ls e → Teller ls e
teller [] e h = absurd h
teller (l ∷ ls) e (inl here) = record { line = l; among = inl refl; tells = here }
teller (l ∷ ls) e (inr later) =
    let t = teller ls e later in record { line = t.line; among = inr t.among; tells = t.tells }

in_by_entry : (keys : List CountKey) (order : LineOrder) (xs : List Entry) (ms : List Line) (l : Line) (e : Entry)
    → AreLinesOf keys order xs ms → IsLineOf keys xs l → Has l.entries e → IsIn ms l
in_by_entry keys order xs ms l e of h has =
    let m = (h.selection.members e).0 has in
    let t = teller ms e (of.all e m.0) in
    let k : IsLineOf keys xs t.line = of_line (IsLineOf keys xs) ms t.line of.each t.among in
    let words : t.line.words ≡ l.words = same_words keys t.line.words l.words e ((k.selection.members e).0 t.tells).1 m.1 in
    subst (IsIn ms) (same_line keys xs t.line l k h words) t.among

no_words : (keys : List CountKey) (words : List (List ℕ)) → keys ≡ [] → length words ≡ length keys → words ≡ []
no_words keys [] none size = refl
no_words keys (w ∷ words) none size =
    let empty : length keys ≡ 0 = ap (λ (l : List CountKey). length l) none in absurd (omega (arith, size, empty))

in_without_keys : (keys : List CountKey) (xs : List Entry) (ms : List Line) (l : Line) → keys ≡ []
    → AllByRecursion (IsLineOf keys xs) ms → ms ≢ [] → IsLineOf keys xs l → IsIn ms l
in_without_keys keys xs [] l none all some h = absurd (some refl)
in_without_keys keys xs (m ∷ ms) l none all some h =
    inl (same_line keys xs m l all.0 h
    (no_words keys m.words none all.0.size ∙ sym (no_words keys l.words none h.size)))

in_by_first : (keys : List CountKey) (order : LineOrder) (xs : List Entry) (ms : List Line) (l : Line) (es : List Entry)
    → l.entries ≡ es → es ≢ [] → AreLinesOf keys order xs ms → IsLineOf keys xs l → IsIn ms l
in_by_first keys order xs ms l [] is some of h = absurd (some refl)
in_by_first keys order xs ms l (e ∷ es) is some of h =
    in_by_entry keys order xs ms l e of h (subst (λ (fs : List Entry). Has fs e) (sym is) (inl refl))

in_by_keys : (keys all : List CountKey) (order : LineOrder) (xs : List Entry) (ls ms : List Line) (l : Line) → all ≡ keys
    → AreLinesOf all order xs ls → AreLinesOf all order xs ms → IsIn ls l → IsIn ms l
in_by_keys [] all order xs ls ms l is h k among =
    in_without_keys all xs ms l is k.each (k.alone is) (of_line (IsLineOf all xs) ls l h.each among)
in_by_keys (key ∷ keys) all order xs ls ms l is h k among =
    let some : l.entries ≢ [] =
    of_line (λ (x : Line). x.entries ≢ []) ls l (h.some (λ none. (let clash : [] ≡ key ∷ keys = sym none ∙ is in absurd cc)))
    among in
    in_by_first all order xs ms l l.entries refl some k (of_line (IsLineOf all xs) ls l h.each among)

-- ---- so in their order they are one list

not_both : (order : LineOrder) (l m : Line) → IsAhead order l m → ¬ (IsAhead order m l)
not_both ByWords l m h k = words_asymmetric l.words m.words h k
not_both MostFirst l m (inl h) (inl k) = omega (arith, h, k)
not_both MostFirst l m (inl h) (inr k) = omega (arith, h, k.0)
not_both MostFirst l m (inr h) (inl k) = omega (arith, h.0, k)
not_both MostFirst l m (inr h) (inr k) = words_asymmetric l.words m.words h.1 k.1

same_first : (order : LineOrder) (l m : Line) (ls ms : List Line) → AreRanked order (l ∷ ls) → AreRanked order (m ∷ ms)
    → IsIn (m ∷ ms) l → IsIn (l ∷ ls) m → l ≡ m
same_first order l m ls ms h k (inl same) there = sym same
same_first order l m ls ms h k (inr more) (inl same) = same
same_first order l m ls ms h k (inr more) (inr also) =
    absurd (not_both order l m (of_line (IsAhead order l) ls m h.0 also) (of_line (IsAhead order m) ms l k.0 more))

further : (order : LineOrder) (l m : Line) (ls ms : List Line) → AllByRecursion (IsAhead order l) ls → l ≡ m
    → ((x : Line) → IsIn (l ∷ ls) x → IsIn (m ∷ ms) x) → (x : Line) → IsIn ls x → IsIn ms x
further order l m ls ms ahead same each x h =
    elim (each x (inr h)) [
      | inl first ↦
          let before : IsAhead order l l =
          subst (IsAhead order l) (sym (same ∙ first)) (of_line (IsAhead order l) ls x ahead h) in
          absurd (not_both order l l before before)
      | inr more ↦ more
    ]

one_ranked : (order : LineOrder) (ls ms : List Line) → AreRanked order ls → AreRanked order ms
    → ((x : Line) → IsIn ls x → IsIn ms x) → ((x : Line) → IsIn ms x → IsIn ls x) → ls ≡ ms
one_ranked order [] [] h k there back = refl
one_ranked order [] (m ∷ ms) h k there back = absurd (back m (inl refl))
one_ranked order (l ∷ ls) [] h k there back = absurd (there l (inl refl))
one_ranked order (l ∷ ls) (m ∷ ms) h k there back =
    let same = same_first order l m ls ms h k (there l (inl refl)) (back m (inl refl)) in
    let others = one_ranked order ls ms h.1 k.1 (further order l m ls ms h.0 same there)
    (further order m l ms ls k.0 (sym same) back) in
    ap (λ (x : Line). x ∷ ls) same ∙ ap (λ (xs : List Line). m ∷ xs) others

pub one_count : (keys : List CountKey) (order : LineOrder) (xs : List Entry) (ls ms : List Line)
    → AreLinesOf keys order xs ls → AreLinesOf keys order xs ms → ls ≡ ms
one_count keys order xs ls ms h k =
    one_ranked order ls ms h.ranked k.ranked (λ l among. in_by_keys keys keys order xs ls ms l refl h k among)
    (λ m among. in_by_keys keys keys order xs ms ls m refl k h among)
