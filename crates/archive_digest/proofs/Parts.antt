-- Entries are divided by period as they come.
use Rattle.std.proofs.Common.{◌≡◌, List, [], ◌∷◌, ◌++◌, ◌∙◌, refl, sym, ap, subst, inl, inr, append-nil, append_assoc}
use Rattle.std.specs.Prelude.{◌≢◌, ◌⊎◌, ℕ}
use Rattle.std.specs.List.{AllByRecursion}
use Rattle.std.proofs.lemmas.Grind.{flat_map-append}
use Rattle.archive_text.specs.Entries.{Entry, Has, InstantBelow, IsAscending, IsBelow}
use Rattle.archive_text.proofs.Ascending.{ascending_across, ascending_left, below_last}
use Rattle.archive_text.proofs.Members.{all_append, all_left, all_right, has_either, has_left, has_right, of_member}
use Rattle.archive_text.proofs.Orders.{below_asymmetric, below_irreflexive}
use Rattle.archive_sets.specs.Selections.{IsSelection}
use Rattle.archive_sets.proofs.Selecting.{selection_nil, selection_passes, selection_takes}
use Rattle.archive_digest.specs.Digesting.{EndsIn}
use Rattle.archive_digest.specs.Digests.{Part, IsPartOf, entries_of}
use Rattle.archive_text.specs.Periods.{IsIn}
use Rattle.archive_text.specs.declared.period.Period.{Period}
use Rattle.archive_text.proofs.Names.{between, one_name}

abbrev pub part : List ℕ → List Entry → Part
part name es = record { name = name; entries = es }

-- ---- lists

all_both : {X : Type 0} (P Q R : X → Type 0) (xs : List X) → ((x : X) → P x → Q x → R x) → AllByRecursion P xs
    → AllByRecursion Q xs → AllByRecursion R xs
all_both P Q R [] each h k = tt
all_both P Q R (x ∷ xs) each h k = (each x h.0 k.0, all_both P Q R xs each h.1 k.1)

all_from : {X : Type 0} (P Q : X → Type 0) (xs : List X) → ((x : X) → P x → Q x) → AllByRecursion P xs
    → AllByRecursion Q xs
all_from P Q [] each h = tt
all_from P Q (x ∷ xs) each h = (each x h.0, all_from P Q xs each h.1)

-- the entries of each part are among those of all parts
part_among : (ps : List Part) (all : List Entry) → ((e : Entry) → Has (entries_of ps) e → Has all e)
    → AllByRecursion (λ p. (e : Entry) → Has p.entries e → Has all e) ps
part_among [] all within = tt
part_among (p ∷ ps) all within = (
  λ e h. within e (has_left p.entries (entries_of ps) e h),
  part_among ps all (λ e h. within e (has_right p.entries (entries_of ps) e h)),
)

some_entry : (es : List Entry) → es ≢ [] → (e : Entry) × Has es e
some_entry [] some = absurd (some refl)
some_entry (e ∷ es) some = (e, inl refl)

pub entries_more : (ps : List Part) (p : Part) → entries_of (ps ++ p ∷ []) ≡ entries_of ps ++ p.entries
entries_more ps p =
    flat_map-append (λ (q : Part). q.entries) ps (p ∷ []) ∙ ap (λ (es : List Entry). entries_of ps ++ es) (append-nil p.entries)

-- ---- one entry more, which is above all

above : (xs : List Entry) (x e : Entry) → IsAscending (xs ++ x ∷ []) → Has xs e → IsBelow e x
above xs x e up h = of_member (λ y. IsBelow y x) xs e (below_last xs x up) h

-- the new entry is the greatest
greatest_now : (xs : List Entry) (x : Entry) → IsAscending (xs ++ x ∷ []) → (e : Entry) → Has (xs ++ x ∷ []) e
    → ¬ (IsBelow x e)
greatest_now xs x up e h = go (has_either xs (x ∷ []) e h)
  where
    go : Has xs e ⊎ Has (x ∷ []) e → ¬ (IsBelow x e)
    go (inl early) = λ less. below_asymmetric e x (above xs x e up early) less
    go (inr (inl same)) = λ less. below_irreflexive x (subst (IsBelow x) (sym same) less)
    go (inr (inr none)) = absurd none

-- a part does not get the entry where that lies in another period
part_passes : (period : Period) (xs : List Entry) (x : Entry) (p : Part) → IsPartOf period xs p
    → ¬ (IsIn period p.name x) → IsPartOf period (xs ++ x ∷ []) p
part_passes period xs x p h other = record {
  selection = selection_passes (IsIn period p.name) xs p.entries x h.selection other;
  some = h.some;
}

no_end : (es : List Entry) (x : Entry) → es ++ x ∷ [] ≢ []
no_end [] x none = cc
no_end (e ∷ es) x none = cc

none_selected : (period : Period) (name : List ℕ) (xs : List Entry)
    → ((e : Entry) → Has xs e → ¬ (IsIn period name e)) → IsSelection (IsIn period name) xs []
none_selected period name xs none = record {
  ascending = tt;
  members = λ e. (λ h. absurd h, λ h. absurd (none e h.0 h.1));
}

-- ---- the first entry

pub first_part : (period : Period) (name : List ℕ) (x : Entry) → IsAscending (x ∷ []) → IsIn period name x
    → EndsIn period name (x ∷ []) [] (x ∷ [])
first_part period name x up lies = record {
  divided = record {
    each = (
      record {
        selection = selection_takes (IsIn period name) [] [] x up (selection_nil (IsIn period name)) lies;
        some = λ none. cc;
      },
      tt,
    );
    all = refl;
  };
  last = x;
  among = inl refl;
  greatest = greatest_now [] x up;
}

-- ---- an entry of the latest period

-- the parts before the latest have other names
other_names : (period : Period) (name : List ℕ) (xs : List Entry) (earlier : List Part) (latest : List Entry) (x : Entry)
    → IsAscending xs → EndsIn period name xs earlier latest → IsIn period name x
    → (p : Part) → IsPartOf period xs p → ((e : Entry) → Has p.entries e → Has (entries_of earlier) e)
    → ¬ (IsIn period p.name x)
other_names period name xs earlier latest x up h lies p is within also =
    let e = some_entry p.entries is.some in
    let same : p.name ≡ name = one_name period x.instant p.name name also lies in
    let chosen = (is.selection.members e.0).0 e.1 in
    let cur : IsPartOf period xs (part name latest) =
    (all_right (IsPartOf period xs) earlier (part name latest ∷ []) h.divided.each).0 in
    let late : Has latest e.0 =
    (cur.selection.members e.0).1 (chosen.0, subst (λ (n : List ℕ). IsIn period n e.0) same chosen.1) in
    let all : IsAscending (entries_of earlier ++ latest) =
    subst IsAscending (h.divided.all ∙ entries_more earlier (part name latest)) up in
    below_irreflexive e.0 (ascending_across (entries_of earlier) latest e.0 e.0 all (within e.0 e.1) late)

pub same_part : (period : Period) (name : List ℕ) (xs : List Entry) (earlier : List Part) (latest : List Entry)
    (x : Entry)
    → IsAscending (xs ++ x ∷ []) → EndsIn period name xs earlier latest → IsIn period name x
    → EndsIn period name (xs ++ x ∷ []) earlier (latest ++ x ∷ [])
same_part period name xs earlier latest x up h lies =
    let P : Part → Type 0 = IsPartOf period xs in
    let Q : Part → Type 0 = IsPartOf period (xs ++ x ∷ []) in
    let before = ascending_left xs (x ∷ []) up in
    let cur : IsPartOf period xs (part name latest) = (all_right P earlier (part name latest ∷ []) h.divided.each).0 in
    record {
      divided = record {
        each = all_append Q earlier (part name (latest ++ x ∷ []) ∷ [])
            (all_both P (λ p. (e : Entry) → Has p.entries e → Has (entries_of earlier) e) Q earlier
            (λ p is within. part_passes period xs x p is
            (other_names period name xs earlier latest x before h lies p is within))
            (all_left P earlier (part name latest ∷ []) h.divided.each)
            (part_among earlier (entries_of earlier) (λ e k. k))) (
              record {
                selection = selection_takes (IsIn period name) xs latest x up cur.selection lies;
                some = no_end latest x;
              },
              tt,
            );
        all = ap (λ (es : List Entry). es ++ x ∷ []) (h.divided.all ∙ entries_more earlier (part name latest))
            ∙ append_assoc (entries_of earlier) latest (x ∷ [])
            ∙ sym (entries_more earlier (part name (latest ++ x ∷ [])));
      };
      last = x;
      among = has_right latest (x ∷ []) x (inl refl);
      greatest = greatest_now xs x up;
    }

-- ---- an entry of a further period

-- no entry before it lies in its period
no_earlier : (period : Period) (name next : List ℕ) (xs : List Entry) (earlier : List Part) (latest : List Entry)
    (x : Entry) → IsAscending (xs ++ x ∷ []) → EndsIn period name xs earlier latest → IsIn period next x
    → ¬ (next ≡ name) → (e : Entry) → Has xs e → ¬ (IsIn period next e)
no_earlier period name next xs earlier latest x up h lies other e early also =
    let cur : IsPartOf period xs (part name latest) =
    (all_right (IsPartOf period xs) earlier (part name latest ∷ []) h.divided.each).0 in
    let last = (cur.selection.members h.last).0 h.among in
    let low : ¬ (InstantBelow h.last.instant e.instant) = λ less. h.greatest e early (inl less) in
    let high : ¬ (InstantBelow x.instant h.last.instant) =
    λ less. below_asymmetric h.last x (above xs x h.last up last.0) (inl less) in
    other (sym (between period e.instant h.last.instant x.instant next name low high also lies last.1))

pub next_part : (period : Period) (name next : List ℕ) (xs : List Entry) (earlier : List Part) (latest : List Entry)
    (x : Entry)
    → IsAscending (xs ++ x ∷ []) → EndsIn period name xs earlier latest → IsIn period next x → ¬ (next ≡ name)
    → EndsIn period next (xs ++ x ∷ []) (earlier ++ part name latest ∷ []) (x ∷ [])
next_part period name next xs earlier latest x up h lies other =
    let P : Part → Type 0 = IsPartOf period xs in
    let Q : Part → Type 0 = IsPartOf period (xs ++ x ∷ []) in
    let parts : List Part = earlier ++ part name latest ∷ [] in
    let none : (e : Entry) → Has xs e → ¬ (IsIn period next e) =
    no_earlier period name next xs earlier latest x up h lies other in
    record {
      divided = record {
        each = all_append Q parts (part next (x ∷ []) ∷ [])
            (all_from P Q parts (λ p is. part_passes period xs x p is (λ also.
            let e = some_entry p.entries is.some in
            let chosen = (is.selection.members e.0).0 e.1 in
            none e.0 chosen.0 (subst (λ (n : List ℕ). IsIn period n e.0)
            (one_name period x.instant p.name next also lies) chosen.1)))
            h.divided.each) (
              record {
                selection = selection_takes (IsIn period next) xs [] x up (none_selected period next xs none) lies;
                some = λ nothing. cc;
              },
              tt,
            );
        all = ap (λ (es : List Entry). es ++ x ∷ []) h.divided.all
            ∙ sym (entries_more parts (part next (x ∷ [])));
      };
      last = x;
      among = inl refl;
      greatest = greatest_now xs x up;
    }
