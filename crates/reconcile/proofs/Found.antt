-- Facts on places that are sought among ascending ones.
use Rattle.std.proofs.Common.{◌≡◌, ℕ, zero, suc, ◌+◌, ◌<◌, ◌≤◌, List, [], ◌∷◌, ◌++◌, sym, refl, ap, ◌∙◌, subst, inl}
use Rattle.std.proofs.Common.{inr, arith, add-one, length, get_or, take, drop}
use Rattle.std.specs.Prelude.{◌⊎◌, ◌-◌}
use Rattle.std.proofs.lemmas.List.{take_all}
use Rattle.std.specs.List.{AllByRecursion, insert}
use Rattle.archive_text.specs.Entries.{Entry, Has, IsAscending, IsBelow, IsEntry}
use Rattle.archive_text.specs.Text.{IsArchive}
use Rattle.archive_text.specs.declared.limits.TheConstants.{ENTRY_MAX}
use Rattle.archive_text.proofs.Orders.{below_irreflexive, below_total, below_transitive}
use Rattle.archive_text.proofs.Members.{all_weaker, of_all, has_either, has_inserted, has_left, has_new, has_old}
use Rattle.archive_text.proofs.Members.{has_right, of_member}
use Rattle.archive_text.proofs.Ascending.{archive_inserted, ascending_across, ascending_appended, ascending_left}
use Rattle.reconcile.specs.Ranges.{AreThose, IsInside, IsUnder}
use Rattle.reconcile.specs.Unions.{IsJoined, IsPartly}
use Rattle.reconcile.specs.declared.range.Range.{Range}

pub at_index : (P : Entry → Type 0) (es : List Entry) (i : ℕ) (d : Entry) → AllByRecursion P es → i < length es
    → P (get_or es i d)
at_index P [] i d h lt = absurd (omega arith)
at_index P (y ∷ es) zero d h lt = h.0
at_index P (y ∷ es) (suc i) d h lt = at_index P es i d h.1 (omega arith)

-- those up to one below the place are below it
below_suc : (es : List Entry) (e d : Entry) (i : ℕ) → IsAscending es → i < length es → IsBelow (get_or es i d) e
    → AllByRecursion (λ y. IsBelow y e) (take (suc i) es)
below_suc [] e d i h lt low = tt
below_suc (y ∷ es) e d zero h lt low = (low, tt)
below_suc (y ∷ es) e d (suc i) h lt low = (
  below_transitive y (get_or es i d) e (at_index (IsBelow y) es i d h.0 (omega arith)) low,
  below_suc es e d i h.1 (omega arith) low,
)

pub below_up_to : (es : List Entry) (e d : Entry) (i : ℕ) → IsAscending es → i < length es → IsBelow (get_or es i d) e
    → AllByRecursion (λ y. IsBelow y e) (take (i + 1) es)
below_up_to es e d i h lt low = rw add-one (below_suc es e d i h lt low)

-- all are below it, where the last one is
pub last_below : (es : List Entry) (e d : Entry) → IsAscending es → 1 ≤ length es
    → IsBelow (get_or es (length es - 1) d) e
    → AllByRecursion (λ y. IsBelow y e) es
last_below es e d h some low =
    let enough : length es ≤ (length es - 1) + 1 = omega arith in
    subst (AllByRecursion (λ y. IsBelow y e)) (take_all ((length es - 1) + 1) es enough)
    (below_up_to es e d (length es - 1) h (omega arith) low)

-- the last one is below it, where all are
pub last_above : (es : List Entry) (e d : Entry) → 1 ≤ length es → AllByRecursion (λ y. IsBelow y e) es
    → IsBelow (get_or es (length es - 1) d) e
last_above es e d some all = at_index (λ y. IsBelow y e) es (length es - 1) d all (omega arith)

-- those from one not below the place on are not below it
pub above_from : (es : List Entry) (e d : Entry) (i : ℕ) → IsAscending es → i < length es
    → ¬ (IsBelow (get_or es i d) e)
    → AllByRecursion (λ y. ¬ (IsBelow y e)) (drop i es)
above_from [] e d i h lt high = absurd (omega arith)
above_from (y ∷ es) e d zero h lt high =
    (high, all_weaker (IsBelow y) (λ z. ¬ (IsBelow z e)) (λ z l k. high (below_transitive y z e l k)) es h.0)
above_from (y ∷ es) e d (suc i) h lt high = above_from es e d i h.1 (omega arith) high

-- the first one that is not below the place is it, where one is
first_is : (f e : Entry) (es : List Entry) → IsAscending (f ∷ es) → ¬ (IsBelow f e) → Has (f ∷ es) e → f ≡ e
first_is f e es h high (inl same) = same
first_is f e es h high (inr more) = absurd (high (of_member (IsBelow f) es e h.0 more))

pub first_at : (places : List Entry) (e d : Entry) → 1 ≤ length places → IsAscending places
    → AllByRecursion (λ y. ¬ (IsBelow y e)) places → Has places e → get_or places 0 d ≡ e
first_at [] e d some h above m = absurd m
first_at (f ∷ es) e d some h above m = first_is f e es h above.0 m

pub has_index : (es : List Entry) (i : ℕ) (d : Entry) → i < length es → Has es (get_or es i d)
has_index [] i d lt = absurd (omega arith)
has_index (y ∷ es) zero d lt = inl refl
has_index (y ∷ es) (suc i) d lt = inr (has_index es i d (omega arith))

pub sought : (places : List Entry) (e : Entry) (i : ℕ) → IsAscending places
    → AllByRecursion (λ y. IsBelow y e) (take i places)
    → Has places e → Has (drop i places) e
sought places e zero h below m = m
sought [] e (suc i) h below m = absurd m
sought (y ∷ es) e (suc i) h below (inl same) = absurd (below_irreflexive e (subst (λ z. IsBelow z e) same below.0))
sought (y ∷ es) e (suc i) h below (inr more) = sought es e i h.1 below.1 more

pub dropped : (places : List Entry) (e : Entry) (i : ℕ) → Has (drop i places) e → Has places e
dropped places e zero m = m
dropped [] e (suc i) m = absurd m
dropped (y ∷ es) e (suc i) m = inr (dropped es e i m)

pub dropped_ascending : (places : List Entry) (i : ℕ) → IsAscending places → IsAscending (drop i places)
dropped_ascending places zero h = h
dropped_ascending [] (suc i) h = tt
dropped_ascending (y ∷ es) (suc i) h = dropped_ascending es i h.1

-- ---- the entries of a range

pub split_same : (xs : List Entry) (i : ℕ) → take i xs ++ drop i xs ≡ xs
split_same xs zero = refl
split_same [] (suc i) = refl
split_same (x ∷ xs) (suc i) = ap (λ l. x ∷ l) (split_same xs i)

pub taken : (xs : List Entry) (i : ℕ) (x : Entry) → Has (take i xs) x → Has xs x
taken xs zero x m = absurd m
taken [] (suc i) x m = absurd m
taken (y ∷ ys) (suc i) x (inl same) = inl same
taken (y ∷ ys) (suc i) x (inr more) = inr (taken ys i x more)

pub taken_ascending : (xs : List Entry) (i : ℕ) → IsAscending xs → IsAscending (take i xs)
taken_ascending xs i h = ascending_left (take i xs) (drop i xs) (subst IsAscending (sym (split_same xs i)) h)

either_side : (xs : List Entry) (i : ℕ) (x : Entry) → Has xs x → Has (take i xs) x ⊎ Has (drop i xs) x
either_side xs i x m = has_either (take i xs) (drop i xs) x (subst (λ l. Has l x) (sym (split_same xs i)) m)

pub those_from : (xs ys : List Entry) (low : Entry) (i : ℕ) → IsAscending xs
    → AllByRecursion (λ y. IsBelow y low) (take i xs)
    → AllByRecursion (λ y. ¬ (IsBelow y low)) (drop i xs) → ys ≡ drop i xs → AreThose (λ x. ¬ (IsBelow x low)) xs ys
those_from xs ys low i h below above is =
    subst (AreThose (λ x. ¬ (IsBelow x low)) xs) (sym is) (record {
      ascending = dropped_ascending xs i h;
      members = λ x. (
        λ m. (dropped xs x i m, of_member (λ y. ¬ (IsBelow y low)) (drop i xs) x above m),
        λ t. elim (either_side xs i x t.0) [
          | inl l ↦ absurd (t.1 (of_member (λ y. IsBelow y low) (take i xs) x below l))
          | inr r ↦ r
        ],
      );
    })

pub those_before : (xs ys : List Entry) (high : Entry) (i : ℕ) → IsAscending xs
    → AllByRecursion (λ y. IsBelow y high) (take i xs)
    → AllByRecursion (λ y. ¬ (IsBelow y high)) (drop i xs) → ys ≡ take i xs → AreThose (λ x. IsBelow x high) xs ys
those_before xs ys high i h below above is =
    subst (AreThose (λ x. IsBelow x high) xs) (sym is) (record {
      ascending = taken_ascending xs i h;
      members = λ x. (
        λ m. (taken xs i x m, of_member (λ y. IsBelow y high) (take i xs) x below m),
        λ t. elim (either_side xs i x t.0) [
          | inl l ↦ l
          | inr r ↦ absurd (of_member (λ y. ¬ (IsBelow y high)) (drop i xs) x above r t.1)
        ],
      );
    })

pub those_inside : (r : Range) (xs ys zs : List Entry) → AreThose (λ x. ¬ (IsBelow x r.low)) xs ys
    → AreThose (IsUnder r.high) ys zs → AreThose (IsInside r) xs zs
those_inside r xs ys zs h k = record {
  ascending = k.ascending;
  members = λ x. (
    λ m. let t = (k.members x).0 m in let s = (h.members x).0 t.0 in (s.0, (s.1, t.1)),
    λ t. (k.members x).1 ((h.members x).1 (t.0, t.1.0), t.1.1),
  );
}

pub those_all : (P : Entry → Type 0) (xs : List Entry) → IsAscending xs → ((x : Entry) → P x) → AreThose P xs xs
those_all P xs h all = record { ascending = h; members = λ x. (λ m. (m, all x), λ t. t.0) }

-- ---- those of one entry more

pub those_kept : (P : Entry → Type 0) (xs ys : List Entry) (e : Entry) → IsAscending (xs ++ e ∷ [])
    → AreThose P xs ys → P e
    → AreThose P (xs ++ e ∷ []) (ys ++ e ∷ [])
those_kept P xs ys e h k p = record {
  ascending = ascending_appended ys e k.ascending
      (of_all (λ y. IsBelow y e) ys (λ y m. ascending_across xs (e ∷ []) y e h ((k.members y).0 m).0 (inl refl)));
  members = λ x. (
    λ m. elim (has_either ys (e ∷ []) x m) [
      | inl l ↦ let t = (k.members x).0 l in (has_left xs (e ∷ []) x t.0, t.1)
      | inr r ↦ (has_right xs (e ∷ []) x r, elim r [ inl same ↦ subst P same p | inr none ↦ absurd none ])
    ],
    λ t. elim (has_either xs (e ∷ []) x t.0) [
      | inl l ↦ has_left ys (e ∷ []) x ((k.members x).1 (l, t.1))
      | inr r ↦ has_right ys (e ∷ []) x r
    ],
  );
}

pub those_skipped : (P : Entry → Type 0) (xs ys : List Entry) (e : Entry) → AreThose P xs ys → ¬ (P e)
    → AreThose P (xs ++ e ∷ []) ys
those_skipped P xs ys e k n = record {
  ascending = k.ascending;
  members = λ x. (
    λ m. let t = (k.members x).0 m in (has_left xs (e ∷ []) x t.0, t.1),
    λ t. elim (has_either xs (e ∷ []) x t.0) [
      | inl l ↦ (k.members x).1 (l, t.1)
      | inr r ↦ elim r [ inl same ↦ absurd (n (subst P (sym same) t.1)) | inr none ↦ absurd none ]
    ],
  );
}

-- what is among no others is only where something holds
pub those_lack_none : (P : Entry → Type 0) (xs ys : List Entry) → AreThose (λ x. P x × ¬ (Has [] x)) xs ys
    → AreThose P xs ys
those_lack_none P xs ys h = record {
  ascending = h.ascending;
  members = λ x. (λ m. let t = (h.members x).0 m in (t.0, t.1.0), λ t. (h.members x).1 (t.0, (t.1, λ none. none)));
}

-- ---- an entry is inserted

-- those that are not below the place, none of which it is, are above it
above_all : (es : List Entry) (e : Entry) → AllByRecursion (λ y. ¬ (IsBelow y e)) es → ¬ (Has es e)
    → AllByRecursion (IsBelow e) es
above_all [] e h n = tt
above_all (y ∷ es) e h n = (
  elim (below_total e y) [
    | inl less ↦ less
    | inr (inl same) ↦ absurd (n (inl (sym same)))
    | inr (inr more) ↦ absurd (h.0 more)
  ],
  above_all es e h.1 (λ m. n (inr m)),
)

insert_split : (xs : List Entry) (i : ℕ) (e : Entry) → i ≤ length xs → insert xs i e ≡ take i xs ++ e ∷ drop i xs
insert_split xs zero e le = refl
insert_split [] (suc i) e le = absurd (omega arith)
insert_split (x ∷ xs) (suc i) e le = ap (λ l. x ∷ l) (insert_split xs i e (omega arith))

-- an entry that is not there is inserted
pub joined_inserted : (xs zs : List Entry) (e : Entry) (i : ℕ) → IsArchive ENTRY_MAX xs → IsEntry e
    → length e.octets ≤ ENTRY_MAX → i ≤ length xs
    → AllByRecursion (λ y. IsBelow y e) (take i xs) → AllByRecursion (λ y. ¬ (IsBelow y e)) (drop i xs)
    → ¬ (Has (drop i xs) e)
    → zs ≡ insert xs i e → IsJoined xs (e ∷ []) zs
joined_inserted xs zs e i h entry fits le below above none is =
    let a = take i xs in
    let b = drop i xs in
    let whole : a ++ b ≡ xs = split_same xs i in
    let now : zs ≡ a ++ e ∷ b = is ∙ insert_split xs i e le in
    let archive = archive_inserted ENTRY_MAX a b e (subst (IsArchive ENTRY_MAX) (sym whole) h) entry fits below
    (above_all b e above none) in
    record {
      archive = subst (IsArchive ENTRY_MAX) (sym now) archive;
      members = λ x. (
        λ m. elim (has_inserted a b e x (subst (λ l. Has l x) now m)) [
          | inl new ↦ inr (inl new)
          | inr old ↦ inl (subst (λ l. Has l x) whole old)
        ],
        λ m. subst (λ l. Has l x) (sym now) (elim m [
          | inl old ↦ has_old a b e x (subst (λ l. Has l x) (sym whole) old)
          | inr new ↦ elim new [
            | inl same ↦ subst (λ y. Has (a ++ e ∷ b) y) same (has_new a b e)
            | inr none' ↦ absurd
                none'
          ]
        ]),
      );
    }

-- one that is there needs nothing
pub joined_held : (xs : List Entry) (e : Entry) → IsArchive ENTRY_MAX xs → Has xs e → IsJoined xs (e ∷ []) xs
joined_held xs e h there = record {
  archive = h;
  members = λ x. (
    λ m. inl m,
    λ m. elim m [
      | inl old ↦ old
      | inr new ↦ elim new
          [ inl same ↦ subst (λ y. Has xs y) same there | inr none ↦ absurd none ]
    ],
  );
}

-- one entry more
pub joined_more : (xs ys zs us : List Entry) (e : Entry) → IsJoined xs ys zs → IsJoined zs (e ∷ []) us
    → IsJoined xs (ys ++ e ∷ []) us
joined_more xs ys zs us e h k = record {
  archive = k.archive;
  members = λ x. (
    λ m. elim ((k.members x).0 m) [
      | inl old ↦ elim ((h.members x).0 old) [ inl l ↦ inl l | inr r ↦ inr (has_left ys (e ∷ []) x r) ]
      | inr new ↦ inr (has_right ys (e ∷ []) x new)
    ],
    λ m. (k.members x).1 (elim m [
      | inl l ↦ inl ((h.members x).1 (inl l))
      | inr r ↦ elim (has_either ys (e ∷ []) x r) [ inl old ↦ inl ((h.members x).1 (inr old)) | inr new ↦ inr new ]
    ]),
  );
}

-- some of what was to be inserted was
pub partly_more : (xs ys all zs us : List Entry) (e : Entry) → IsJoined xs ys zs → IsPartly zs (e ∷ []) us
    → ((x : Entry) → Has ys x → Has all x) → Has all e → IsPartly xs all us
partly_more xs ys all zs us e h k there also = record {
  archive = k.archive;
  keeps = λ x m. k.keeps x ((h.members x).1 (inl m));
  from = λ x m. elim (k.from x m) [
    | inl old ↦ elim ((h.members x).0 old) [ inl l ↦ inl l | inr r ↦ inr (there x r) ]
    | inr new ↦ elim new [ inl same ↦ inr (subst (λ y. Has all y) same also) | inr none ↦ absurd none ]
  ];
}
