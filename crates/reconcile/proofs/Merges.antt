-- Facts on ascending lists that are merged from their ends.
use Rattle.std.proofs.Common.{◌≡◌, ℕ, ◌+◌, ◌-◌, ◌<◌, ◌≤◌, List, [], ◌∷◌, ◌++◌, sym, refl, ap, ◌∙◌, subst, inl, inr}
use Rattle.std.proofs.Common.{arith, length, get_or, take}
use Rattle.std.specs.Prelude.{◌⊎◌, ◌↔◌, Option, None, Some, IsSome, MatchOption, option_to_list, reverse}
use Rattle.std.specs.List.{AllByRecursion}
use Rattle.std.specs.declared.cmp.Ordering.{Ordering}
use Rattle.std.specs.declared.cmp.Ordering.TheVariants.{Less, Equal, Greater}
use Rattle.std.proofs.lemmas.Bool.{false≢true}
use Rattle.std.proofs.lemmas.List.{length-append, reverse-append, take_all, take_more}
use Rattle.archive_text.specs.Entries.{Entry, Has, IsAscending, IsBelow, IsOrder}
use Rattle.archive_text.specs.Text.{IsArchive}
use Rattle.archive_text.specs.declared.limits.TheConstants.{ENTRY_MAX}
use Rattle.archive_text.proofs.Ascending.{ascending_across, ascending_left, below_after}
use Rattle.archive_text.proofs.Members.{has_either, has_left, has_right, of_all, of_member}
use Rattle.archive_text.proofs.Sets.{archive_union}
use Rattle.reconcile.specs.Merging.{IsLastOf, IsLastOrder, TakesLast}
use Rattle.reconcile.specs.Unions.{IsJoined}

-- ---- the last entry

pub last_split : (es : List Entry) (d : Entry) → 1 ≤ length es → IsLastOf es (get_or es (length es - 1) d)
last_split es d some = (
  take (length es - 1) es,
  sym (take_all ((length es - 1) + 1) es (omega arith)) ∙ take_more es (length es - 1) d (omega arith),
)

last_one : (f g : List Entry) (y z : Entry) → f ++ y ∷ [] ≡ g ++ z ∷ [] → y ≡ z
last_one f g y z h =
    let e : y ∷ reverse f ≡ z ∷ reverse g = sym (reverse-append f (y ∷ [])) ∙ ap reverse h ∙ reverse-append g (z ∷ []) in
    cc

last_some : (es : List Entry) (y : Entry) → IsLastOf es y → 1 ≤ length es
last_some es y (front, is) = omega (arith, ap length is, length-append front (y ∷ []))

-- all of an ascending list are below what is above its last one
below_last_of : (xs : List Entry) (x y : Entry) → IsAscending xs → IsLastOf xs x → IsBelow x y
    → AllByRecursion (λ z. IsBelow z y) xs
below_last_of xs x y h (front, is) less =
    subst (AllByRecursion (λ z. IsBelow z y)) (sym is) (below_after front x y (subst IsAscending is h) less)

pub last_order : (o : Ordering) (xs ys : List Entry) (x y : Entry) → IsAscending xs → IsAscending ys → IsLastOf xs x
    → IsLastOf ys y → IsOrder o x y → IsLastOrder o xs ys
last_order Less xs ys x y h k l m less = (
  λ none. absurd (omega (arith, none, last_some ys y m)),
  λ z n. subst (λ u. AllByRecursion (λ v. IsBelow v u) xs) (last_one m.0 n.0 y z (sym m.1 ∙ n.1))
      (below_last_of xs x y h l less),
)
last_order Equal xs ys x y h k l m same = (x, l, subst (IsLastOf ys) (sym same) m)
last_order Greater xs ys x y h k l m more = (
  last_some xs x l,
  λ z n. subst (λ u. AllByRecursion (λ v. IsBelow v u) ys) (last_one l.0 n.0 x z (sym l.1 ∙ n.1))
      (below_last_of ys y x k m more),
)

pub order_none_first : (xs ys : List Entry) → length xs ≡ 0 → IsLastOrder Less xs ys
order_none_first [] ys none = (λ e. refl, λ y l. tt)
order_none_first (x ∷ xs) ys none = absurd (omega arith)

pub order_none_second : (xs ys : List Entry) → 1 ≤ length xs → length ys ≡ 0 → IsLastOrder Greater xs ys
order_none_second xs [] some none = (some, λ x l. tt)
order_none_second xs (y ∷ ys) some none = absurd (omega arith)

-- ---- the greatest entry leaves

has_last : (xs : List Entry) (x y : Entry) → Has (xs ++ x ∷ []) y ↔ ((x ≡ y) ⊎ Has xs y)
has_last xs x y = (
  λ m. elim (has_either xs (x ∷ []) y m) [
    | inl l ↦ inr l
    | inr r ↦ elim r [ inl same ↦ inl same | inr none ↦ absurd none ]
  ],
  λ m. elim m [ inl same ↦ has_right xs (x ∷ []) y (inl same) | inr l ↦ has_left xs (x ∷ []) y l ],
)

takes_second : (xs ys : List Entry) (z : Entry) → IsAscending xs → IsAscending (ys ++ z ∷ [])
    → AllByRecursion (λ x. IsBelow x z) xs → TakesLast xs (ys ++ z ∷ []) xs ys z
takes_second xs ys z h k below = record {
  first = h;
  second = ascending_left ys (z ∷ []) k;
  above = λ x m. elim m [
    | inl l ↦ of_member (λ u. IsBelow u z) xs x below l
    | inr r ↦ ascending_across ys (z ∷ []) x z k r (inl refl)
  ];
  members = λ x. (
    λ m. elim m [
      | inl l ↦ inr (inl l)
      | inr r ↦ elim ((has_last ys z x).0 r) [ inl same ↦ inl same | inr more ↦ inr (inr more) ]
    ],
    λ m. elim m [
      | inl same ↦ inr ((has_last ys z x).1 (inl same))
      | inr more ↦ elim more [ inl l ↦ inl l | inr r ↦ inr ((has_last ys z x).1 (inr r)) ]
    ],
  );
  fewer = omega (arith, length-append ys (z ∷ []));
}

takes_first : (xs ys : List Entry) (z : Entry) → IsAscending (xs ++ z ∷ []) → IsAscending ys
    → AllByRecursion (λ y. IsBelow y z) ys → TakesLast (xs ++ z ∷ []) ys xs ys z
takes_first xs ys z h k below = record {
  first = ascending_left xs (z ∷ []) h;
  second = k;
  above = λ x m. elim m [
    | inl l ↦ ascending_across xs (z ∷ []) x z h l (inl refl)
    | inr r ↦ of_member (λ u. IsBelow u z) ys x below r
  ];
  members = λ x. (
    λ m. elim m [
      | inl l ↦ elim ((has_last xs z x).0 l) [ inl same ↦ inl same | inr more ↦ inr (inl more) ]
      | inr r ↦ inr (inr r)
    ],
    λ m. elim m [
      | inl same ↦ inl ((has_last xs z x).1 (inl same))
      | inr more ↦ elim more [ inl l ↦ inl ((has_last xs z x).1 (inr l)) | inr r ↦ inr r ]
    ],
  );
  fewer = omega (arith, length-append xs (z ∷ []));
}

takes_both : (xs ys : List Entry) (z : Entry) → IsAscending (xs ++ z ∷ []) → IsAscending (ys ++ z ∷ [])
    → TakesLast (xs ++ z ∷ []) (ys ++ z ∷ []) xs ys z
takes_both xs ys z h k = record {
  first = ascending_left xs (z ∷ []) h;
  second = ascending_left ys (z ∷ []) k;
  above = λ x m. elim m [
    | inl l ↦ ascending_across xs (z ∷ []) x z h l (inl refl)
    | inr r ↦ ascending_across ys (z ∷ []) x z k r (inl refl)
  ];
  members = λ x. (
    λ m. elim m [
      | inl l ↦ elim ((has_last xs z x).0 l) [ inl same ↦ inl same | inr more ↦ inr (inl more) ]
      | inr r ↦ elim ((has_last ys z x).0 r) [ inl same ↦ inl same | inr more ↦ inr (inr more) ]
    ],
    λ m. elim m [
      | inl same ↦ inl ((has_last xs z x).1 (inl same))
      | inr more ↦ elim more [
        | inl l ↦ inl ((has_last xs z x).1 (inr l))
        | inr r ↦ inr ((has_last ys z x).1 (inr r))
      ]
    ],
  );
  fewer = omega (arith, length-append xs (z ∷ []), length-append ys (z ∷ []));
}

none_there : (es : List Entry) → length es ≡ 0 → es ≡ []
none_there [] h = refl
none_there (e ∷ es) h = absurd (omega arith)

-- what a pop of the second list answers
pub popped_second : (xs ys now : List Entry) (o : Option Entry) (n : ℕ) → IsAscending xs → IsAscending ys
    → IsLastOrder Less xs ys → ys ≡ now ++ option_to_list o → (IsSome o ↔ (0 < n)) → n ≡ length ys
    → MatchOption o ((xs ≡ []) × (ys ≡ [])) (TakesLast xs ys xs now)
popped_second xs ys now None n h k order is some size =
    let not : ¬ (0 < n) = λ lt. false≢true (some.1 lt) in
    let none : length ys ≡ 0 = omega (arith, not, size) in (none_there xs (order.0 none), none_there ys none)
popped_second xs ys now (Some z) n h k order is some size =
    subst (λ l. TakesLast xs l xs now z) (sym is)
    (takes_second xs now z h (subst IsAscending is k) (order.1 z (now, is)))

-- and of the first
pub popped_first : (xs ys now : List Entry) (o : Option Entry) (n : ℕ) → IsAscending xs → IsAscending ys
    → IsLastOrder Greater xs ys → xs ≡ now ++ option_to_list o → (IsSome o ↔ (0 < n)) → n ≡ length xs
    → MatchOption o ((xs ≡ []) × (ys ≡ [])) (TakesLast xs ys now ys)
popped_first xs ys now None n h k order is some size = absurd (false≢true (some.1 (omega (arith, order.0, size))))
popped_first xs ys now (Some z) n h k order is some size =
    subst (λ l. TakesLast l ys now ys z) (sym is)
    (takes_first now ys z (subst IsAscending is h) k (order.1 z (now, is)))

-- and of both
pub popped_both : (xs ys xs_now ys_now : List Entry) (o p : Option Entry) (n m : ℕ) → IsAscending xs → IsAscending ys
    → IsLastOrder Equal xs ys → xs ≡ xs_now ++ option_to_list o → (IsSome o ↔ (0 < n)) → n ≡ length xs
    → ys ≡ ys_now ++ option_to_list p → (IsSome p ↔ (0 < m)) → m ≡ length ys
    → MatchOption o ((xs ≡ []) × (ys ≡ [])) (TakesLast xs ys xs_now ys_now)
popped_both xs ys xs_now ys_now None p n m h k order is some size also any long =
    absurd (false≢true (some.1 (omega (arith, last_some xs order.0 order.1, size))))
popped_both xs ys xs_now ys_now (Some z) None n m h k order is some size also any long =
    absurd (false≢true (any.1 (omega (arith, last_some ys order.0 order.2, long))))
popped_both xs ys xs_now ys_now (Some z) (Some u) n m h k order is some size also any long =
    let first : z ≡ order.0 = last_one xs_now order.1.0 z order.0 (sym is ∙ order.1.1) in
    let second : u ≡ order.0 = last_one ys_now order.2.0 u order.0 (sym also ∙ order.2.1) in
    let there : ys ≡ ys_now ++ z ∷ [] = also ∙ ap (λ (e : Entry). ys_now ++ e ∷ []) (second ∙ sym first) in
    subst (λ l. TakesLast l ys xs_now ys_now z) (sym is)
    (subst (λ l. TakesLast (xs_now ++ z ∷ []) l xs_now ys_now z) (sym there)
    (takes_both xs_now ys_now z (subst IsAscending is h) (subst IsAscending there k)))

-- what is so where nothing was popped
pub popped_none : (o : Option Entry) (A : Type 0) (B : Entry → Type 0) → MatchOption o A B
    → ((x : Entry) → ¬ (o ≡ Some x)) → A
popped_none None A B h none = h
popped_none (Some x) A B h none = absurd (none x refl)

-- ---- the merge

-- of two lists these have left, in order, and those are left
pub record IsMerging (xs ys left right done : List Entry) : Type 0 where
  pub first : IsAscending left
  pub second : IsAscending right
  pub sorted : IsAscending done
  pub above : (x y : Entry) → Has left x ⊎ Has right x → Has done y → IsBelow x y
  pub members : (x : Entry) → (Has xs x ⊎ Has ys x) ↔ (Has done x ⊎ (Has left x ⊎ Has right x))

pub merging_first : (xs ys : List Entry) → IsAscending xs → IsAscending ys → IsMerging xs ys xs ys []
merging_first xs ys h k = record {
  first = h;
  second = k;
  sorted = tt;
  above = λ x y m none. absurd none;
  members = λ x. (λ m. inr m, λ m. elim m [ inl none ↦ absurd none | inr more ↦ more ]);
}

pub merging_more : (xs ys left right done left_now right_now : List Entry) (z : Entry)
    → IsMerging xs ys left right done → TakesLast left right left_now right_now z
    → IsMerging xs ys left_now right_now (z ∷ done)
merging_more xs ys left right done left_now right_now z h t = record {
  first = t.first;
  second = t.second;
  sorted = (of_all (IsBelow z) done (λ y m. h.above z y ((t.members z).1 (inl refl)) m), h.sorted);
  above = λ x y m n. elim n [
    | inl same ↦ subst (IsBelow x) same (t.above x m)
    | inr more ↦ h.above x y ((t.members x).1 (inr m)) more
  ];
  members = λ x. (
    λ m. elim ((h.members x).0 m) [
      | inl d ↦ inl (inr d)
      | inr l ↦ elim ((t.members x).0 l) [ inl same ↦ inl (inl same) | inr more ↦ inr more ]
    ],
    λ m. (h.members x).1 (elim m [
      | inl d ↦ elim d [ inl same ↦ inr ((t.members x).1 (inl same)) | inr r ↦ inl r ]
      | inr more ↦ inr ((t.members x).1 (inr more))
    ]),
  );
}

pub merging_pushed : (xs ys left right done left_now right_now now : List Entry) (z : Entry)
    → IsMerging xs ys left right (reverse done) → TakesLast left right left_now right_now z → now ≡ done ++ z ∷ []
    → IsMerging xs ys left_now right_now (reverse now)
merging_pushed xs ys left right done left_now right_now now z h t is =
    subst (IsMerging xs ys left_now right_now) (sym (ap reverse is ∙ reverse-append done (z ∷ [])))
    (merging_more xs ys left right (reverse done) left_now right_now z h t)

pub merged : (xs ys left right done zs : List Entry) → IsArchive ENTRY_MAX xs → IsArchive ENTRY_MAX ys
    → IsMerging xs ys left right done → left ≡ [] → right ≡ [] → zs ≡ done → IsJoined xs ys zs
merged xs ys left right done zs h k merging e f is =
    let none : (x : Entry) → ¬ (Has left x ⊎ Has right x) = λ x m. elim m [
      | inl l ↦ subst (λ l. Has l x) e l
      | inr r ↦ subst (λ l. Has l x) f r
    ] in
    let members : (x : Entry) → Has done x ↔ (Has xs x ⊎ Has ys x) = λ x. (
      λ m. (merging.members x).1 (inl m),
      λ m. elim ((merging.members x).0 m) [ inl d ↦ d | inr l ↦ absurd (none x l) ],
    ) in
    subst (IsJoined xs ys) (sym is) (record {
      archive = archive_union ENTRY_MAX xs ys done h k merging.sorted members;
      members = members;
    })
