-- Names in turn.
use Rattle.std.proofs.Common.{◌≡◌, ◌⊎◌, ⊎_elim, inl, inr, ℕ, ◌+◌, ◌-◌, ◌<◌, ◌≤◌, List, [], ◌∷◌, ◌++◌, refl, sym, ap, subst}
use Rattle.std.proofs.Common.{◌∙◌, arith, false, length, take}
use Rattle.std.specs.Prelude.{Contains, slice_index_or}
use Rattle.std.specs.List.Sorted.{IsSortedBy}
use Rattle.std.proofs.lemmas.List.{get_or-take, get_or_default, length-take, take_more}
use Rattle.std.proofs.lemmas.List.Elements.{Contains-append_cases, Contains-append_left, Contains-append_right}
use Rattle.std.proofs.lemmas.List.Elements.{Contains-push, Contains-push_cases}
use Rattle.std.proofs.lemmas.List.Sorted.{sorted_far}
use Rattle.store_reading.specs.Order.{is_period_below}
use Rattle.store_reading.proofs.DayOrders.{day_total}
use Rattle.store_reading.proofs.NameOrders.{not_below, orders}
use Rattle.store_expiry.specs.Lines.{AreApart}
use Rattle.store_expiry.specs.Turns.{AreOnce, ArePartedIn}
use Rattle.store_expiry.proofs.Apart.{both_apart, none_there, one_apart, one_there}

-- ---- a name that is the same as the one before it

-- none is below the other
same_of : (a b : List ℕ) → is_period_below a b ≡ false → is_period_below b a ≡ false → a ≡ b
same_of a b one other = elim (day_total a b) [
  | inl below ↦ absurd (not_below a b one below)
  | inr (inl same) ↦ same
  | inr (inr above) ↦ absurd (not_below b a other above)
]

pub before_there : (names : List (List ℕ)) (at : ℕ) (name : List ℕ) → 0 < at → at < length names
    → slice_index_or names (at - 1) [] ≡ name → Contains (take at names) name
before_there names at name some inside is = (
  at - 1,
  omega (arith, some, inside, length-take at names),
  get_or-take at names (at - 1) name (omega (arith, some))
      ∙ get_or_default names (at - 1) name [] (omega (arith, some, inside)) ∙ is,
)

-- in an order it is the only one that can be
pub not_before : (names : List (List ℕ)) (at : ℕ) → IsSortedBy is_period_below names → at < length names
    → (0 < at → slice_index_or names (at - 1) [] ≡ slice_index_or names at [] → ⊥)
    → ¬ (Contains (take at names) (slice_index_or names at []))
not_before names at up inside differs (k, below, found) =
    let name = slice_index_or names at [] in
    let near : k < at = omega (arith, below, length-take at names) in
    let is : slice_index_or names k [] ≡ name =
    get_or_default names k [] name (omega (arith, near, inside)) ∙ sym (get_or-take at names k name near) ∙ found in
    let low : is_period_below (slice_index_or names (at - 1) []) name ≡ false =
    subst (λ (n : List ℕ). is_period_below (slice_index_or names (at - 1) []) n ≡ false) is
    (sorted_far is_period_below (orders (λ (n : List ℕ). n)) names up k (at - 1) [] (omega (arith, near))
    (omega (arith, near, inside))) in
    let high : is_period_below name (slice_index_or names (at - 1) []) ≡ false =
    sorted_far is_period_below (orders (λ (n : List ℕ). n)) names up (at - 1) at [] (omega arith) inside in
    differs (omega (arith, near)) (same_of (slice_index_or names (at - 1) []) name low high)

-- what was found of the two
module _ (names : List (List ℕ)) (at : ℕ) (a b : List ℕ) (some : at ≡ 0 → ⊥) (inside : at < length names)
    (a_is : a ≡ slice_index_or names (at - 1) a) (b_is : b ≡ slice_index_or names at b) where
  pub repeated : a ≡ b → Contains (take at names) (slice_index_or names at [])
  repeated same =
      before_there names at (slice_index_or names at []) (omega (arith, some)) inside
      (get_or_default names (at - 1) [] a (omega (arith, inside)) ∙ sym a_is ∙ same ∙ b_is
      ∙ get_or_default names at b [] inside)

  pub not_repeated : (a ≡ b → ⊥) → IsSortedBy is_period_below names
      → ¬ (Contains (take at names) (slice_index_or names at []))
  not_repeated differs up =
      not_before names at up inside
      (λ first is. differs (a_is ∙ get_or_default names (at - 1) a [] (omega (arith, inside)) ∙ is
      ∙ get_or_default names at [] b inside ∙ sym b_is))

-- ---- each once

pub once_none : AreOnce [] []
once_none = record {
  all = λ name has. has;
  only = λ name has. has;
  apart = tt;
}

module _ (names each : List (List ℕ)) (at : ℕ) (inside : at < length names) (once : AreOnce (take at names) each) where
  abbrev next : List ℕ
  next = slice_index_or names at []

  more : take (at + 1) names ≡ take at names ++ next ∷ []
  more = take_more names at [] inside

  pub once_still : Contains (take at names) next → AreOnce (take (at + 1) names) each
  once_still there = record {
    all = λ name has. ⊎_elim
        (λ before. once.all name before)
        (λ is. subst (Contains each) is (once.all next there))
        (Contains-push_cases (take at names) next name (subst (λ (l : List (List ℕ)). Contains l name) more has));
    only = λ name has. subst (λ (l : List (List ℕ)). Contains l name) (sym more)
        (Contains-append_left (take at names) (next ∷ []) name (once.only name has));
    apart = once.apart;
  }

  pub once_more : ¬ (Contains (take at names) next) → AreOnce (take (at + 1) names) (each ++ next ∷ [])
  once_more new = record {
    all = λ name has. ⊎_elim
        (λ before. Contains-append_left each (next ∷ []) name (once.all name before))
        (λ is. subst (Contains (each ++ next ∷ [])) is (Contains-push each next))
        (Contains-push_cases (take at names) next name (subst (λ (l : List (List ℕ)). Contains l name) more has));
    only = λ name has. subst (λ (l : List (List ℕ)). Contains l name) (sym more)
        (⊎_elim
        (λ before. Contains-append_left (take at names) (next ∷ []) name (once.only name before))
        (λ is. subst (Contains (take at names ++ next ∷ [])) is (Contains-push (take at names) next))
        (Contains-push_cases each next name has));
    apart = both_apart each (next ∷ []) once.apart (one_apart next)
        (λ name has last. new (subst (Contains (take at names)) (one_there next name last) (once.only name has)));
  }

-- ---- days and others

module _ (names days others : List (List ℕ)) (last : List ℕ) (new : ¬ (Contains names last))
    (parted : ArePartedIn names days others) where
  pub day_more : ArePartedIn (names ++ last ∷ []) (days ++ last ∷ []) others
  day_more = record {
    all = λ name has. elim (Contains-push_cases names last name has) [
      | inl before ↦ ⊎_elim
          (λ day. inl (Contains-append_left days (last ∷ []) name day))
          (λ other. inr other)
          (parted.all name before)
      | inr is ↦ inl (subst (Contains (days ++ last ∷ [])) is (Contains-push days last))
    ];
    only = λ name has. elim has [
      | inl day ↦ ⊎_elim
          (λ before. Contains-append_left names (last ∷ []) name (parted.only name (inl before)))
          (λ is. subst (Contains (names ++ last ∷ [])) is (Contains-push names last))
          (Contains-push_cases days last name day)
      | inr other ↦ Contains-append_left names (last ∷ []) name (parted.only name (inr other))
    ];
    days_apart = both_apart days (last ∷ []) parted.days_apart (one_apart last)
        (λ name has is. new (subst (Contains names) (one_there last name is) (parted.only name (inl has))));
    others_apart = parted.others_apart;
    apart = λ name day other. ⊎_elim
        (λ before. parted.apart name before other)
        (λ is. new (subst (Contains names) (sym is) (parted.only name (inr other))))
        (Contains-push_cases days last name day);
  }

  pub other_more : ArePartedIn (names ++ last ∷ []) days (others ++ last ∷ [])
  other_more = record {
    all = λ name has. elim (Contains-push_cases names last name has) [
      | inl before ↦ ⊎_elim
          (λ day. inl day)
          (λ other. inr (Contains-append_left others (last ∷ []) name other))
          (parted.all name before)
      | inr is ↦ inr (subst (Contains (others ++ last ∷ [])) is (Contains-push others last))
    ];
    only = λ name has. elim has [
      | inl day ↦ Contains-append_left names (last ∷ []) name (parted.only name (inl day))
      | inr other ↦ ⊎_elim
          (λ before. Contains-append_left names (last ∷ []) name (parted.only name (inr before)))
          (λ is. subst (Contains (names ++ last ∷ [])) is (Contains-push names last))
          (Contains-push_cases others last name other)
    ];
    days_apart = parted.days_apart;
    others_apart = both_apart others (last ∷ []) parted.others_apart (one_apart last)
        (λ name has is. new (subst (Contains names) (one_there last name is) (parted.only name (inr has))));
    apart = λ name day other. ⊎_elim
        (λ before. parted.apart name day before)
        (λ is. new (subst (Contains names) (sym is) (parted.only name (inl day))))
        (Contains-push_cases others last name other);
  }

pub parted_none : ArePartedIn [] [] []
parted_none = record {
  all = λ name has. inl has;
  only = λ name has. ⊎_elim (λ day. day) (λ other. other) has;
  days_apart = tt;
  others_apart = tt;
  apart = λ name day other. none_there name day;
}

pub parted_all : (names days others : List (List ℕ)) → ArePartedIn names days others → (name : List ℕ)
    → Contains names name → Contains (days ++ others) name
parted_all names days others parted name has = ⊎_elim
    (λ day. Contains-append_left days others name day)
    (λ other. Contains-append_right days others name other)
    (parted.all name has)

pub parted_apart : (names days others : List (List ℕ)) → ArePartedIn names days others → AreApart (days ++ others)
parted_apart names days others parted =
    both_apart days others parted.days_apart parted.others_apart parted.apart

-- ---- all of it

module _ (names sorted first each second none nought days others third turns : List (List ℕ))
    (first_is : first ≡ sorted) (second_is : second ≡ each) (third_is : third ≡ others) (none_is : none ≡ [])
    (nought_is : nought ≡ []) (up : IsSortedBy is_period_below sorted)
    (all : (name : List ℕ) → Contains names name → Contains sorted name)
    (once : IsSortedBy is_period_below first → AreOnce first each)
    (part : AreApart second → ArePartedIn [] none nought → ArePartedIn second days others)
    (turns_is : turns ≡ days ++ third) where
  each_once : AreOnce sorted each
  each_once =
      subst (λ (l : List (List ℕ)). AreOnce l each) first_is
      (once (subst (IsSortedBy is_period_below) (sym first_is) up))

  parted : ArePartedIn each days others
  parted =
      subst (λ (l : List (List ℕ)). ArePartedIn l days others) second_is
      (part (subst AreApart (sym second_is) each_once.apart)
      (subst (λ (l : List (List ℕ)). ArePartedIn [] l nought) (sym none_is)
      (subst (ArePartedIn [] []) (sym nought_is) parted_none)))

  turns_are : turns ≡ days ++ others
  turns_are = turns_is ∙ ap (λ (l : List (List ℕ)). days ++ l) third_is

  pub turns_all : (name : List ℕ) → Contains names name → Contains turns name
  turns_all name has =
      subst (λ (l : List (List ℕ)). Contains l name) (sym turns_are)
      (parted_all each days others parted name (each_once.all name (all name has)))

  pub turns_apart : AreApart turns
  turns_apart = subst AreApart (sym turns_are) (parted_apart each days others parted)
