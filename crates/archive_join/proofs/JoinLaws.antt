-- Laws of what is kept of archives.
use Rattle.std.proofs.Common.{◌≡◌, ◌∙◌, ℕ, ◌≤◌, Bool, true, false, List, [], ◌∷◌, ◌++◌, length, refl, sym, ap, subst, inl, inr, true≢false}
use Rattle.std.specs.Prelude.{◌⊎◌, ◌↔◌}
use Rattle.std.specs.List.{AllByRecursion}
use Rattle.std.proofs.lemmas.Bool.{false≢true}
use Rattle.std.proofs.lemmas.Bool.Decides.{not_from_Decides}
use Rattle.std.proofs.lemmas.Grind.{flat_map-append}
use Rattle.archive_text.specs.Entries.{Entry, Has, IsAscending, IsEntry}
use Rattle.archive_text.specs.Text.{IsArchive}
use Rattle.archive_text.proofs.Ascending.{same_members}
use Rattle.archive_text.proofs.Members.{of_all, of_member}
use Rattle.archive_streams.specs.Joining.{IsUnion, IsWithin}
use Rattle.archive_streams.proofs.Joining.{AllBelow, initial, above_within, within_or_not}
use Rattle.archive_sets.specs.Selections.{IsSelection}
use Rattle.archive_join.specs.Holders.{AreKept, AreKeptUpTo, has_entry, holders, IsHeld, kept_text}
use Rattle.archive_join.specs.Keeping.{DoAllHave, HasFirstAlone, HasOneOfTwo}
use Rattle.archive_join.proofs.Holders.{has_decides, has_not}

-- ---- whatever is kept

pub one_list : (keeps : List Bool → Type 0) (xss : List (List Entry)) (ys zs : List Entry) → AreKept keeps xss ys
    → AreKept keeps xss zs → ys ≡ zs
one_list keeps xss ys zs k l = same_members ys zs k.ascending l.ascending
    (λ e h. (l.members e).1 ((k.members e).0 h)) (λ e h. (k.members e).1 ((l.members e).0 h))

held_in : (P : Entry → Type 0) (xss : List (List Entry)) (e : Entry) → AllByRecursion (AllByRecursion P) xss
    → IsHeld xss e → P e
held_in P [] e all h = absurd h
held_in P (xs ∷ xss) e all (inl h) = of_member P xs e all.0 h
held_in P (xs ∷ xss) e all (inr h) = held_in P xss e all.1 h

all_entries : (most : ℕ) (xss : List (List Entry)) → AllByRecursion (IsArchive most) xss
    → AllByRecursion (AllByRecursion IsEntry) xss
all_entries most [] all = tt
all_entries most (xs ∷ xss) all = (all.0.entries, all_entries most xss all.1)

all_fit : (most : ℕ) (xss : List (List Entry)) → AllByRecursion (IsArchive most) xss
    → AllByRecursion (AllByRecursion (λ (e : Entry). length e.octets ≤ most)) xss
all_fit most [] all = tt
all_fit most (xs ∷ xss) all = (all.0.fits, all_fit most xss all.1)

pub kept_archive : (keeps : List Bool → Type 0) (most : ℕ) (xss : List (List Entry)) (ys : List Entry)
    → AllByRecursion (IsArchive most) xss → AreKept keeps xss ys → IsArchive most ys
kept_archive keeps most xss ys all k = record {
  ascending = k.ascending;
  entries = of_all IsEntry ys (λ e h. held_in IsEntry xss e (all_entries most xss all) ((k.members e).0 h).0);
  fits = of_all (λ (e : Entry). length e.octets ≤ most) ys
      (λ e h. held_in (λ (x : Entry). length x.octets ≤ most) xss e (all_fit most xss all) ((k.members e).0 h).0);
}

pub begins_alike : (keeps : List Bool → Type 0) (text : List Bool → Entry → List ℕ) (xss : List (List Entry))
    (bound ys zs : List Entry) → AreKeptUpTo keeps xss bound ys → AreKept keeps xss zs
    → (more : List ℕ) × (kept_text text xss zs ≡ kept_text text xss ys ++ more)
begins_alike keeps text xss bound ys zs u k =
    let rest = initial ys zs u.ascending k.ascending
    (λ e h. let m = (u.members e).0 h in (k.members e).1 (m.0, m.2))
    (λ e h. place e ((k.members e).0 h) (within_or_not bound e)) in (
      kept_text text xss rest.0,
      ap (kept_text text xss) rest.1 ∙ flat_map-append (λ (e : Entry). text (holders xss e) e) ys rest.0,
    )
  where
    place : (e : Entry) → IsHeld xss e × keeps (holders xss e) → IsWithin bound e ⊎ ¬ (IsWithin bound e)
        → Has ys e ⊎ AllBelow ys e
    place e has (inl within) = inl ((u.members e).1 (has.0, within, has.1))
    place e has (inr out) = inr (λ w h. above_within bound e w out ((u.members w).0 h).1)

-- ---- unions

abbrev pub IsKeptAlways : List Bool → Type 0
IsKeptAlways have = Unit {0}

pub union_of_two : (xs ys zs : List Entry) → AreKept IsKeptAlways (xs ∷ ys ∷ []) zs ↔ IsUnion xs ys zs
union_of_two xs ys zs = (
  λ k. record {
    ascending = k.ascending;
    members = λ e. (λ h. there e ((k.members e).0 h).0, λ h. (k.members e).1 (back e h, tt));
  },
  λ u. record {
    ascending = u.ascending;
    members = λ e. (λ h. (back e ((u.members e).0 h), tt), λ h. (u.members e).1 (there e h.0));
  },
)
  where
    there : (e : Entry) → IsHeld (xs ∷ ys ∷ []) e → Has xs e ⊎ Has ys e
    there e (inl h) = inl h
    there e (inr (inl h)) = inr h
    there e (inr (inr h)) = absurd h

    back : (e : Entry) → Has xs e ⊎ Has ys e → IsHeld (xs ∷ ys ∷ []) e
    back e (inl h) = inl h
    back e (inr h) = inr (inl h)

pub one_union : (xss yss : List (List Entry)) (zs ws : List Entry) → ((e : Entry) → IsHeld xss e ↔ IsHeld yss e)
    → AreKept IsKeptAlways xss zs → AreKept IsKeptAlways yss ws → zs ≡ ws
one_union xss yss zs ws same k l = same_members zs ws k.ascending l.ascending
    (λ e h. (l.members e).1 ((same e).0 ((k.members e).0 h).0, tt))
    (λ e h. (k.members e).1 ((same e).1 ((l.members e).0 h).0, tt))

pub held_left : (xss yss : List (List Entry)) (e : Entry) → IsHeld xss e → IsHeld (xss ++ yss) e
held_left [] yss e h = absurd h
held_left (xs ∷ xss) yss e (inl h) = inl h
held_left (xs ∷ xss) yss e (inr h) = inr (held_left xss yss e h)

pub held_right : (xss yss : List (List Entry)) (e : Entry) → IsHeld yss e → IsHeld (xss ++ yss) e
held_right [] yss e h = h
held_right (xs ∷ xss) yss e h = inr (held_right xss yss e h)

pub held_either : (xss yss : List (List Entry)) (e : Entry) → IsHeld (xss ++ yss) e → IsHeld xss e ⊎ IsHeld yss e
held_either [] yss e h = inr h
held_either (xs ∷ xss) yss e (inl h) = inl (inl h)
held_either (xs ∷ xss) yss e (inr h) = elim (held_either xss yss e h) [ inl k ↦ inl (inr k) | inr k ↦ inr k ]

turned : (xss yss : List (List Entry)) (e : Entry) → IsHeld (xss ++ yss) e → IsHeld (yss ++ xss) e
turned xss yss e h =
    elim (held_either xss yss e h) [ inl k ↦ held_right yss xss e k | inr k ↦ held_left yss xss e k ]

pub union_order : (xss yss : List (List Entry)) (zs ws : List Entry) → AreKept IsKeptAlways (xss ++ yss) zs
    → AreKept IsKeptAlways (yss ++ xss) ws → zs ≡ ws
union_order xss yss zs ws = one_union (xss ++ yss) (yss ++ xss) zs ws (λ e. (turned xss yss e, turned yss xss e))

pub union_grouping : (xss yss : List (List Entry)) (ps qs zs ws : List Entry) → AreKept IsKeptAlways xss ps
    → AreKept IsKeptAlways yss qs → AreKept IsKeptAlways (ps ∷ qs ∷ []) zs → AreKept IsKeptAlways (xss ++ yss) ws
    → zs ≡ ws
union_grouping xss yss ps qs zs ws k l = one_union (ps ∷ qs ∷ []) (xss ++ yss) zs ws (λ e. (there e, back e))
  where
    there : (e : Entry) → IsHeld (ps ∷ qs ∷ []) e → IsHeld (xss ++ yss) e
    there e (inl h) = held_left xss yss e ((k.members e).0 h).0
    there e (inr (inl h)) = held_right xss yss e ((l.members e).0 h).0
    there e (inr (inr h)) = absurd h

    back : (e : Entry) → IsHeld (xss ++ yss) e → IsHeld (ps ∷ qs ∷ []) e
    back e h =
        elim (held_either xss yss e h) [ inl m ↦ inl ((k.members e).1 (m, tt)) | inr m ↦ inr (inl ((l.members e).1 (m, tt))) ]

-- ---- what two archives have in common, and what one has alone

common_of : (xs ys cs : List Entry) (e : Entry) → AreKept DoAllHave (xs ∷ ys ∷ []) cs → Has cs e → Has xs e × Has ys e
common_of xs ys cs e k h =
    let m = ((k.members e).0 h).1 in ((has_decides xs e).0 m.0, (has_decides ys e).0 m.1.0)

common_has : (xs ys : List Entry) (e : Entry) → Has xs e → Has ys e
    → IsHeld (xs ∷ ys ∷ []) e × DoAllHave (holders (xs ∷ ys ∷ []) e)
common_has xs ys e h k = (inl h, ((has_decides xs e).1 h, ((has_decides ys e).1 k, tt)))

minus_of : (xs ys ms : List Entry) (e : Entry) → AreKept HasFirstAlone (xs ∷ ys ∷ []) ms → Has ms e
    → Has xs e × ¬ (Has ys e)
minus_of xs ys ms e k h =
    let m = ((k.members e).0 h).1 in
    ((has_decides xs e).0 m.0, not_from_Decides (has_entry ys e) (has_decides ys e) m.1.0)

minus_has : (xs ys : List Entry) (e : Entry) → Has xs e → ¬ (Has ys e)
    → IsHeld (xs ∷ ys ∷ []) e × HasFirstAlone (holders (xs ∷ ys ∷ []) e)
minus_has xs ys e h none = (inl h, ((has_decides xs e).1 h, (has_not ys e none, tt)))

decided : (ys : List Entry) (e : Entry) → Has ys e ⊎ ¬ (Has ys e)
decided ys e = go (has_entry ys e) (has_decides ys e)
  where
    go : (b : Bool) → (b ≡ true → Has ys e) × (Has ys e → b ≡ true) → Has ys e ⊎ ¬ (Has ys e)
    go true d = inl (d.0 refl)
    go false d = inr (λ h. false≢true (d.1 h))

pub parts_disjoint : (xs ys cs ms : List Entry) (e : Entry) → AreKept DoAllHave (xs ∷ ys ∷ []) cs
    → AreKept HasFirstAlone (xs ∷ ys ∷ []) ms → Has cs e → ¬ (Has ms e)
parts_disjoint xs ys cs ms e k l h m = (minus_of xs ys ms e l m).1 (common_of xs ys cs e k h).1

pub parts_union : (xs ys cs ms : List Entry) → IsAscending xs → AreKept DoAllHave (xs ∷ ys ∷ []) cs
    → AreKept HasFirstAlone (xs ∷ ys ∷ []) ms → IsUnion cs ms xs
parts_union xs ys cs ms up k l = record {
  ascending = up;
  members = λ e. (λ h. there e h (decided ys e), λ h. back e h);
}
  where
    there : (e : Entry) → Has xs e → Has ys e ⊎ ¬ (Has ys e) → Has cs e ⊎ Has ms e
    there e h (inl too) = inl ((k.members e).1 (common_has xs ys e h too))
    there e h (inr not) = inr ((l.members e).1 (minus_has xs ys e h not))

    back : (e : Entry) → Has cs e ⊎ Has ms e → Has xs e
    back e (inl h) = (common_of xs ys cs e k h).0
    back e (inr h) = (minus_of xs ys ms e l h).0

-- ---- equal archives

none_alone : (xs ys : List Entry) (e : Entry) → AreKept HasFirstAlone (xs ∷ ys ∷ []) [] → Has xs e → Has ys e
none_alone xs ys e k h = elim (decided ys e) [ inl too ↦ too | inr not ↦ absurd ((k.members e).1 (minus_has xs ys e h not)) ]

all_too : (xs ys : List Entry) → ((e : Entry) → Has xs e → Has ys e) → AreKept HasFirstAlone (xs ∷ ys ∷ []) []
all_too xs ys all = record {
  ascending = tt;
  members = λ e. (
    λ h. absurd h,
    λ h.
        not_from_Decides (has_entry ys e) (has_decides ys e) h.1.1.0 (all e ((has_decides xs e).0 h.1.0)),
  );
}

pub equal_minus : (xs ys : List Entry) → IsAscending xs → IsAscending ys
    → (AreKept HasFirstAlone (xs ∷ ys ∷ []) [] × AreKept HasFirstAlone (ys ∷ xs ∷ []) []) ↔ (xs ≡ ys)
equal_minus xs ys up also = (
  λ both. same_members xs ys up also (λ e h. none_alone xs ys e both.0 h) (λ e h. none_alone ys xs e both.1 h),
  λ same. (
    all_too xs ys (λ e h. subst (λ (l : List Entry). Has l e) same h),
    all_too ys xs (λ e h. subst (λ (l : List Entry). Has l e) (sym same) h),
  ),
)

one_alone : (a b : Bool) → HasOneOfTwo (a ∷ b ∷ []) → ¬ (a ≡ b)
one_alone true true one same = one
one_alone true false one same = true≢false same
one_alone false true one same = false≢true same
one_alone false false one same = one

alone_one : (a b : Bool) → ¬ (a ≡ b) → HasOneOfTwo (a ∷ b ∷ [])
alone_one true true differ = differ refl
alone_one true false differ = tt
alone_one false true differ = tt
alone_one false false differ = differ refl

-- where neither differs, what one has the other has
no_difference : (xs ys : List Entry) (e : Entry) → AreKept HasOneOfTwo (xs ∷ ys ∷ []) []
    → (Has xs e → Has ys e) × (Has ys e → Has xs e)
no_difference xs ys e k = (λ h. forth h (decided ys e), λ h. back h (decided xs e))
  where
    forth : Has xs e → Has ys e ⊎ ¬ (Has ys e) → Has ys e
    forth h (inl too) = too
    forth h (inr not) =
        absurd ((k.members e).1 (
          inl h,
          alone_one (has_entry xs e) (has_entry ys e)
              (λ same. not ((has_decides ys e).0 (sym same ∙ (has_decides xs e).1 h))),
        ))

    back : Has ys e → Has xs e ⊎ ¬ (Has xs e) → Has xs e
    back h (inl too) = too
    back h (inr not) =
        absurd ((k.members e).1 (
          inr (inl h),
          alone_one (has_entry xs e) (has_entry ys e)
              (λ same. not ((has_decides xs e).0 (same ∙ (has_decides ys e).1 h))),
        ))

pub equal_diff : (xs ys : List Entry) → IsAscending xs → IsAscending ys
    → AreKept HasOneOfTwo (xs ∷ ys ∷ []) [] ↔ (xs ≡ ys)
equal_diff xs ys up also = (
  λ k. same_members xs ys up also (λ e h. (no_difference xs ys e k).0 h) (λ e h. (no_difference xs ys e k).1 h),
  λ same. record {
    ascending = tt;
    members = λ e. (
      λ h. absurd h,
      λ h.
          one_alone (has_entry xs e) (has_entry ys e) h.1 (ap (λ (l : List Entry). has_entry l e) same),
    );
  },
)

-- ---- what is selected of them

pub common_selected : (meets : Entry → Type 0) (xs ys zs ps qs rs : List Entry) → AreKept DoAllHave (xs ∷ ys ∷ []) zs
    → IsSelection meets xs ps → IsSelection meets ys qs → IsSelection meets zs rs → AreKept DoAllHave (ps ∷ qs ∷ []) rs
common_selected meets xs ys zs ps qs rs k s t u = record {
  ascending = u.ascending;
  members = λ e. (λ h. there e ((u.members e).0 h), λ h. back e ((has_decides ps e).0 h.1.0) ((has_decides qs e).0 h.1.1.0));
}
  where
    there : (e : Entry) → Has zs e × meets e → IsHeld (ps ∷ qs ∷ []) e × DoAllHave (holders (ps ∷ qs ∷ []) e)
    there e (h, met) =
        let both = common_of xs ys zs e k h in
        common_has ps qs e ((s.members e).1 (both.0, met)) ((t.members e).1 (both.1, met))

    back : (e : Entry) → Has ps e → Has qs e → Has rs e
    back e p q =
        let x = (s.members e).0 p in
        (u.members e).1 ((k.members e).1 (common_has xs ys e x.0 ((t.members e).0 q).0), x.1)

pub minus_selected : (meets : Entry → Type 0) (xs ys zs ps qs rs : List Entry) → AreKept HasFirstAlone (xs ∷ ys ∷ []) zs
    → IsSelection meets xs ps → IsSelection meets ys qs → IsSelection meets zs rs
    → AreKept HasFirstAlone (ps ∷ qs ∷ []) rs
minus_selected meets xs ys zs ps qs rs k s t u = record {
  ascending = u.ascending;
  members = λ e. (
    λ h. there e ((u.members e).0 h),
    λ h. back e ((has_decides ps e).0 h.1.0) (not_from_Decides (has_entry qs e) (has_decides qs e) h.1.1.0),
  );
}
  where
    there : (e : Entry) → Has zs e × meets e → IsHeld (ps ∷ qs ∷ []) e × HasFirstAlone (holders (ps ∷ qs ∷ []) e)
    there e (h, met) =
        let one = minus_of xs ys zs e k h in
        minus_has ps qs e ((s.members e).1 (one.0, met)) (λ q. one.1 ((t.members e).0 q).0)

    back : (e : Entry) → Has ps e → ¬ (Has qs e) → Has rs e
    back e p none =
        let x = (s.members e).0 p in
        (u.members e).1 ((k.members e).1 (minus_has xs ys e x.0 (λ y. none ((t.members e).1 (y, x.1)))), x.1)
