-- Laws of selections.
use Rattle.std.proofs.Common.{◌≡◌, ℕ, ◌≤◌, List, [], ◌∷◌, ◌++◌, length, refl, sym, ap, subst, ◌∙◌, append-nil, inl}
use Rattle.std.proofs.Common.{inr, arith}
use Rattle.std.specs.Prelude.{◌⊎◌}
use Rattle.std.proofs.lemmas.List.{length-append}
use Rattle.archive_text.specs.Entries.{Entry, Has, IsAscending, IsBelow, IsEntry}
use Rattle.archive_text.specs.Faults.{IsLongestArchive}
use Rattle.archive_text.specs.Sets.{IsUnionOfEntries}
use Rattle.archive_text.specs.Text.{IsArchive, entry_text, text_of}
use Rattle.archive_text.specs.declared.limits.TheConstants.{ENTRY_MAX}
use Rattle.archive_text.proofs.Ascending.{ascending_across, same_members}
use Rattle.archive_text.proofs.Members.{has_either, has_left, of_all, of_member}
use Rattle.archive_text.proofs.Texts.{GoesOn, one_begins, text_append, text_length, text_some}
use Rattle.archive_text.proofs.Orders.{below_asymmetric, below_irreflexive}
use Rattle.archive_sets.specs.Selections.{IsSelection}

-- there is one selection
pub one_selection : (meets : Entry → Type 0) (xs ys zs : List Entry) → IsSelection meets xs ys → IsSelection meets xs zs
    → ys ≡ zs
one_selection meets xs ys zs s t = same_members ys zs s.ascending t.ascending
    (λ x h. (t.members x).1 ((s.members x).0 h)) (λ x h. (s.members x).1 ((t.members x).0 h))

-- it is an archive
pub selection_archive : (meets : Entry → Type 0) (most : ℕ) (xs ys : List Entry) → IsArchive most xs
    → IsSelection meets xs ys → IsArchive most ys
selection_archive meets most xs ys a s = record {
  ascending = s.ascending;
  entries = of_all IsEntry ys (λ x h. of_member IsEntry xs x a.entries ((s.members x).0 h).0);
  fits = of_all (λ e. length e.octets ≤ most) ys
      (λ x h. of_member (λ e. length e.octets ≤ most) xs x a.fits ((s.members x).0 h).0);
}

-- twice is once
pub selecting_twice : (meets : Entry → Type 0) (xs ys zs : List Entry) → IsSelection meets xs ys
    → IsSelection meets ys zs → zs ≡ ys
selecting_twice meets xs ys zs s t = same_members zs ys t.ascending s.ascending (λ x h. ((t.members x).0 h).0)
    (λ x h. (t.members x).1 (h, ((s.members x).0 h).1))

-- by one condition and then by another
pub selecting_by_both : (P Q : Entry → Type 0) (xs ys zs : List Entry) → IsSelection P xs ys → IsSelection Q ys zs
    → IsSelection (λ e. P e × Q e) xs zs
selecting_by_both P Q xs ys zs s t = record {
  ascending = t.ascending;
  members = λ x. (
    λ h. let k = (t.members x).0 h in let l = (s.members x).0 k.0 in (l.0, (l.1, k.1)),
    λ h. (t.members x).1 ((s.members x).1 (h.0, h.1.0), h.1.1),
  );
}

-- of a union
either_part : (A B C D P : Type 0) → (A × P → C) → (B × P → D) → A ⊎ B → P → C ⊎ D
either_part A B C D P f g (inl a) p = inl (f (a, p))
either_part A B C D P f g (inr b) p = inr (g (b, p))

both_parts : (A B C D P : Type 0) → (C → A × P) → (D → B × P) → C ⊎ D → (A ⊎ B) × P
both_parts A B C D P f g (inl c) = (inl (f c).0, (f c).1)
both_parts A B C D P f g (inr d) = (inr (g d).0, (g d).1)

pub union_selected : (meets : Entry → Type 0) (xs ys zs ps qs rs : List Entry) → IsUnionOfEntries xs ys zs
    → IsSelection meets xs ps → IsSelection meets ys qs → IsSelection meets zs rs → IsUnionOfEntries ps qs rs
union_selected meets xs ys zs ps qs rs u s t v x = (
  λ h.
      let k = (v.members x).0 h in
      either_part (Has xs x) (Has ys x) (Has ps x) (Has qs x) (meets x) (s.members x).1 (t.members x).1
      ((u x).0 k.0) k.1,
  λ h.
      let k = both_parts (Has xs x) (Has ys x) (Has ps x) (Has qs x) (meets x) (s.members x).0 (t.members x).0 h in
      (v.members x).1 ((u x).1 k.0, k.1),
)

pub selected_union : (meets : Entry → Type 0) (xs ys zs ps qs rs : List Entry) → IsUnionOfEntries xs ys zs
    → IsSelection meets xs ps → IsSelection meets ys qs → IsAscending rs → IsUnionOfEntries ps qs rs
    → IsSelection meets zs rs
selected_union meets xs ys zs ps qs rs u s t up v = record {
  ascending = up;
  members = λ x. (
    λ h.
        let k = both_parts (Has xs x) (Has ys x) (Has ps x) (Has qs x) (meets x) (s.members x).0 (t.members x).0
        ((v x).0 h) in
        ((u x).1 k.0, k.1),
    λ h.
        (v x).1 (either_part (Has xs x) (Has ys x) (Has ps x) (Has qs x) (meets x) (s.members x).1 (t.members x).1
        ((u x).0 h.0) h.1),
  );
}

-- ---- what is selected of a beginning

-- an ascending list whose members are the least ones of another begins it
below_head : (w : Entry) (ws : List Entry) (e : Entry) → IsAscending (w ∷ ws) → Has ws e → IsBelow w e
below_head w ws e up h = of_member (IsBelow w) ws e up.0 h

-- of an archive that goes on, the members of its beginning that meet the condition
abbrev pub IsLater : (Entry → Type 0) → List Entry → List Entry → Type 0
IsLater meets ys gs =
    ((e : Entry) → Has ys e → Has gs e)
    × ((e : Entry) → Has gs e → Has ys e ⊎ ((w : Entry) → Has ys w → IsBelow w e))

later_selected : (meets : Entry → Type 0) (xs more ys gs : List Entry) → IsAscending (xs ++ more)
    → IsSelection meets xs ys → IsSelection meets (xs ++ more) gs → IsLater meets ys gs
later_selected meets xs more ys gs up s t = (
  λ e h. let k = (s.members e).0 h in (t.members e).1 (has_left xs more e k.0, k.1),
  λ e h. let k = (t.members e).0 h in place e k.1 (has_either xs more e k.0),
)
  where
    place : (e : Entry) → meets e → Has xs e ⊎ Has more e → Has ys e ⊎ ((w : Entry) → Has ys w → IsBelow w e)
    place e met (inl early) = inl ((s.members e).1 (early, met))
    place e met (inr late) = inr (λ w h. ascending_across xs more w e up ((s.members w).0 h).0 late)

same_head : (w z : Entry) (ws zs : List Entry) → IsAscending (w ∷ ws) → IsAscending (z ∷ zs) → Has (z ∷ zs) w
    → Has (w ∷ ws) z ⊎ ((v : Entry) → Has (w ∷ ws) v → IsBelow v z) → w ≡ z
same_head w z ws zs up above (inl same) there = sym same
same_head w z ws zs up above (inr later) (inl (inl same)) = same
same_head w z ws zs up above (inr later) (inl (inr other)) =
    absurd (below_asymmetric w z (below_head w ws z up other) (below_head z zs w above later))
same_head w z ws zs up above (inr later) (inr all) =
    absurd (below_asymmetric w z (all w (inl refl)) (below_head z zs w above later))

begins : (meets : Entry → Type 0) (ws zs : List Entry) → IsAscending ws → IsAscending zs → IsLater meets ws zs
    → (rest : List Entry) × (zs ≡ ws ++ rest)
begins meets [] zs up above h = (zs, refl)
begins meets (w ∷ ws) [] up above h = absurd (h.0 w (inl refl))
begins meets (w ∷ ws) (z ∷ zs) up above h =
    let same : w ≡ z = same_head w z ws zs up above (h.0 w (inl refl)) (h.1 z (inl refl)) in
    let rest = begins meets ws zs up.1 above.1
    (λ e k. still e k same (h.0 e (inr k)), λ e k. yet e k same (h.1 e (inr k))) in
    (rest.0, ap (λ (k : Entry). k ∷ zs) (sym same) ∙ ap (λ (l : List Entry). w ∷ l) rest.1)
  where
    still : (e : Entry) → Has ws e → w ≡ z → Has (z ∷ zs) e → Has zs e
    still e k same (inr l) = l
    still e k same (inl l) = absurd (below_irreflexive w
        (subst (IsBelow w) (sym l ∙ sym same) (below_head w ws e up k)))

    yet : (e : Entry) → Has zs e → w ≡ z → Has (w ∷ ws) e ⊎ ((v : Entry) → Has (w ∷ ws) v → IsBelow v e)
        → Has ws e ⊎ ((v : Entry) → Has ws v → IsBelow v e)
    yet e k same (inl (inr l)) = inl l
    yet e k same (inl (inl l)) = absurd (below_irreflexive z
        (subst (IsBelow z) (sym l ∙ same) (below_head z zs e above k)))
    yet e k same (inr all) = inr (λ v l. all v (inr l))

-- the longest archive that octets begin with goes on behind each other one
front_goes_on : (given r s : List ℕ) (xs fs : List Entry) → IsArchive ENTRY_MAX xs → given ≡ text_of xs ++ r
    → IsLongestArchive ENTRY_MAX given fs s → (more : List Entry) × (fs ≡ xs ++ more)
front_goes_on given r s xs fs a parts f =
    placed (one_begins ENTRY_MAX ENTRY_MAX xs fs r s (omega arith) (omega arith) a f.archive (sym parts ∙ f.parts))
  where
    shorter : (gs : List Entry) → xs ≡ fs ++ gs → (more : List Entry) × (fs ≡ xs ++ more)
    shorter [] same = ([], sym (append-nil fs) ∙ sym same ∙ sym (append-nil xs))
    shorter (g ∷ gs) same =
        absurd (omega (
          arith,
          f.longest xs r a parts,
          ap (λ (l : List Entry). length (text_of l)) same,
          text_length fs (g ∷ gs),
          length-append (entry_text g) (text_of gs),
          text_some g,
        ))

    placed : GoesOn xs r fs s ⊎ GoesOn fs s xs r → (more : List Entry) × (fs ≡ xs ++ more)
    placed (inl (gs, same, more)) = (gs, same)
    placed (inr (gs, same, more)) = shorter gs same

pub begin_alike : (meets : Entry → Type 0) (given r s : List ℕ) (xs fs ys gs : List Entry) → IsArchive ENTRY_MAX xs
    → given ≡ text_of xs ++ r → IsLongestArchive ENTRY_MAX given fs s → IsSelection meets xs ys
    → IsSelection meets fs gs → (more : List ℕ) × (text_of gs ≡ text_of ys ++ more)
begin_alike meets given r s xs fs ys gs a parts f p q =
    let on = front_goes_on given r s xs fs a parts f in
    let up : IsAscending (xs ++ on.0) = subst IsAscending on.1 f.archive.ascending in
    let rest = begins meets ys gs p.ascending q.ascending
    (later_selected meets xs on.0 ys gs up p (subst (λ (l : List Entry). IsSelection meets l gs) on.1 q)) in
    (text_of rest.0, ap text_of rest.1 ∙ text_append ys rest.0)
