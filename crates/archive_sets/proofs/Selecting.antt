-- What is selected of an archive, entry by entry.
use Rattle.std.proofs.Common.{◌≤◌, List, [], ◌∷◌, ◌++◌, length, sym, subst, arith, inl, inr}
use Rattle.std.specs.Prelude.{◌⊎◌}
use Rattle.std.proofs.lemmas.List.{length-append}
use Rattle.archive_text.specs.Entries.{Entry, Has, IsAscending, IsBelow}
use Rattle.archive_text.specs.Text.{entry_text, text_of}
use Rattle.archive_text.proofs.Ascending.{ascending_appended, below_last}
use Rattle.archive_text.proofs.Members.{has_either, has_left, has_right, of_all, of_member}
use Rattle.archive_text.proofs.Texts.{text_some}
use Rattle.archive_sets.specs.Selections.{IsSelection}

-- of no entries none is selected
pub selection_nil : (meets : Entry → Type 0) → IsSelection meets [] []
selection_nil meets = record { ascending = tt; members = λ e. (λ h. absurd h, λ h. absurd h.0) }

-- one entry more, which does not meet the condition
pub selection_passes : (meets : Entry → Type 0) (xs ys : List Entry) (e : Entry) → IsSelection meets xs ys → ¬ (meets e)
    → IsSelection meets (xs ++ e ∷ []) ys
selection_passes meets xs ys e s fails = record {
  ascending = s.ascending;
  members = λ x. (
    λ h. (has_left xs (e ∷ []) x ((s.members x).0 h).0, ((s.members x).0 h).1),
    λ h. met x h.1 (has_either xs (e ∷ []) x h.0),
  );
}
  where
    met : (x : Entry) → meets x → Has xs x ⊎ Has (e ∷ []) x → Has ys x
    met x h (inl early) = (s.members x).1 (early, h)
    met x h (inr (inl same)) = absurd (fails (subst meets (sym same) h))
    met x h (inr (inr none)) = absurd none

-- one that meets it
pub selection_takes : (meets : Entry → Type 0) (xs ys : List Entry) (e : Entry) → IsAscending (xs ++ e ∷ [])
    → IsSelection meets xs ys → meets e → IsSelection meets (xs ++ e ∷ []) (ys ++ e ∷ [])
selection_takes meets xs ys e up s meet = record {
  ascending = ascending_appended ys e s.ascending (of_all (λ x. IsBelow x e) ys (λ x h.
      of_member (λ y. IsBelow y e) xs x (below_last xs e up) ((s.members x).0 h).0));
  members = λ x. (λ h. taken x (has_either ys (e ∷ []) x h), λ h. met x h.1 (has_either xs (e ∷ []) x h.0));
}
  where
    taken : (x : Entry) → Has ys x ⊎ Has (e ∷ []) x → Has (xs ++ e ∷ []) x × meets x
    taken x (inl early) = (has_left xs (e ∷ []) x ((s.members x).0 early).0, ((s.members x).0 early).1)
    taken x (inr (inl same)) = (has_right xs (e ∷ []) x (inl same), subst meets same meet)
    taken x (inr (inr none)) = absurd none

    met : (x : Entry) → meets x → Has xs x ⊎ Has (e ∷ []) x → Has (ys ++ e ∷ []) x
    met x h (inl early) = has_left ys (e ∷ []) x ((s.members x).1 (early, h))
    met x h (inr late) = has_right ys (e ∷ []) x late

-- entries are no more than the octets of their text
pub no_more_than_octets : (ys : List Entry) → length ys ≤ length (text_of ys)
no_more_than_octets [] = omega arith
no_more_than_octets (y ∷ ys) = omega (
  arith,
  no_more_than_octets ys,
  text_some y,
  length-append (entry_text y) (text_of ys),
)
