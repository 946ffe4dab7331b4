-- The leaves of an archive.
use Rattle.std.proofs.Common.{◌≡◌, ℕ, suc, List, [], ◌∷◌, ◌++◌, length, refl, ap}
use Rattle.archive_text.specs.Entries.{Entry}
use Rattle.archive_tree.specs.Archives.{texts_of}

pub count_of_texts : (xs : List Entry) → length (texts_of xs) ≡ length xs
count_of_texts [] = refl
count_of_texts (x ∷ xs) = ap (λ (n : ℕ). suc n) (count_of_texts xs)

pub texts_append : (xs : List Entry) (e : Entry) → texts_of (xs ++ e ∷ []) ≡ texts_of xs ++ e.octets ∷ []
texts_append [] e = refl
texts_append (x ∷ xs) e = ap (λ (l : List (List ℕ)). x.octets ∷ l) (texts_append xs e)
