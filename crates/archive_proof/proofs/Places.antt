-- Where entries stand.
use Rattle.std.proofs.Common.{◌≡◌, ℕ, zero, suc, ◌+◌, ◌<◌, inl, inr, List, [], ◌∷◌, ◌++◌, length, sym, ap, subst}
use Rattle.std.proofs.Common.{◌∙◌, arith}
use Rattle.std.specs.List.{AllByRecursion}
use Rattle.archive_text.specs.Entries.{Entry, Has, IsAscending, IsBelow, IsEntry}
use Rattle.archive_text.proofs.Members.{of_member}
use Rattle.archive_text.proofs.Orders.{below_asymmetric, below_differ}
use Rattle.archive_text.proofs.Texts.{same_octets}
use Rattle.archive_tree.specs.Archives.{texts_of}
use Rattle.archive_proof.specs.Entries.{IsAt, IsEntryAt}

pub at_left : (xs ys : List (List ℕ)) (i : ℕ) (e : List ℕ) → IsAt xs i e → IsAt (xs ++ ys) i e
at_left [] ys i e h = absurd h
at_left (x ∷ xs) ys zero e h = h
at_left (x ∷ xs) ys (suc i) e h = at_left xs ys i e h

pub at_right : (xs ys : List (List ℕ)) (i j : ℕ) (e : List ℕ) → i ≡ length xs + j → IsAt ys j e → IsAt (xs ++ ys) i e
at_right [] ys i j e same h = let k : j ≡ i = omega arith in subst (λ (n : ℕ). IsAt ys n e) k h
at_right (x ∷ xs) ys zero j e same h = absurd (omega arith)
at_right (x ∷ xs) ys (suc i) j e same h = at_right xs ys i j e (omega arith) h

pub at_in_left : (xs ys : List (List ℕ)) (i : ℕ) (e : List ℕ) → i < length xs → IsAt (xs ++ ys) i e → IsAt xs i e
at_in_left [] ys i e here h = absurd (omega arith)
at_in_left (x ∷ xs) ys zero e here h = h
at_in_left (x ∷ xs) ys (suc i) e here h = at_in_left xs ys i e (omega arith) h

pub at_in_right : (xs ys : List (List ℕ)) (i j : ℕ) (e : List ℕ) → i ≡ length xs + j → IsAt (xs ++ ys) i e → IsAt ys j e
at_in_right [] ys i j e same h = let k : i ≡ j = omega arith in subst (λ (n : ℕ). IsAt ys n e) k h
at_in_right (x ∷ xs) ys zero j e same h = absurd (omega arith)
at_in_right (x ∷ xs) ys (suc i) j e same h = at_in_right xs ys i j e (omega arith) h

pub at_within : (xs : List (List ℕ)) (i : ℕ) (e : List ℕ) → IsAt xs i e → i < length xs
at_within [] i e h = absurd h
at_within (x ∷ xs) zero e h = omega arith
at_within (x ∷ xs) (suc i) e h = omega (arith, at_within xs i e h)

-- ---- entries

-- octets that stand behind so many others are those of the entry there
pub entry_at : (xs : List Entry) (i : ℕ) (e : Entry) → AllByRecursion IsEntry xs → IsEntry e
    → IsAt (texts_of xs) i e.octets → IsEntryAt xs i e
entry_at [] i e all own at = absurd at
entry_at (x ∷ xs) zero e all own at = same_octets x e all.0 own at
entry_at (x ∷ xs) (suc i) e all own at = entry_at xs i e all.1 own at

pub text_at : (xs : List Entry) (i : ℕ) (e : Entry) → IsEntryAt xs i e → IsAt (texts_of xs) i e.octets
text_at [] i e at = absurd at
text_at (x ∷ xs) zero e at = ap (λ (f : Entry). f.octets) at
text_at (x ∷ xs) (suc i) e at = text_at xs i e at

pub entry_is_in : (xs : List Entry) (i : ℕ) (e : Entry) → IsEntryAt xs i e → Has xs e
entry_is_in [] i e h = absurd h
entry_is_in (x ∷ xs) zero e h = inl h
entry_is_in (x ∷ xs) (suc i) e h = inr (entry_is_in xs i e h)

-- an entry below the first is none of them
pub below_first : (xs : List Entry) (b x : Entry) → IsAscending xs → IsEntryAt xs 0 b → IsBelow x b → ¬ (Has xs x)
below_first [] b x order at less h = h
below_first (y ∷ ys) b x order at less (inl same) = below_differ x b less (sym same ∙ at)
below_first (y ∷ ys) b x order at less (inr more) =
    below_asymmetric x b less (subst (λ (e : Entry). IsBelow e x) at (of_member (IsBelow y) ys x order.0 more))

-- an entry above the last is none of them
pub above_last : (xs : List Entry) (i : ℕ) (a x : Entry) → IsAscending xs → IsEntryAt xs i a → suc i ≡ length xs
    → IsBelow a x → ¬ (Has xs x)
above_last [] i a x order at last more h = h
above_last (y ∷ []) zero a x order at last more (inl same) = below_differ a x more (sym at ∙ same)
above_last (y ∷ []) zero a x order at last more (inr none) = none
above_last (y ∷ z ∷ zs) zero a x order at last more h = absurd (omega arith)
above_last (y ∷ ys) (suc i) a x order at last more (inl same) =
    below_asymmetric a x more
    (subst (λ (e : Entry). IsBelow e a) same (of_member (IsBelow y) ys a order.0 (entry_is_in ys i a at)))
above_last (y ∷ ys) (suc i) a x order at last more (inr rest) = above_last ys i a x order.1 at (omega arith) more rest

-- an entry between two that stand next to each other is none of them
pub between : (xs : List Entry) (i : ℕ) (a b x : Entry) → IsAscending xs → IsEntryAt xs i a → IsEntryAt xs (suc i) b
    → IsBelow a x → IsBelow x b → ¬ (Has xs x)
between [] i a b x order at next more less h = h
between (y ∷ ys) zero a b x order at next more less (inl same) = below_differ a x more (sym at ∙ same)
between (y ∷ ys) zero a b x order at next more less (inr rest) = below_first ys b x order.1 next less rest
between (y ∷ ys) (suc i) a b x order at next more less (inl same) =
    below_asymmetric a x more
    (subst (λ (e : Entry). IsBelow e a) same (of_member (IsBelow y) ys a order.0 (entry_is_in ys i a at)))
between (y ∷ ys) (suc i) a b x order at next more less (inr rest) = between ys i a b x order.1 at next more less rest
