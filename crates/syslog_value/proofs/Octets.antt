-- Octet texts in their order.
use Rattle.std.proofs.Common.{◌≡◌, ℕ, ◌<◌, inl, inr, refl, sym, subst, ◌∙◌, arith, List, [], ◌∷◌}
use Rattle.std.specs.declared.cmp.Ordering.{Ordering}
use Rattle.std.specs.declared.cmp.Ordering.TheVariants.{Less, Equal, Greater}
use Rattle.std.specs.Cmp.Lexicographic.{slice_cmp}
use Rattle.std.specs.Ordering.{MatchOrdering, nat_cmp, ordering_then}
use Rattle.std.proofs.lemmas.Cmp.{ranked}
use Rattle.syslog_value.specs.Order.{OctetsBelow}

ranked_more : (x y : ℕ) (xs ys : List ℕ) (first rest o : Ordering) → o ≡ ordering_then first rest
    → MatchOrdering first (x < y) (x ≡ y) (y < x)
    → MatchOrdering rest (OctetsBelow xs ys) (xs ≡ ys) (OctetsBelow ys xs)
    → MatchOrdering o (OctetsBelow (x ∷ xs) (y ∷ ys)) (x ∷ xs ≡ y ∷ ys) (OctetsBelow (y ∷ ys) (x ∷ xs))
ranked_more x y xs ys Less rest o e less r = rw e (inl less)
ranked_more x y xs ys Equal Less o e same r = rw e (inr (same, r))
ranked_more x y xs ys Equal Equal o e same r = let both : x ∷ xs ≡ y ∷ ys = cc in rw e both
ranked_more x y xs ys Equal Greater o e same r = rw e (inr (sym same, r))
ranked_more x y xs ys Greater rest o e greater r = rw e (inl greater)

-- what `cmp` of two octet texts says
pub octets_ranked : (xs ys : List ℕ) (o : Ordering) → o ≡ slice_cmp nat_cmp xs ys
    → MatchOrdering o (OctetsBelow xs ys) (xs ≡ ys) (OctetsBelow ys xs)
octets_ranked [] [] o e = rw e refl
octets_ranked [] (y ∷ ys) o e = rw e tt
octets_ranked (x ∷ xs) [] o e = rw e tt
octets_ranked (x ∷ xs) (y ∷ ys) o e =
    ranked_more x y xs ys (nat_cmp x y) (slice_cmp nat_cmp xs ys) o e (ranked x y (nat_cmp x y) refl)
    (octets_ranked xs ys (slice_cmp nat_cmp xs ys) refl)

pub below_itself : (xs : List ℕ) → ¬ OctetsBelow xs xs
below_itself [] h = h
below_itself (x ∷ xs) h = elim h [ inl less ↦ absurd (omega arith) | inr more ↦ below_itself xs more.1 ]

pub below_trans : (xs ys zs : List ℕ) → OctetsBelow xs ys → OctetsBelow ys zs → OctetsBelow xs zs
below_trans xs ys [] h k = k
below_trans xs [] (z ∷ zs) h k = absurd h
below_trans [] (y ∷ ys) (z ∷ zs) h k = tt
below_trans (x ∷ xs) (y ∷ ys) (z ∷ zs) h k =
    elim h [
      | inl less ↦ elim k [ inl also ↦ inl (omega arith) | inr (same, rest) ↦ inl (omega arith) ]
      | inr (same, rest) ↦
          elim k [
            | inl less ↦ inl (omega arith)
            | inr (also, more) ↦ inr (same ∙ also, below_trans xs ys zs rest more)
          ]
    ]

-- octets below others are `Less`
pub less_from_below : (xs ys : List ℕ) (o : Ordering) → o ≡ slice_cmp nat_cmp xs ys → OctetsBelow xs ys → o ≡ Less
less_from_below xs ys Less e h = refl
less_from_below xs ys Equal e h = let same : xs ≡ ys = octets_ranked xs ys Equal e in
    absurd (below_itself ys (subst (λ l. OctetsBelow l ys) same h))
less_from_below xs ys Greater e h = absurd (below_itself xs (below_trans xs ys xs h (octets_ranked xs ys Greater e)))
