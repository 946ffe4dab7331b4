-- Entries in their order.
use Rattle.std.proofs.Common.{◌≡◌, ◌≢◌, ℕ, inl, inr, refl, sym, ap, subst, ◌∙◌, arith, List}
use Rattle.std.specs.Prelude.{ℤ, ◌<ℤ◌, Option, Some, None, ◌⊎◌}
use Rattle.std.specs.declared.cmp.Ordering.{Ordering}
use Rattle.std.specs.declared.cmp.Ordering.TheVariants.{Less, Equal, Greater}
use Rattle.std.specs.Cmp.Lexicographic.{slice_cmp}
use Rattle.std.specs.Ordering.{MatchOrdering, int_cmp, nat_cmp}
use Rattle.std.proofs.lemmas.Cmp.{int_ranked}
use Rattle.std.proofs.lemmas.Int.{ints}
use Rattle.syslog_value.specs.Order.{OctetsBelow}
use Rattle.syslog_value.proofs.Octets.{octets_ranked, below_itself, below_trans}
use Rattle.archive_text.specs.Entries.{Entry, InstantBelow, IsBelow, IsInstantOrder, IsOrder}

abbrev entry_with : Option ℤ → List ℕ → Entry
entry_with i b = record { instant = i; octets = b }

-- an instant and octets make one entry
pub same_entry : (a b : Entry) → a.instant ≡ b.instant → a.octets ≡ b.octets → a ≡ b
same_entry a b instant octets = let same : entry_with a.instant a.octets ≡ entry_with b.instant b.octets =
    rw (instant, octets) refl in same

-- entries of one instant, as their octets compare
pub by_octets : (a b : Entry) (o : Ordering) → a.instant ≡ b.instant
    → MatchOrdering o (OctetsBelow a.octets b.octets) (a.octets ≡ b.octets) (OctetsBelow b.octets a.octets)
    → IsOrder o a b
by_octets a b Less same h = inr (same, h)
by_octets a b Equal same h = same_entry a b same h
by_octets a b Greater same h = inr (sym same, h)

-- entries of two instants, as these compare
pub by_instant : (a b : Entry) (o : Ordering) → IsInstantOrder o a.instant b.instant → o ≢ Equal → IsOrder o a b
by_instant a b Less h differ = inl h
by_instant a b Equal h differ = absurd (differ refl)
by_instant a b Greater h differ = inl h

-- ---- instants

pub instant_irreflexive : (i : Option ℤ) → ¬ (InstantBelow i i)
instant_irreflexive None h = h
instant_irreflexive (Some i) h = omega (arith, ints, h)

pub instant_transitive : (i j k : Option ℤ) → InstantBelow i j → InstantBelow j k → InstantBelow i k
instant_transitive None None k h l = absurd h
instant_transitive (Some i) None k h l = absurd h
instant_transitive i (Some j) None h l = absurd l
instant_transitive None (Some j) (Some k) h l = tt
instant_transitive (Some i) (Some j) (Some k) h l = omega (arith, ints, h, l)

pub instant_asymmetric : (i j : Option ℤ) → InstantBelow i j → ¬ (InstantBelow j i)
instant_asymmetric i j h k = instant_irreflexive i (instant_transitive i j i h k)

some_total : (i j : ℤ) (o : Ordering) → MatchOrdering o (i <ℤ j) (i ≡ j) (j <ℤ i)
    → InstantBelow (Some i) (Some j) ⊎ ((Some i ≡ Some j) ⊎ InstantBelow (Some j) (Some i))
some_total i j Less h = inl h
some_total i j Equal h = inr (inl (ap Some h))
some_total i j Greater h = inr (inr h)

pub instant_total : (i j : Option ℤ) → InstantBelow i j ⊎ ((i ≡ j) ⊎ InstantBelow j i)
instant_total None None = inr (inl refl)
instant_total None (Some j) = inl tt
instant_total (Some i) None = inr (inr tt)
instant_total (Some i) (Some j) = some_total i j (int_cmp i j) (int_ranked i j (int_cmp i j) refl)

-- ---- octets

pub octets_asymmetric : (a b : List ℕ) → OctetsBelow a b → ¬ (OctetsBelow b a)
octets_asymmetric a b h k = below_itself a (below_trans a b a h k)

octets_ordered : (a b : List ℕ) (o : Ordering) → MatchOrdering o (OctetsBelow a b) (a ≡ b) (OctetsBelow b a)
    → OctetsBelow a b ⊎ ((a ≡ b) ⊎ OctetsBelow b a)
octets_ordered a b Less h = inl h
octets_ordered a b Equal h = inr (inl h)
octets_ordered a b Greater h = inr (inr h)

pub octets_total : (a b : List ℕ) → OctetsBelow a b ⊎ ((a ≡ b) ⊎ OctetsBelow b a)
octets_total a b = octets_ordered a b (slice_cmp nat_cmp a b) (octets_ranked a b (slice_cmp nat_cmp a b) refl)

-- ---- entries

pub below_irreflexive : (a : Entry) → ¬ (IsBelow a a)
below_irreflexive a (inl h) = instant_irreflexive a.instant h
below_irreflexive a (inr h) = below_itself a.octets h.1

pub below_transitive : (a b c : Entry) → IsBelow a b → IsBelow b c → IsBelow a c
below_transitive a b c (inl h) (inl k) = inl (instant_transitive a.instant b.instant c.instant h k)
below_transitive a b c (inl h) (inr k) = inl (subst (λ i. InstantBelow a.instant i) k.0 h)
below_transitive a b c (inr h) (inl k) = inl (subst (λ i. InstantBelow i c.instant) (sym h.0) k)
below_transitive a b c (inr h) (inr k) = inr (h.0 ∙ k.0, below_trans a.octets b.octets c.octets h.1 k.1)

pub below_asymmetric : (a b : Entry) → IsBelow a b → ¬ (IsBelow b a)
below_asymmetric a b h k = below_irreflexive a (below_transitive a b a h k)

-- an entry is not below one that it is
pub below_differ : (a b : Entry) → IsBelow a b → ¬ (a ≡ b)
below_differ a b h e = below_irreflexive b (subst (λ x. IsBelow x b) e h)

pub below_total : (a b : Entry) → IsBelow a b ⊎ ((a ≡ b) ⊎ IsBelow b a)
below_total a b =
    elim (instant_total a.instant b.instant) [
      | inl less ↦ inl (inl less)
      | inr (inl same) ↦
          elim (octets_total a.octets b.octets) [
            | inl less ↦ inl (inr (same, less))
            | inr (inl also) ↦ inr (inl (same_entry a b same also))
            | inr (inr more) ↦ inr (inr (inr (sym same, more)))
          ]
      | inr (inr more) ↦ inr (inr (inl more))
    ]

-- ---- what a comparison says

pub less_is_below : (a b : Entry) (o : Ordering) → IsOrder o a b → o ≡ Less → IsBelow a b
less_is_below a b o h e = subst (λ u. IsOrder u a b) e h

pub equal_is_same : (a b : Entry) (o : Ordering) → IsOrder o a b → o ≡ Equal → a ≡ b
equal_is_same a b o h e = subst (λ u. IsOrder u a b) e h

pub greater_is_above : (a b : Entry) (o : Ordering) → IsOrder o a b → o ≡ Greater → IsBelow b a
greater_is_above a b o h e = subst (λ u. IsOrder u a b) e h

pub below_is_less : (a b : Entry) (o : Ordering) → IsOrder o a b → IsBelow a b → o ≡ Less
below_is_less a b Less h k = refl
below_is_less a b Equal h k = absurd (below_differ a b k h)
below_is_less a b Greater h k = absurd (below_asymmetric a b k h)

pub same_is_equal : (a b : Entry) (o : Ordering) → IsOrder o a b → a ≡ b → o ≡ Equal
same_is_equal a b Less h e = absurd (below_differ a b h e)
same_is_equal a b Equal h e = refl
same_is_equal a b Greater h e = absurd (below_differ b a h (sym e))

pub above_is_greater : (a b : Entry) (o : Ordering) → IsOrder o a b → IsBelow b a → o ≡ Greater
above_is_greater a b Less h k = absurd (below_asymmetric a b h k)
above_is_greater a b Equal h k = absurd (below_differ b a k (sym h))
above_is_greater a b Greater h k = refl
