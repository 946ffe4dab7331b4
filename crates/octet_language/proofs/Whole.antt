-- Texts that take all of the octets.
use Rattle.std.proofs.Common.{◌≡◌, ℕ, ◌-◌, List, [], ◌∷◌, ◌++◌, length, inl, inr, ◌⊎◌}
use Rattle.octet_language.specs.Language.{Language, ◌⋅◌, AnyOf, Refuses, IsPrefixFree, IsFaultOffset}
use Rattle.octet_language.specs.Reading.{Fails, Follows, Misses}
use Rattle.octet_language.proofs.Sequence.{NoPrefix-first, Stops-first, Stops-later, Misses-later, Misses-NoPrefix}
use Rattle.octet_language.proofs.FaultOffset.{IsFaultOffset-from_stops}
use Rattle.octet_language.proofs.Many.{Many, many_more, many_cases}

pub Misses-offset : (L : Language) (b : List ℕ) (remaining : ℕ) → Misses L b remaining
    → ¬ (L b) × IsFaultOffset L b (length b - remaining)
Misses-offset L b remaining m = (m.none, IsFaultOffset-from_stops L b remaining m.stops)

-- a field fails before the last part
pub Misses-field : (A B : Language) (b t : List ℕ) (remaining : ℕ) → B t → Fails A b remaining
    → Misses (A ⋅ B) b remaining
Misses-field A B b t remaining some f = record {
  none = Misses-NoPrefix (A ⋅ B) b (NoPrefix-first A B b f.none);
  stops =
      Stops-first A B b remaining t some f.none f.stops;
}

-- after a field, the last part misses
pub Misses-behind : (A B : Language) (b rest : List ℕ) (remaining : ℕ) → IsPrefixFree A → Follows A b rest
    → Misses B rest remaining → Misses (A ⋅ B) b remaining
Misses-behind A B b rest remaining one a m = record {
  none = Misses-later A B b a.0 rest one a.2 a.1 m.none;
  stops = Stops-later A B b a.0 rest remaining one a.2 a.1 m.stops;
}

-- with other texts that begin differently from b
pub Misses-or : (L Z M : Language) (b : List ℕ) (remaining : ℕ) → ((s : List ℕ) → L s → M s)
    → ((s : List ℕ) → M s → L s ⊎ Z s)
    → ¬ (Z b) → ((p r more : List ℕ) (x : ℕ) → b ≡ p ++ x ∷ r → ¬ (Z ((p ++ x ∷ []) ++ more))) → Misses L b remaining
    → Misses M b remaining
Misses-or L Z M b remaining to from not_whole not_prefix m = record {
  none = λ h. elim (from b h) [ inl k ↦ m.none k | inr z ↦ not_whole z ];
  stops = record {
    read = m.stops.read;
    rest = m.stops.rest;
    parts = m.stops.parts;
    count = m.stops.count;
    begins = (m.stops.begins.0, to (m.stops.read ++ m.stops.begins.0) m.stops.begins.1);
    refuses = refuses_or m.stops.read m.stops.rest m.stops.parts m.stops.refuses;
  };
}
  where
    refuses_or : (p rest : List ℕ) → b ≡ p ++ rest → Refuses L p rest → Refuses M p rest
    refuses_or p [] e r = tt
    refuses_or p (x ∷ rest) e r = λ (more, h).
        elim (from ((p ++ x ∷ []) ++ more) h) [ inl k ↦ r (more, k) | inr z ↦ not_prefix p rest more x e z ]

-- items, then an end that may be empty: where an item fails, or what follows it misses, all miss
pub Misses-many : {V : Type 0} (A : V → Language) (Z : Language) (b : List ℕ) (remaining : ℕ)
    → ¬ (Z b) → ((p r more : List ℕ) (x : ℕ) → b ≡ p ++ x ∷ r → ¬ (Z ((p ++ x ∷ []) ++ more)))
    → Misses (AnyOf A ⋅ Many A Z) b remaining → Misses (Many A Z) b remaining
Misses-many A Z b remaining not_whole not_prefix m =
    Misses-or (AnyOf A ⋅ Many A Z) Z (Many A Z) b remaining (many_more A Z) (many_cases A Z) not_whole not_prefix m
