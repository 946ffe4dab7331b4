-- One of several tests, and one of each of several lists.
use Rattle.std.proofs.Common.{ℕ, zero, suc, ◌+◌, ◌<◌, ◌≤◌, List, [], ◌∷◌, length, drop, get_or, Bool, true, false, IsTrue, refl}
use Rattle.std.proofs.Common.{subst, inl, inr, arith}
use Rattle.std.specs.Prelude.{ℤ, ◌↔◌, not}
use Rattle.std.specs.List.{AllByRecursion}
use Rattle.std.proofs.lemmas.List.{drop_more}
use Rattle.syslog_value.specs.Parts.{Parts}
use Rattle.archive_sets.specs.Tests.{Passes}
use Rattle.archive_sets.specs.Together.{PassesOne}
use Rattle.archive_sets.specs.declared.field_test.FieldTest.{FieldTest}

-- a test that is not passed is not the one that is
later : (t : FieldTest) (ts : List FieldTest) (r : Parts ℤ) → ¬ (Passes t r) → PassesOne (t ∷ ts) r → PassesOne ts r
later t ts r none (inl h) = absurd (none h)
later t ts r none (inr h) = h

pub one_left : (ts : List FieldTest) (i : ℕ) (t : FieldTest) (r : Parts ℤ) → i < length ts → ¬ (Passes (get_or ts i t) r)
    → PassesOne (drop i ts) r → PassesOne (drop (i + 1) ts) r
one_left ts i t r within none h =
    later (get_or ts i t) (drop (i + 1) ts) r none
    (subst (λ (us : List FieldTest). PassesOne us r) (drop_more ts i t within) h)

-- behind the last one there is none
pub each_end : {X : Type 0} (P : X → Type 0) (xs : List X) (i : ℕ) → length xs ≤ i → AllByRecursion P (drop i xs)
each_end P [] zero h = tt
each_end P [] (suc i) h = tt
each_end P (x ∷ xs) zero h = absurd (omega arith)
each_end P (x ∷ xs) (suc i) h = each_end P xs i (omega arith)

pub unless : (b : Bool) (P : Type 0) → IsTrue b ↔ P → IsTrue (not b) ↔ (¬ P)
unless true P h = (λ no. absurd cc, λ n. absurd (n (h.0 refl)))
unless false P h = (λ yes p. let on : IsTrue false = h.1 p in absurd cc, λ n. refl)
