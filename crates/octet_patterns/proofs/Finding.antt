-- A search for octets finds where they stand.
use Rattle.std.proofs.Common.{◌≡◌, ℕ, ◌+◌, List, ◌++◌, Option, None, Some, length, take, drop, refl, ap, sym, ◌∙◌}
use Rattle.std.proofs.Common.{append_assoc, arith}
use Rattle.std.proofs.Common.{◌-◌, ◌<◌, ◌≤◌, ◌/◌, ◌%◌, ◌^◌, zero, suc, Bool, [], false, subst, map, get_or, eqb, cond, bit_and}
use Rattle.std.proofs.Common.{inl, inr, nat_eq, not}
use Rattle.std.specs.Prelude.{◌↔◌, IsSome, IsTrue}
use Rattle.std.proofs.lemmas.Bool.{cases_lt, eq-eqb, false≢true}
use Rattle.std.proofs.lemmas.Bool.Decides.{nat_tests}
use Rattle.std.proofs.lemmas.Grind.{common_steps}
use Rattle.std.proofs.lemmas.Nat.{and_mod, and_shr}
use Rattle.std.proofs.lemmas.Simd.{bit_mask_l, get_or-chunk, length-chunk}
use lib.Lanes.{chunk, mask_l}
use Rattle.std.proofs.Math.Seq.{drop-append_seam, take-append_seam}
use Rattle.std.proofs.lemmas.List.{get_or-map, length-append, take-append-drop}
use Rattle.memchr.specs.Find.{FindsNeedle, OccursAt}
use Rattle.memchr.proofs.lemmas.MatchLemmas.{OccursAt-from_part, OccursAt-split}
use Rattle.octet_patterns.specs.Occurrences.{HasWithin}

occurs_within : (octets text : List ℕ) (k : ℕ) → OccursAt text octets k → HasWithin octets text
occurs_within octets text k h = (
  take k text,
  drop (k + length octets) text,
  sym (take-append-drop k text) ∙ ap (λ (t : List ℕ). take k text ++ t) (OccursAt-split text octets k h)
      ∙ sym (append_assoc (take k text) octets (drop (k + length octets) text)),
)

within_occurs : (octets text before behind : List ℕ) → text ≡ before ++ octets ++ behind
    → OccursAt text octets (length before)
within_occurs octets text before behind e =
    let whole : text ≡ before ++ (octets ++ behind) = e ∙ append_assoc before octets behind in
    OccursAt-from_part text octets (length before)
    (omega (arith, ap length e, length-append (before ++ octets) behind, length-append before octets))
    (ap (λ (t : List ℕ). take (length octets) (drop (length before) t)) whole
    ∙ ap (take (length octets)) (drop-append_seam before (octets ++ behind)) ∙ take-append_seam octets behind)

pub found_within : (octets text : List ℕ) (r : Option ℕ) → FindsNeedle text octets 0 r → IsSome r ↔ HasWithin octets text
found_within octets text None none = (
  λ no. absurd cc,
  λ h. absurd (none (length h.0) (omega arith) (omega (arith, (within_occurs octets text h.0 h.1 h.2).fits))
      (within_occurs octets text h.0 h.1 h.2)),
)
found_within octets text (Some k) found = (λ yes. occurs_within octets text k found.1, λ h. refl)

-- ---- a look at sixteen places at once

-- a place where an octet stands is set in the mask of those
pub set_where : (x : ℕ) (text : List ℕ) (from i : ℕ) → from + 16 ≤ length text → i < 16 → get_or text (from + i) 0 ≡ x
    → mask_l (map (λ y. eqb y x) (chunk from 16 text)) / 2 ^ i % 2 ≡ 1
set_where x text from i room less is =
    let v = chunk from 16 text in
    let long : length v ≡ 16 = length-chunk from 16 text room in
    let here : get_or v i 0 ≡ x = get_or-chunk from 16 text i 0 less ∙ is in
    bit_mask_l (map (λ y. eqb y x) v) i
    ∙ ap (λ b. cond b 1 0) (get_or-map (λ y. eqb y x) v i 0 false (omega (arith, long, less)) ∙ eq-eqb (get_or v i 0) x here)

pub both_set : (a b i : ℕ) → a / 2 ^ i % 2 ≡ 1 → b / 2 ^ i % 2 ≡ 1 → bit_and a b / 2 ^ i % 2 ≡ 1
both_set a b i h k = ap (λ (n : ℕ). n % 2) (and_shr a b i) ∙ and_mod (a / 2 ^ i) (b / 2 ^ i) 1 ∙ rw (h, k) refl

-- so a mask with a bit that is set is not zero
pub some_set : (m i : ℕ) → m / 2 ^ i % 2 ≡ 1 → IsTrue (not (nat_eq m 0))
some_set zero i h =
    let none : 0 / 2 ^ i % 2 ≡ 0 = bit_mask_l [] i in
    absurd (omega (arith, h, none))
some_set (suc m) i h = grind (arith, nat_tests, common_steps)

pub octet_there : (octets text : List ℕ) (from i other : ℕ) → other < length octets → OccursAt text octets (from + i)
    → get_or text (from + other + i) 0 ≡ get_or octets other 0
octet_there octets text from i other within h = ap (λ (n : ℕ). get_or text n 0) (omega arith) ∙ h.reads other within

pub first_there : (octets text : List ℕ) (from i : ℕ) → 0 < length octets → OccursAt text octets (from + i)
    → get_or text (from + i) 0 ≡ get_or octets 0 0
first_there octets text from i some h = ap (λ (n : ℕ). get_or text n 0) (omega arith) ∙ h.reads 0 some

-- they stand at none of the first so many places
abbrev pub StandsNotBefore : List ℕ → List ℕ → ℕ → Type 0
StandsNotBefore octets text n = (k : ℕ) → k < n → ¬ (OccursAt text octets k)

-- what a look at sixteen places tells
abbrev pub Looks : List ℕ → List ℕ → ℕ → Bool → Type 0
Looks octets text from r = (i : ℕ) → i < 16 → OccursAt text octets (from + i) → IsTrue r

looked_at : (octets text : List ℕ) (from k : ℕ) (r : Bool) → from ≤ k → k < from + 16 → Looks octets text from r
    → OccursAt text octets k → IsTrue r
looked_at octets text from k r low high look h =
    look (k - from) (omega (arith, low, high)) (subst (OccursAt text octets) (omega (arith, low)) h)

pub none_further : (octets text : List ℕ) (from : ℕ) (r : Bool) → StandsNotBefore octets text from
    → Looks octets text from r → r ≡ false → StandsNotBefore octets text (from + 16)
none_further octets text from r none look unset k less h = elim (cases_lt k from) [
  | inl before ↦ none k before h
  | inr behind ↦ false≢true (sym unset ∙ looked_at octets text from k r behind less look h)
]

-- the last sixteen places, of which some may have been looked at
pub last_looked : (octets text : List ℕ) (from last : ℕ) (r : Bool) → StandsNotBefore octets text from → last ≤ from
    → Looks octets text last r → (k : ℕ) → k < last + 16 → OccursAt text octets k → IsTrue r
last_looked octets text from last r none behind look k less h = elim (cases_lt k from) [
  | inl before ↦ absurd (none k before h)
  | inr beyond ↦ looked_at octets text last k r (omega (arith, behind, beyond)) less look h
]

-- octets that stand at no place are not within
pub stand_nowhere : (octets text : List ℕ) → ((k : ℕ) → OccursAt text octets k → ⊥) → IsTrue false ↔ HasWithin octets text
stand_nowhere octets text none = (
  λ no. absurd cc,
  λ h. absurd (none (length h.0) (within_occurs octets text h.0 h.1 h.2)),
)
