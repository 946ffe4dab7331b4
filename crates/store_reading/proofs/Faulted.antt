-- For which file a fault is told.
use Rattle.std.proofs.Common.{◌≡◌, ℕ, ◌+◌, ◌≤◌, List, [], ◌∷◌, ◌++◌, take, drop, inl, inr, refl, sym, ap, subst, ◌∙◌}
use Rattle.std.proofs.Common.{append_assoc, arith}
use Rattle.std.proofs.lemmas.List.{take-append-drop}
use Rattle.record_store.specs.Names.{IsSegment}
use Rattle.store_reading.specs.Faults.{HasSegments, IsFaultAt, IsFaultOfInput, IsInputNamed, IsNoInput}
use Rattle.store_reading.specs.declared.fault.CheckFault.{CheckFault}
use Rattle.store_reading.specs.declared.fault.ReadFault.{ReadFault}

pub count_more : (day : List ℕ) (names : List (List ℕ)) (name : List ℕ) (count : ℕ) → HasSegments day names count
    → IsSegment day name → HasSegments day (names ++ name ∷ []) (count + 1)
count_more day [] name count none segment = inl (segment, (count, refl, none))
count_more day (x ∷ names) name count (inl (is, (less, more, rest))) segment =
    inl (is, (less + 1, omega (arith, more), count_more day names name less rest segment))
count_more day (x ∷ names) name count (inr (not, rest)) segment =
    inr (not, count_more day names name count rest segment)

pub count_other : (day : List ℕ) (names : List (List ℕ)) (name : List ℕ) (count : ℕ) → HasSegments day names count
    → ¬ (IsSegment day name) → HasSegments day (names ++ name ∷ []) count
count_other day [] name count none other = inr (other, none)
count_other day (x ∷ names) name count (inl (is, (less, more, rest))) other =
    inl (is, (less, more, count_other day names name less rest other))
count_other day (x ∷ names) name count (inr (not, rest)) other =
    inr (not, count_other day names name count rest other)

-- of more names as many are or more
count_within : (day : List ℕ) (front back : List (List ℕ)) (some all : ℕ) → HasSegments day front some
    → HasSegments day (front ++ back) all → some ≤ all
count_within day [] back some all none whole = omega (arith, none)
count_within day (x ∷ front) back some all (inl (is, (less, more, rest))) (inl (also, (fewer, most, whole))) =
    omega (arith, more, most, count_within day front back less fewer rest whole)
count_within day (x ∷ front) back some all (inl (is, first)) (inr (not, whole)) = absurd (not is)
count_within day (x ∷ front) back some all (inr (not, rest)) (inl (is, whole)) = absurd (not is)
count_within day (x ∷ front) back some all (inr (not, rest)) (inr (also, whole)) =
    count_within day front back some all rest whole

-- there are too few for one of this number
pub no_input : (day : List ℕ) (names : List (List ℕ)) (input count : ℕ) → HasSegments day names count → count ≤ input
    → IsNoInput day names input
no_input day names input count counted few name i =
    let parts : names ≡ (i.front ++ name ∷ []) ++ i.back =
    i.parts ∙ sym (append_assoc i.front (name ∷ []) i.back) in
    let within : input + 1 ≤ count = count_within day (i.front ++ name ∷ []) i.back (input + 1) count
    (count_more day i.front name input i.before i.segment)
    (subst (λ (l : List (List ℕ)). HasSegments day l count) parts counted) in
    omega (arith, within, few)

-- the input is the segment behind those that were counted
pub input_named : (day : List ℕ) (names : List (List ℕ)) (at input count : ℕ) (name : List ℕ)
    → take (at + 1) names ≡ take at names ++ name ∷ [] → HasSegments day (take at names) count → count ≡ input
    → IsSegment day name → IsInputNamed day names input name
input_named day names at input count name more counted same segment = record {
  front = take at names;
  back = drop (at + 1) names;
  parts = sym (take-append-drop (at + 1) names) ∙ ap (λ (l : List (List ℕ)). l ++ drop (at + 1) names) more
      ∙ append_assoc (take at names) (name ∷ []) (drop (at + 1) names);
  before = subst (HasSegments day (take at names)) same counted;
  segment = segment;
}

pub told_at : (day : List ℕ) (names : List (List ℕ)) (input : ℕ) (name copy : List ℕ) (fault : CheckFault)
    (found : ReadFault) → IsInputNamed day names input name → copy ≡ name → IsFaultAt copy fault found
    → IsFaultOfInput day names input fault found
told_at day names input name copy fault found named same told =
    inr (name, named, subst (λ (n : List ℕ). IsFaultAt n fault found) same told)
