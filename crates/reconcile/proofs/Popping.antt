-- Facts on pending parts that are taken from their end, and put behind others.
use Rattle.std.proofs.Common.{◌≡◌, ℕ, List, [], ◌∷◌, ◌++◌, inl, inr, refl, sym, ap, ◌∙◌, subst, append_assoc, ◌+◌}
use Rattle.std.proofs.Common.{◌≤◌, arith, length}
use Rattle.std.specs.Prelude.{OnOk, Result, Ok, Err}
use Rattle.std.proofs.lemmas.List.{append-nil}
use Rattle.archive_text.specs.Entries.{Entry}
use Rattle.reconcile.specs.Ranges.{AreWithin, Covers, IsInside}
use Rattle.reconcile.specs.Requests.{Refined, allowance, joined}
use Rattle.reconcile.specs.Reconciling.{Going}
use Rattle.reconcile.specs.declared.range.Range.{Range}
use Rattle.reconcile.specs.declared.sum.Sum.{Sum}
use Rattle.reconcile.specs.declared.part.Part.{Part}
use Rattle.reconcile.proofs.Parts.{covers_either, covers_left, covers_right, cuts_inside}
use Rattle.reconcile.proofs.Costs.{costs_append, cuts_cost}
use Rattle.reconcile.proofs.Turns.{going_front, going_middle}

abbrev sum_with : ℕ → ℕ → List ℕ → Sum
sum_with records octets digest = record { records = records; octets = octets; digest = digest }

pub one_sum : (s t : Sum) → s.records ≡ t.records → s.octets ≡ t.octets → s.digest ≡ t.digest → s ≡ t
one_sum s t records octets digest =
    let same : sum_with s.records s.octets s.digest ≡ sum_with t.records t.octets t.digest =
    rw (records, octets, digest) refl in
    same

-- the last pending part, in front of all others
pub going_popped : (r : Range) (a b own held : List Entry) (ps rest : List Part) (p : Part)
    → Going r a b own held ((ps ++ p ∷ []) ++ rest)
    → Going r a b own held (p ∷ (ps ++ rest))
going_popped r a b own held ps rest p g =
    going_front r a b own held ps rest p (subst (Going r a b own held) (append_assoc ps (p ∷ []) rest) g)

-- it goes behind all others
pub going_small : (r : Range) (a b own held : List Entry) (ps large small : List Part) (p : Part)
    → Going r a b own held (p ∷ (ps ++ (large ++ small)))
    → Going r a b own held (ps ++ (large ++ (small ++ p ∷ [])))
going_small r a b own held ps large small p g =
    let all : List Part = ps ++ (large ++ small) in
    let k : Going r a b own held (p ∷ (all ++ [])) = subst (λ l. Going r a b own held (p ∷ l))
    (sym (append-nil all)) g in
    subst (Going r a b own held) (append_assoc ps (large ++ small) (p ∷ [])
    ∙ ap (λ l. ps ++ l) (append_assoc large small (p ∷ [])))
    (going_middle r a b own held all [] p k)

-- or behind the first of them
pub going_large : (r : Range) (a b own held : List Entry) (ps large small : List Part) (p : Part)
    → Going r a b own held (p ∷ (ps ++ (large ++ small)))
    → Going r a b own held (ps ++ ((large ++ p ∷ []) ++ small))
going_large r a b own held ps large small p g =
    let k : Going r a b own held (p ∷ ((ps ++ large) ++ small)) = subst (λ l. Going r a b own held (p ∷ l))
    (sym (append_assoc ps large small)) g in
    subst (Going r a b own held) (append_assoc ps large (p ∷ small)
    ∙ ap (λ l. ps ++ l) (sym (append_assoc large (p ∷ []) small)))
    (going_middle r a b own held (ps ++ large) small p k)

-- ---- what is covered then

pub covers_dropped : (ps rest : List Part) (p : Part) (x : Entry) → Covers (ps ++ rest) x
    → Covers ((ps ++ p ∷ []) ++ rest) x
covers_dropped ps rest p x c =
    elim (covers_either ps rest x c) [
      | inl l ↦ covers_left (ps ++ p ∷ []) rest x (covers_left ps (p ∷ []) x l)
      | inr k ↦ covers_right (ps ++ p ∷ []) rest x k
    ]

pub covers_small : (ps large small : List Part) (p : Part) (x : Entry) → Covers (ps ++ (large ++ (small ++ p ∷ []))) x
    → Covers ((ps ++ p ∷ []) ++ (large ++ small)) x
covers_small ps large small p x c =
    let first = ps ++ p ∷ [] in
    elim (covers_either ps (large ++ (small ++ p ∷ [])) x c) [
      | inl l ↦ covers_left first (large ++ small) x (covers_left ps (p ∷ []) x l)
      | inr k ↦ elim (covers_either large (small ++ p ∷ []) x k) [
        | inl m ↦ covers_right first (large ++ small) x (covers_left large small x m)
        | inr n ↦ elim (covers_either small (p ∷ []) x n) [
          | inl s ↦ covers_right first (large ++ small) x (covers_right large small x s)
          | inr q ↦ covers_left first (large ++ small) x (covers_right ps (p ∷ []) x q)
        ]
      ]
    ]

pub covers_large : (ps large small : List Part) (p : Part) (x : Entry) → Covers (ps ++ ((large ++ p ∷ []) ++ small)) x
    → Covers ((ps ++ p ∷ []) ++ (large ++ small)) x
covers_large ps large small p x c =
    let first = ps ++ p ∷ [] in
    elim (covers_either ps ((large ++ p ∷ []) ++ small) x c) [
      | inl l ↦ covers_left first (large ++ small) x (covers_left ps (p ∷ []) x l)
      | inr k ↦ elim (covers_either (large ++ p ∷ []) small x k) [
        | inl m ↦ elim (covers_either large (p ∷ []) x m) [
          | inl n ↦ covers_right first (large ++ small) x (covers_left large small x n)
          | inr q ↦ covers_left first (large ++ small) x (covers_right ps (p ∷ []) x q)
        ]
        | inr s ↦ covers_right first (large ++ small) x (covers_right large small x s)
      ]
    ]

-- ---- what a turn makes of them

pub within_small : (r : Range) (ps large small : List Part) → AreWithin r (ps ++ (large ++ small)) → (x : Entry)
    → Covers small x → IsInside r x
within_small r ps large small w x c = w x (covers_right ps (large ++ small) x (covers_right large small x c))

pub within_large : (r : Range) (ps large small : List Part) → AreWithin r (ps ++ (large ++ small))
    → AreWithin r (ps ++ large)
within_large r ps large small w x c =
    w x (elim (covers_either ps large x c) [
      | inl l ↦ covers_left ps (large ++ small) x l
      | inr k ↦ covers_right ps (large ++ small) x (covers_left large small x k)
    ])

refined_within : (r : Range) (ps large now : List Part) → AreWithin r (ps ++ large) → Refined large ps now
    → AreWithin r now
refined_within r ps large now w f x c =
    w x (elim (covers_either ps (joined f.cuts) x (subst (λ l. Covers l x) f.pending c)) [
      | inl l ↦ covers_left ps large x l
      | inr k ↦ covers_right ps large x (cuts_inside large f.cuts f.finer x k)
    ])

pub refines_within : {A E : Type 0} (res : Result A E) (r : Range) (ps large now : List Part)
    → AreWithin r (ps ++ large)
    → OnOk res (Refined large ps now) → OnOk res (AreWithin r now)
refines_within (Ok a) r ps large now w f = refined_within r ps large now w f
refines_within (Err e) r ps large now w f = tt

refined_costs : (ps large now : List Part) → Refined large ps now
    → allowance now + length large ≤ allowance ps + allowance large
refined_costs ps large now f =
    let cost = cuts_cost large f.cuts f.finer in
    let same : allowance now ≡ allowance ps + allowance (joined f.cuts) = ap allowance f.pending
    ∙ costs_append ps (joined f.cuts) in
    omega (arith, cost, same)

pub turn_costs : {A E : Type 0} (res : Result A E) (ps large now : List Part) (before mid after first small : ℕ)
    → mid ≤ before + small → after ≤ mid + length large → allowance ps + allowance large + small ≤ first
    → OnOk res (Refined large ps now) → OnOk res (after + allowance now ≤ before + first)
turn_costs (Ok a) ps large now before mid after first small h k costs f =
    let cost = refined_costs ps large now f in
    omega (arith, h, k, costs, cost)
turn_costs (Err e) ps large now before mid after first small h k costs f = tt
