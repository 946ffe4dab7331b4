-- Files that differ, and what is told of them.
use Rattle.std.proofs.Common.{◌≡◌, ◌≢◌, ◌⊎◌, inl, inr, ⊎_elim, ℕ, ◌+◌, ◌<◌, ◌≤◌, ◌^◌, List, length, take, drop, min}
use Rattle.std.proofs.Common.{sym, ap, ◌∙◌, arith, length-drop}
use Rattle.std.specs.Prelude.{Some, false}
use Rattle.std.proofs.lemmas.Bool.{cases_eq}
use Rattle.std.proofs.lemmas.List.{take-take}
use Rattle.disk.specs.Calls.{IsUnchanged}
use Rattle.disk.specs.Memory.{shown_now}
use Rattle.disk.specs.States.{State}
use Rattle.record_store.specs.Keeping.{AgreeAt, AreOther, Brings}
use Rattle.record_store.proofs.Compared.{GivesText}

-- one ends before the other
pub ends_before : (a b one other : List ℕ) (at n m : ℕ) → min n m ≡ 0 → n ≢ m → 0 < length one → 0 < length other
    → GivesText a at one n → GivesText b at other m → a ≢ b
ends_before a b one other at n m none apart some some_other left right same =
    ⊎_elim
    (λ (zero : n ≡ 0). omega (arith, none, apart, zero, left.ends zero some, right.within, length-drop at b, ap length same))
    (λ (some_n : n ≢ 0).
    let zero : m ≡ 0 = omega (arith, none, some_n) in
    omega (arith, some_n, zero, right.ends zero some_other, left.within, length-drop at a, ap length same))
    (cases_eq n 0)

-- the octets in front differ
pub fronts_differ : (a b one other : List ℕ) (at n m k : ℕ) → k ≡ min n m → take k one ≢ take k other
    → GivesText a at one n → GivesText b at other m → a ≢ b
fronts_differ a b one other at n m k is apart left right same =
    let below : k ≤ n = omega (arith, is) in
    let below_other : k ≤ m = omega (arith, is) in
    apart (sym (take-take k n one below) ∙ ap (take k) left.octets ∙ take-take k n (drop at a) below
    ∙ ap (λ (t : List ℕ). take k (drop at t)) same ∙ sym (take-take k m (drop at b) below_other)
    ∙ ap (take k) (sym right.octets) ∙ take-take k m other below_other)

-- two files are there, and the first has as many octets as were compared
abbrev pub Reaches : State → List ℕ → List ℕ → ℕ → Type 0
Reaches state one other at = state.lost ≡ false
    → (at ≡ 0) ⊎ ((a : List ℕ) × (b : List ℕ) × (shown_now (state.entries one) ≡ Some a)
    × (shown_now (state.entries other) ≡ Some b) × (at ≤ length a))

pub reaches_more : (zero state : State) (one other : List ℕ) (at n : ℕ) → IsUnchanged zero state
    → Reaches zero one other at → AgreeAt state one other at n → Reaches zero one other (at + n)
reaches_more zero state one other at n same before agrees sound =
    let found = agrees (same.lost ∙ sound) in
    let left : shown_now (zero.entries one) ≡ Some found.0 = ap shown_now (sym (same.entries one)) ∙ found.2 in
    let right : shown_now (zero.entries other) ≡ Some found.1 = ap shown_now (sym (same.entries other)) ∙ found.3 in
    let within : at ≤ length found.0 = ⊎_elim
    (λ (none : at ≡ 0). omega (arith, none))
    (λ was.
    let some : Some was.0 ≡ Some found.0 = sym was.2 ∙ left in
    let is : was.0 ≡ found.0 = cc some in
    omega (arith, was.4, ap length is))
    (before sound) in
    inr (found.0, found.1, left, right, omega (arith, within, found.4.within_a, length-drop at found.0))

pub reached_other : (zero : State) (one other : List ℕ) (at : ℕ) → 2 ^ 62 ≤ at → Reaches zero one other at
    → AreOther zero one other
reached_other zero one other at long reaches sound = ⊎_elim
    (λ (none : at ≡ 0). absurd (omega (arith, none, long)))
    (λ found. (
      found.1,
      found.3,
      λ a left small is.
          let some : Some found.0 ≡ Some a = sym found.2 ∙ left in
          let there : found.0 ≡ a = cc some in
          omega (arith, found.4, ap length there, small, long),
    ))
    (reaches sound)

-- where a file of other octets is, nothing is brought
pub taken_stays : (old new : State) (draft name text octets : List ℕ) → Brings old new draft name text
    → shown_now (old.entries name) ≡ Some octets → octets ≢ text → IsUnchanged old new
taken_stays old new draft name text octets (inl same) shown other = same
taken_stays old new draft name text octets (inr puts) shown other = ⊎_elim
    (λ none. absurd (cc (none, shown)))
    (λ whole.
    let some : Some octets ≡ Some text = sym shown ∙ whole in
    absurd (other (cc some)))
    puts.shown
