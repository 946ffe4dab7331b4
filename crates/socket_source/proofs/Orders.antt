-- Numbers that wait, in order.
use Rattle.std.proofs.Common.{◌≡◌, ◌∙◌, ℕ, zero, suc, ◌+◌, ◌<◌, ◌≤◌, Bool, true, false, List, [], ◌∷◌, ◌++◌, length, take, drop}
use Rattle.std.proofs.Common.{inl, inr, lit<, refl, sym, ap, subst, arith, Some}
use Rattle.std.proofs.lemmas.Bool.{eq-eqb}
use Rattle.std.specs.Prelude.{slice_get}
use Rattle.std.proofs.lemmas.List.{length-take, take-take, take_all}
use Rattle.std.proofs.Math.Seq.{take-append_seam}
use Rattle.socket_source.specs.Runs.{Turn, TakesTurn, is_of, is_served, of_datagrams, of_other}
use Rattle.socket_source.specs.Waiting.{Keeps, KeepsOrder, Line, Queue, Serves, Stays, TakesFirst, Chooses, ComesBack, Returns}
use Rattle.socket_source.specs.Waiting.{most_steps, number_of}
use Rattle.socket_source.specs.declared.limits.TheConstants.{DATAGRAMS_A_TURN}
use Rattle.socket_source.specs.declared.ready_sockets.Chosen.{Chosen}
use Rattle.socket_source.specs.declared.ready_sockets.Chosen.TheVariants as chosen

pub KeepsOrder-same : (xs : List ℕ) → KeepsOrder 0 xs xs
KeepsOrder-same xs = take_all (length xs) xs (omega arith)

-- others come behind
pub KeepsOrder-append : (xs ys new : List ℕ) → new ≡ xs ++ ys → KeepsOrder 0 xs new
KeepsOrder-append xs ys new is = ap (take (length xs)) is ∙ take-append_seam xs ys

pub KeepsOrder-then : (taken : ℕ) (xs ys zs : List ℕ) → KeepsOrder taken xs ys → KeepsOrder 0 ys zs → KeepsOrder taken xs zs
KeepsOrder-then taken xs ys zs first more =
    let within : length (drop taken xs) ≤ length ys =
    omega (arith, ap length first, length-take (length (drop taken xs)) ys) in
    sym (take-take (length (drop taken xs)) (length ys) zs within) ∙ ap (take (length (drop taken xs))) more ∙ first

-- those behind the first so many are still in their order
pub KeepsOrder-rest : (n : ℕ) (xs ys : List ℕ) → KeepsOrder 0 xs ys → KeepsOrder 0 (drop n xs) (drop n ys)
KeepsOrder-rest zero xs ys keeps = keeps
KeepsOrder-rest (suc n) [] ys keeps = refl
KeepsOrder-rest (suc n) (x ∷ xs) [] keeps = let none : [] ≡ x ∷ xs = keeps in absurd (cc)
KeepsOrder-rest (suc n) (x ∷ xs) (y ∷ ys) keeps = KeepsOrder-rest n xs ys (ap (drop 1) keeps)

-- those in line are no fewer
pub length_kept : (xs ys : List ℕ) → KeepsOrder 0 xs ys → length xs ≤ length ys
length_kept xs ys keeps = omega (arith, ap length keeps, length-take (length xs) ys)

-- the first of a queue has left it, had its step, and come back or not
serves_first : (number most : ℕ) (old mid new : Queue) → 0 < most → TakesFirst number old mid → Returns number most mid new
    → (ends : Bool) × Serves number ends most old new
serves_first number most old mid new some leaves (inl on) = (
  false,
  record {
    first = ap (λ (q : List ℕ). slice_get q 0) leaves.first;
    numbers = subst (λ (q : List ℕ). KeepsOrder 0 q new.numbers) (sym leaves.first) on.numbers;
    goes_on = on.goes_on;
    had = rw on.goes_on (on.steps ∙ ap (λ n. n + 1) leaves.steps);
    few = rw on.goes_on on.few;
  },
)
serves_first number most old mid new some leaves (inr gone) = (
  true,
  record {
    first = ap (λ (q : List ℕ). slice_get q 0) leaves.first;
    numbers = subst (λ (q : List ℕ). KeepsOrder 1 q new.numbers) (sym leaves.first) gone.numbers;
    goes_on = gone.goes_on ∙ leaves.goes_on;
    had = rw (gone.goes_on ∙ leaves.goes_on) refl;
    few = rw (gone.goes_on ∙ leaves.goes_on) some;
  },
)

some_steps : (listeners number : ℕ) → 0 < most_steps listeners number
some_steps listeners zero = lit< tt
some_steps listeners (suc listener) = grind arith

Stays-then : (old mid new : Queue) → Stays old mid → Stays mid new → Stays old new
Stays-then old mid new first more = record {
  numbers = KeepsOrder-then 0 old.numbers mid.numbers new.numbers first.numbers more.numbers;
  goes_on = more.goes_on ∙ first.goes_on;
  had = more.had ∙ first.had;
}

pub Keeps-then : (old mid new : Line) → Keeps old mid → Keeps mid new → Keeps old new
Keeps-then old mid new first more = record {
  datagrams = Stays-then old.datagrams mid.datagrams new.datagrams first.datagrams more.datagrams;
  others = Stays-then old.others mid.others new.others first.others more.others;
  between = more.between ∙ first.between;
  listeners = more.listeners ∙ first.listeners;
}

-- a socket was chosen, and has had its step
pub turn_of : (which : Chosen) (old mid new : Line) → Chooses (Some which) old mid → ComesBack which mid new
    → (turn : Turn) × ((is_served turn ≡ true) × (is_of (number_of which) turn ≡ true) × TakesTurn turn old new)
turn_of (chosen.Datagrams number) old mid new leaves back =
    let serves = serves_first number DATAGRAMS_A_TURN old.datagrams mid.datagrams new.datagrams (lit< tt) leaves.datagrams back.datagrams in (
      of_datagrams number serves.0,
      (
        refl,
        eq-eqb number number refl,
        record {
          may = leaves.may;
          datagrams = serves.1;
          others = Stays-then old.others mid.others new.others leaves.others back.others;
          between = back.between ∙ leaves.between;
          listeners = back.listeners ∙ leaves.listeners;
        },
      ),
    )
turn_of (chosen.Other number) old mid new leaves back =
    let most = most_steps old.listeners number in
    let returns = subst (λ n. Returns number (most_steps n number) mid.others new.others) leaves.listeners back.others in
    let serves = serves_first number most old.others mid.others new.others (some_steps old.listeners number) leaves.others returns in (
      of_other number serves.0,
      (
        refl,
        eq-eqb number number refl,
        record {
          may = leaves.may;
          datagrams = Stays-then old.datagrams mid.datagrams new.datagrams leaves.datagrams back.datagrams;
          others = serves.1;
          between = back.between ∙ leaves.between;
          listeners = back.listeners ∙ leaves.listeners;
        },
      ),
    )
