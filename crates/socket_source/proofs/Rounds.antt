-- What runs of turns do to the queues.
use Rattle.std.proofs.Common.{◌≡◌, ◌∙◌, ℕ, zero, suc, ◌+◌, ◌*◌, ◌<◌, ◌≤◌, Bool, true, false, List, [], ◌∷◌, length, drop, lit≤}
use Rattle.std.proofs.Common.{sym, ap, subst, arith}
use Rattle.std.specs.Prelude.{if◌then◌else◌, slice_get}
use Rattle.std.proofs.Math.Nat.{add-mul}
use Rattle.std.proofs.lemmas.List.{drop-drop}
use Rattle.socket_source.proofs.Orders.{KeepsOrder-rest, KeepsOrder-same, KeepsOrder-then}
use Rattle.socket_source.specs.Runs.{Turn, Turns, ended, ends_of_datagrams, ends_of_others, no_step, of_datagrams, of_other}
use Rattle.socket_source.specs.Waiting.{KeepsOrder, Line, Queue, Serves, most_steps, steps_had}
use Rattle.socket_source.specs.declared.limits.TheConstants.{ACCEPTS_A_TURN, DATAGRAMS_A_TURN}

-- first some have left a queue, and then others
left_then : (m n all : ℕ) (xs ys zs : List ℕ) → all ≡ m + n → KeepsOrder m xs ys → KeepsOrder n ys zs → KeepsOrder all xs zs
left_then m n all xs ys zs is first later =
    let rest : KeepsOrder 0 (drop n (drop m xs)) (drop n ys) = KeepsOrder-rest n (drop m xs) ys first in
    let both : KeepsOrder 0 (drop n (drop m xs)) zs = KeepsOrder-then 0 (drop n (drop m xs)) (drop n ys) zs rest later in
    subst (λ (q : List ℕ). KeepsOrder 0 q zs) (drop-drop n m xs ∙ ap (λ k. drop k xs) (sym is)) both

-- those that had their turns have left, and all others are in their order
pub datagrams_in_order : (ts : List Turn) (old new : Line) → Turns ts old new
    → KeepsOrder (ended (ends_of_datagrams ts)) old.datagrams.numbers new.datagrams.numbers
datagrams_in_order [] old new same =
    subst (λ (l : Line). KeepsOrder 0 old.datagrams.numbers l.datagrams.numbers) (sym same) (KeepsOrder-same old.datagrams.numbers)
datagrams_in_order (no_step ∷ ts) old new (mid, (keeps, rest)) =
    let n = ended (ends_of_datagrams ts) in
    left_then 0 n n old.datagrams.numbers mid.datagrams.numbers new.datagrams.numbers (omega arith) keeps.datagrams.numbers
    (datagrams_in_order ts mid new rest)
datagrams_in_order (of_datagrams number ends ∷ ts) old new (mid, (takes, rest)) =
    let n = ended (ends_of_datagrams ts) in
    let m = if ends then 1 else 0 in
    left_then m n (n + m) old.datagrams.numbers mid.datagrams.numbers new.datagrams.numbers (omega arith) takes.datagrams.numbers
    (datagrams_in_order ts mid new rest)
datagrams_in_order (of_other number ends ∷ ts) old new (mid, (takes, rest)) =
    let n = ended (ends_of_datagrams ts) in
    left_then 0 n n old.datagrams.numbers mid.datagrams.numbers new.datagrams.numbers (omega arith) takes.datagrams.numbers
    (datagrams_in_order ts mid new rest)

pub others_in_order : (ts : List Turn) (old new : Line) → Turns ts old new
    → KeepsOrder (ended (ends_of_others ts)) old.others.numbers new.others.numbers
others_in_order [] old new same =
    subst (λ (l : Line). KeepsOrder 0 old.others.numbers l.others.numbers) (sym same) (KeepsOrder-same old.others.numbers)
others_in_order (no_step ∷ ts) old new (mid, (keeps, rest)) =
    let n = ended (ends_of_others ts) in
    left_then 0 n n old.others.numbers mid.others.numbers new.others.numbers (omega arith) keeps.others.numbers
    (others_in_order ts mid new rest)
others_in_order (of_datagrams number ends ∷ ts) old new (mid, (takes, rest)) =
    let n = ended (ends_of_others ts) in
    left_then 0 n n old.others.numbers mid.others.numbers new.others.numbers (omega arith) takes.others.numbers
    (others_in_order ts mid new rest)
others_in_order (of_other number ends ∷ ts) old new (mid, (takes, rest)) =
    let n = ended (ends_of_others ts) in
    let m = if ends then 1 else 0 in
    left_then m n (n + m) old.others.numbers mid.others.numbers new.others.numbers (omega arith) takes.others.numbers
    (others_in_order ts mid new rest)

-- who was at a place is the first, once as many as were before it have left
pub first_behind : (k : ℕ) (xs zs : List ℕ) → KeepsOrder k xs zs → k < length xs → slice_get zs 0 ≡ slice_get xs k
first_behind k [] zs keeps within = absurd (omega arith)
first_behind zero (x ∷ xs) [] keeps within = let none : [] ≡ x ∷ xs = keeps in absurd (cc)
first_behind zero (x ∷ xs) (z ∷ zs) keeps within = ap (λ (q : List ℕ). slice_get q 0) keeps
first_behind (suc k) (x ∷ xs) zs keeps within = first_behind k xs zs keeps (omega arith)

-- a step of a turn of at most so many
pub record Counts (cap ended had now : ℕ) : Type 0 where
  pub steps : 1 + had ≤ ended * cap + now
  pub few : now < cap

counts_step : (number : ℕ) (ends : Bool) (most cap : ℕ) (old new : Queue) → most ≤ cap → Serves number ends most old new
    → steps_had old < cap → Counts cap (if ends then 1 else 0) (steps_had old) (steps_had new)
counts_step number true most cap old new within serves few = record {
  steps = omega (arith, few);
  few = omega (arith, serves.few);
}
counts_step number false most cap old new within serves few = record {
  steps = omega (arith, serves.had);
  few = omega (arith, serves.few);
}

most_steps-within : (listeners number : ℕ) → most_steps listeners number ≤ ACCEPTS_A_TURN
most_steps-within listeners zero = lit≤ tt
most_steps-within listeners (suc listener) = grind arith

-- so many turns ended at least, and the one that goes on has had the rest of the steps
pub record Within (cap count ended had now : ℕ) : Type 0 where
  pub steps : count + had ≤ ended * cap + now
  pub few : now < cap

within_then : (cap ended had mid : ℕ) (count more now : ℕ) → Counts cap ended had mid → Within cap count more mid now
    → Within cap (suc count) (more + ended) had now
within_then cap ended had mid count more now first later = record {
  steps = omega (arith, first.steps, later.steps, add-mul more ended cap);
  few = later.few;
}

within_same : (cap had now : ℕ) → now ≡ had → had < cap → Within cap 0 0 had now
within_same cap had now same few = record { steps = omega (arith, same); few = omega (arith, same, few) }

pub others_within : (ts : List Turn) (old new : Line) → Turns ts old new → steps_had old.others < ACCEPTS_A_TURN
    → Within ACCEPTS_A_TURN (length (ends_of_others ts)) (ended (ends_of_others ts)) (steps_had old.others) (steps_had new.others)
others_within [] old new same few =
    within_same ACCEPTS_A_TURN (steps_had old.others) (steps_had new.others) (ap (λ (l : Line). steps_had l.others) same) few
others_within (no_step ∷ ts) old new (mid, (keeps, rest)) few =
    subst (λ n. Within ACCEPTS_A_TURN (length (ends_of_others ts)) (ended (ends_of_others ts)) n (steps_had new.others))
    keeps.others.had (others_within ts mid new rest (omega (arith, keeps.others.had, few)))
others_within (of_datagrams number ends ∷ ts) old new (mid, (takes, rest)) few =
    subst (λ n. Within ACCEPTS_A_TURN (length (ends_of_others ts)) (ended (ends_of_others ts)) n (steps_had new.others))
    takes.others.had (others_within ts mid new rest (omega (arith, takes.others.had, few)))
others_within (of_other number ends ∷ ts) old new (mid, (takes, rest)) few =
    let counts = counts_step number ends (most_steps old.listeners number) ACCEPTS_A_TURN old.others mid.others
    (most_steps-within old.listeners number) takes.others few in
    within_then ACCEPTS_A_TURN (if ends then 1 else 0) (steps_had old.others) (steps_had mid.others) (length (ends_of_others ts))
    (ended (ends_of_others ts)) (steps_had new.others) counts (others_within ts mid new rest counts.few)

pub datagrams_within : (ts : List Turn) (old new : Line) → Turns ts old new → steps_had old.datagrams < DATAGRAMS_A_TURN
    → Within DATAGRAMS_A_TURN (length (ends_of_datagrams ts)) (ended (ends_of_datagrams ts)) (steps_had old.datagrams) (steps_had new.datagrams)
datagrams_within [] old new same few =
    within_same DATAGRAMS_A_TURN (steps_had old.datagrams) (steps_had new.datagrams) (ap (λ (l : Line). steps_had l.datagrams) same) few
datagrams_within (no_step ∷ ts) old new (mid, (keeps, rest)) few =
    subst (λ n. Within DATAGRAMS_A_TURN (length (ends_of_datagrams ts)) (ended (ends_of_datagrams ts)) n (steps_had new.datagrams))
    keeps.datagrams.had (datagrams_within ts mid new rest (omega (arith, keeps.datagrams.had, few)))
datagrams_within (of_datagrams number ends ∷ ts) old new (mid, (takes, rest)) few =
    let counts = counts_step number ends DATAGRAMS_A_TURN DATAGRAMS_A_TURN old.datagrams mid.datagrams (omega arith) takes.datagrams few in
    within_then DATAGRAMS_A_TURN (if ends then 1 else 0) (steps_had old.datagrams) (steps_had mid.datagrams) (length (ends_of_datagrams ts))
    (ended (ends_of_datagrams ts)) (steps_had new.datagrams) counts (datagrams_within ts mid new rest counts.few)
datagrams_within (of_other number ends ∷ ts) old new (mid, (takes, rest)) few =
    subst (λ n. Within DATAGRAMS_A_TURN (length (ends_of_datagrams ts)) (ended (ends_of_datagrams ts)) n (steps_had new.datagrams))
    takes.datagrams.had (datagrams_within ts mid new rest (omega (arith, takes.datagrams.had, few)))

-- so as many turns have ended as there were whole ones in the steps
pub datagrams_ended : (steps ended had now k : ℕ) → Within DATAGRAMS_A_TURN steps ended had now → k * DATAGRAMS_A_TURN ≤ steps → k ≤ ended
datagrams_ended steps ended had now k within all = omega (arith, within.steps, within.few, all)

pub others_ended : (steps ended had now k : ℕ) → Within ACCEPTS_A_TURN steps ended had now → k * ACCEPTS_A_TURN ≤ steps → k ≤ ended
others_ended steps ended had now k within all = omega (arith, within.steps, within.few, all)
