-- What one queue has while the other waits.
use Rattle.std.proofs.Common.{◌≡◌, ◌∙◌, ℕ, suc, ◌+◌, ◌<◌, ◌≤◌, ◌⊎◌, Bool, true, false, List, [], ◌∷◌, length, inl, inr, lit<}
use Rattle.std.proofs.Common.{refl, ap, subst, arith}
use Rattle.std.proofs.lemmas.Grind.{div_ceil_times}
use Rattle.socket_source.proofs.Orders.{length_kept}
use Rattle.socket_source.specs.Runs.{Turn, Turns, ends_of_datagrams, ends_of_others, no_step, of_datagrams, of_other}
use Rattle.socket_source.specs.Waiting.{Line, MayTakeDatagram, MayTakeOther, Queue, Serves, Stays, room_of, steps_had}
use Rattle.socket_source.specs.declared.limits.TheConstants.{DATAGRAMS_A_TURN, STEPS_BETWEEN}

-- some room is left where one waits, and not too much
some_room : (ready : ℕ) → 0 < ready → 0 < room_of ready
some_room ready some = omega (arith, some, div_ceil_times ready 16 (lit< tt))

-- the others have something, and no datagram socket goes on unless so many steps are left of its turn
pub record Bounded (steps : ℕ) (goes_on : Bool) (had : ℕ) : Type 0 where
  pub over : goes_on ≡ false → steps ≡ 0
  pub within : steps + had ≤ DATAGRAMS_A_TURN

goes_on_or_had : (queue : Queue) → queue.goes_on ≡ false → steps_had queue ≡ 0
goes_on_or_had queue over = rw over refl

-- a datagram socket takes a step right behind one: it goes on with its turn
must_go_on : (l : Line) → 0 < length l.others.numbers → l.between ≡ 0 → MayTakeDatagram l → l.datagrams.goes_on ≡ true
must_go_on l some none (inl goes) = goes
must_go_on l some none (inr room) = absurd (omega (arith, some_room (length l.others.numbers) some, none, room))

one_more : (steps : ℕ) (number : ℕ) (ends : Bool) (old mid : Queue) → Serves number ends DATAGRAMS_A_TURN old mid → steps_had old < DATAGRAMS_A_TURN
    → Bounded steps mid.goes_on (steps_had mid) → suc steps + steps_had old ≤ DATAGRAMS_A_TURN
one_more steps number true old mid serves few rest = omega (arith, rest.over serves.goes_on, few)
one_more steps number false old mid serves few rest = omega (arith, rest.within, serves.had)

bounded_same : (steps : ℕ) (old mid : Queue) → Stays old mid → Bounded steps mid.goes_on (steps_had mid)
    → Bounded steps old.goes_on (steps_had old)
bounded_same steps old mid stays rest = record {
  over = λ is. rest.over (stays.goes_on ∙ is);
  within = omega (arith, rest.within, stays.had);
}

-- behind a step of a datagram socket
behind_datagram : (ts : List Turn) (old new : Line) → Turns ts old new → 0 < length old.others.numbers → old.between ≡ 0
    → steps_had old.datagrams < DATAGRAMS_A_TURN → ends_of_others ts ≡ []
    → Bounded (length (ends_of_datagrams ts)) old.datagrams.goes_on (steps_had old.datagrams)
behind_datagram [] old new same some none few alone = record { over = λ is. refl; within = omega (arith, few) }
behind_datagram (no_step ∷ ts) old new (mid, (keeps, rest)) some none few alone =
    bounded_same (length (ends_of_datagrams ts)) old.datagrams mid.datagrams keeps.datagrams
    (behind_datagram ts mid new rest (omega (arith, some, length_kept old.others.numbers mid.others.numbers keeps.others.numbers))
    (keeps.between ∙ none) (omega (arith, keeps.datagrams.had, few)) alone)
behind_datagram (of_datagrams number ends ∷ ts) old new (mid, (takes, rest)) some none few alone =
    let goes = must_go_on old some none takes.may in
    let behind = behind_datagram ts mid new rest
    (omega (arith, some, length_kept old.others.numbers mid.others.numbers takes.others.numbers)) takes.between
    (takes.datagrams.few) alone in
    record {
      over = λ is. absurd (cc);
      within = one_more (length (ends_of_datagrams ts)) number ends old.datagrams mid.datagrams takes.datagrams few behind;
    }
behind_datagram (of_other number ends ∷ ts) old new (mid, (takes, rest)) some none few alone = absurd (cc)

pub datagrams_in_a_row : (ts : List Turn) (old new : Line) → Turns ts old new → 0 < length old.others.numbers
    → steps_had old.datagrams < DATAGRAMS_A_TURN → ends_of_others ts ≡ [] → length (ends_of_datagrams ts) ≤ DATAGRAMS_A_TURN
datagrams_in_a_row [] old new same some few alone = omega arith
datagrams_in_a_row (no_step ∷ ts) old new (mid, (keeps, rest)) some few alone =
    datagrams_in_a_row ts mid new rest (omega (arith, some, length_kept old.others.numbers mid.others.numbers keeps.others.numbers))
    (omega (arith, keeps.datagrams.had, few)) alone
datagrams_in_a_row (of_datagrams number ends ∷ ts) old new (mid, (takes, rest)) some few alone =
    let behind = behind_datagram ts mid new rest
    (omega (arith, some, length_kept old.others.numbers mid.others.numbers takes.others.numbers)) takes.between
    (takes.datagrams.few) alone in
    let all : suc (length (ends_of_datagrams ts)) + steps_had old.datagrams ≤ DATAGRAMS_A_TURN =
    one_more (length (ends_of_datagrams ts)) number ends old.datagrams mid.datagrams takes.datagrams few behind in
    omega (arith, all)
datagrams_in_a_row (of_other number ends ∷ ts) old new (mid, (takes, rest)) some few alone = absurd (cc)

none_waits : (xs : List ℕ) → 0 < length xs → xs ≡ [] → ⊥
none_waits xs some none = omega (arith, ap length none, some)

-- another socket has a step while a datagram socket waits
other_before : (l : Line) → 0 < length l.datagrams.numbers → MayTakeOther l → l.between < STEPS_BETWEEN
other_before l some (inl none) = absurd (none_waits l.datagrams.numbers some none)
other_before l some (inr waits) = omega (arith, waits.1)

others_before : (ts : List Turn) (old new : Line) → Turns ts old new → 0 < length old.datagrams.numbers → ends_of_datagrams ts ≡ []
    → (length (ends_of_others ts) ≡ 0) ⊎ (length (ends_of_others ts) + old.between ≤ STEPS_BETWEEN)
others_before [] old new same some alone = inl refl
others_before (no_step ∷ ts) old new (mid, (keeps, rest)) some alone =
    subst (λ n. (length (ends_of_others ts) ≡ 0) ⊎ (length (ends_of_others ts) + n ≤ STEPS_BETWEEN)) keeps.between
    (others_before ts mid new rest
    (omega (arith, some, length_kept old.datagrams.numbers mid.datagrams.numbers keeps.datagrams.numbers)) alone)
others_before (of_datagrams number ends ∷ ts) old new (mid, (takes, rest)) some alone = absurd (cc)
others_before (of_other number ends ∷ ts) old new (mid, (takes, rest)) some alone =
    let before = other_before old some takes.may in
    elim (others_before ts mid new rest
    (omega (arith, some, length_kept old.datagrams.numbers mid.datagrams.numbers takes.datagrams.numbers)) alone) [
      | inl none ↦ inr (omega (arith, none, before))
      | inr more ↦ inr (omega (arith, more, takes.between, before))
    ]

pub others_in_a_row : (ts : List Turn) (old new : Line) → Turns ts old new → 0 < length old.datagrams.numbers
    → ends_of_datagrams ts ≡ [] → length (ends_of_others ts) ≤ STEPS_BETWEEN
others_in_a_row ts old new turns some alone = elim (others_before ts old new turns some alone) [
  | inl none ↦ omega (arith, none)
  | inr more ↦ omega (arith, more)
]
