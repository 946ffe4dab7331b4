-- Runs of turns.
use Rattle.std.proofs.Common.{◌≡◌, ◌∙◌, ℕ, ◌<◌, true, false, List, [], ◌∷◌, ◌++◌, inl, inr, refl, sym, ap, subst, arith, Some, None}
use Rattle.std.specs.Prelude.{Bool, Option, IfNone, IfSome, ◌||◌}
use Rattle.std.proofs.lemmas.Bool.{cases_lt}
use Rattle.socket_source.proofs.Orders.{Keeps-then}
use Rattle.socket_source.specs.Runs.{Turn, TakesTurn, Turns, HasTurns, IsOwn, IsServed, ServesAny, connection_number}
use Rattle.socket_source.specs.Runs.{is_of, is_served, listener_number, no_step, of_datagrams, of_other, some_of}
use Rattle.socket_source.specs.Runs.{some_served}
use Rattle.socket_source.specs.Sockets.{IsEnd}
use Rattle.socket_source.specs.Steps.{Standing}
use Rattle.socket_source.specs.Lines.{Asks, Passes, line}
use Rattle.socket_source.specs.Waiting.{Keeps, Line}
use Rattle.socket_source.specs.declared.sockets.Sockets.{Sockets}
use Rattle.socket_source.specs.declared.step.ServerStep.{ServerStep}
use Rattle.socket_source.specs.declared.step.ServerStep.TheVariants.{Opened, Piece, Ended, Datagram, TurnedAway}
use Rattle.socket_source.specs.declared.step.ServerStep.TheVariants.{NotAllowed, OverRate, Tick, InputEnded, Finished, Failed}

-- one run behind another
pub Turns-append : (ts us : List Turn) (old mid new : Line) → Turns ts old mid → Turns us mid new → Turns (ts ++ us) old new
Turns-append [] us old mid new first more = subst (λ (l : Line). Turns us l new) first more
Turns-append (t ∷ ts) us old mid new first more = (first.0, (first.1.0, Turns-append ts us first.0 mid new first.1.1 more))

some_served-behind : (ts us : List Turn) → some_served us ≡ true → some_served (ts ++ us) ≡ true
some_served-behind [] us some = some
some_served-behind (no_step ∷ ts) us some = some_served-behind ts us some
some_served-behind (of_datagrams number ends ∷ ts) us some = refl
some_served-behind (of_other number ends ∷ ts) us some = refl

or_true : (b c : Bool) → c ≡ true → (b || c) ≡ true
or_true true c is = refl
or_true false c is = is

some_of-behind : (number : ℕ) (ts us : List Turn) → some_of number us ≡ true → some_of number (ts ++ us) ≡ true
some_of-behind number [] us some = some
some_of-behind number (t ∷ ts) us some = or_true (is_of number t) (some_of number (ts ++ us))
    (some_of-behind number ts us some)

pub IsServed-behind : (n : ℕ) (ts us : List Turn) (step : ServerStep) → IsServed n step us → IsServed n step (ts ++ us)
IsServed-behind n ts us (Opened conn listener framing peer) is = some_served-behind ts us is
IsServed-behind n ts us (Piece conn len) is = some_of-behind (connection_number n conn) ts us is
IsServed-behind n ts us (Ended conn end) is = tt
IsServed-behind n ts us (Datagram listener peer len) is = some_of-behind (listener_number listener) ts us is
IsServed-behind n ts us (TurnedAway listener framing peer) is = some_served-behind ts us is
IsServed-behind n ts us (NotAllowed listener peer) is = some_served-behind ts us is
IsServed-behind n ts us (OverRate listener peer) is = some_of-behind (listener_number listener) ts us is
IsServed-behind n ts us Tick is = tt
IsServed-behind n ts us InputEnded is = some_served-behind ts us is
IsServed-behind n ts us Finished is = tt
IsServed-behind n ts us (Failed fault) is = tt

own_turn : (number own : ℕ) (turn : Turn) → is_of number turn ≡ true → number ≡ own → some_of own (turn ∷ []) ≡ true
own_turn number own turn is same =
    subst (λ (k : ℕ). (is_of k turn || false) ≡ true) same (ap (λ (b : Bool). b || false) is)

-- the socket with this number had a step
IsServed-one : (n number : ℕ) (turn : Turn) (step : ServerStep) → is_served turn ≡ true → is_of number turn ≡ true
    → IsOwn n number step → IsServed n step (turn ∷ [])
IsServed-one n number turn (Opened conn listener framing peer) some is own = ap (λ (b : Bool). b || false) some
IsServed-one n number turn (Piece conn len) some is own = own_turn number (connection_number n conn) turn is own
IsServed-one n number turn (Ended conn end) some is own = tt
IsServed-one n number turn (Datagram listener peer len) some is own = own_turn number
    (listener_number listener) turn is own
IsServed-one n number turn (TurnedAway listener framing peer) some is own = ap (λ (b : Bool). b || false) some
IsServed-one n number turn (NotAllowed listener peer) some is own = ap (λ (b : Bool). b || false) some
IsServed-one n number turn (OverRate listener peer) some is own = own_turn number (listener_number listener) turn is own
IsServed-one n number turn Tick some is own = tt
IsServed-one n number turn InputEnded some is own = ap (λ (b : Bool). b || false) some
IsServed-one n number turn Finished some is own = tt
IsServed-one n number turn (Failed fault) some is own = tt

-- the end of a connection may come out of turn
IsServed-end : (n : ℕ) (step : ServerStep) → IsEnd step → IsServed n step []
IsServed-end n (Opened c listener framing peer) is = absurd is
IsServed-end n (Piece c len) is = absurd is
IsServed-end n (Ended c end) is = tt
IsServed-end n (Datagram listener peer len) is = absurd is
IsServed-end n (TurnedAway listener framing peer) is = absurd is
IsServed-end n (NotAllowed listener peer) is = absurd is
IsServed-end n (OverRate listener peer) is = absurd is
IsServed-end n Tick is = absurd is
IsServed-end n InputEnded is = absurd is
IsServed-end n Finished is = absurd is
IsServed-end n (Failed fault) is = absurd is

-- no socket had a step
pub turns_kept : (n : ℕ) (step : Option ServerStep) (old new : Line) → Keeps old new
    → IfSome step (λ s. (m : ℕ) → IsServed m s []) → HasTurns n step old new
turns_kept n None old new keeps unserved = (no_step ∷ [], ((new, (keeps, refl)), tt))
turns_kept n (Some step) old new keeps unserved = (
  no_step ∷ [],
  ((new, (keeps, refl)), IsServed-behind n (no_step ∷ []) [] step (unserved n)),
)

pub turns_ended : (n : ℕ) (step : ServerStep) (old new : Line) → Keeps old new → IsEnd step → HasTurns n
    (Some step) old new
turns_ended n step old new keeps is = turns_kept n (Some step) old new keeps (λ m. IsServed-end m step is)

-- one run behind another, of which a step comes
pub turns_then : (n : ℕ) (step : Option ServerStep) (old mid new : Line) → HasTurns n None old mid
    → HasTurns n step mid new
    → HasTurns n step old new
turns_then n None old mid new first more =
    (first.0 ++ more.0, (Turns-append first.0 more.0 old mid new first.1.0 more.1.0, tt))
turns_then n (Some step) old mid new first more = (
  first.0 ++ more.0,
  (Turns-append first.0 more.0 old mid new first.1.0 more.1.0, IsServed-behind n first.0 more.0 step more.1.1),
)

-- one turn, of the socket with this number
turns_one : (n number : ℕ) (step : Option ServerStep) (turn : Turn) (old new : Line) → is_served turn ≡ true
    → is_of number turn ≡ true → TakesTurn turn old new → IfSome step (IsOwn n number) → HasTurns n step old new
turns_one n number None turn old new some is takes own = (turn ∷ [], ((new, (takes, refl)), tt))
turns_one n number (Some step) turn old new some is takes own = (
  turn ∷ [],
  ((new, (takes, refl)), IsServed-one n number turn step some is own),
)

pub turns_of : (n number : ℕ) (step : Option ServerStep) (old new : Line)
    → (turn : Turn) × ((is_served turn ≡ true) × (is_of number turn ≡ true) × TakesTurn turn old new)
    → IfSome step (IsOwn n number) → HasTurns n step old new
turns_of n number step old new (turn, (some, is, takes)) own = turns_one n number step turn old new some is takes own

-- and so it serves any
pub serves_of : (number : ℕ) (old new : Line)
    → (turn : Turn) × ((is_served turn ≡ true) × (is_of number turn ≡ true) × TakesTurn turn old new)
    → ServesAny old new
serves_of number old new (turn, (some, is, takes)) = inr (turn, (some, takes))

-- where no step came, nothing is open that was not
pub turns_at : (old mid : Standing) (step : Option ServerStep) (a b : Line) → mid ≡ old
    → HasTurns mid.listeners step a b
    → HasTurns old.listeners step a b
turns_at old mid step a b same turns = subst (λ (s : Standing). HasTurns s.listeners step a b) same turns

asks_before : {R : Type 0} (old mid new : Sockets R) → Keeps (line old) (line mid) → mid.round ≡ old.round → Asks mid new → Asks old new
asks_before old mid new keeps same asks = record {
  over = sym same ∙ asks.over;
  keeps = Keeps-then (line old) (line mid) (line new) keeps asks.keeps;
  round = asks.round;
}

-- others came before the turn
pub passes_after : {R : Type 0} (old mid new : Sockets R) (step : Option ServerStep) → Keeps (line old) (line mid)
    → mid.round ≡ old.round → (0 < mid.round → ServesAny (line mid) (line new))
    → (mid.round ≡ 0 → IfNone step (Asks mid new)) → IfNone step (Passes old new)
passes_after old mid new (Some step) keeps same serves asks = tt
passes_after old mid new None keeps same serves asks = elim (cases_lt 0 mid.round) [
  | inl some ↦ inr (inr (line mid, (keeps, serves some)))
  | inr none ↦ inr (inl (asks_before old mid new keeps same (asks (omega (arith, none)))))
]

-- a tick was told before
pub passes_early : {R : Type 0} (old new : Sockets R) (step : Option ServerStep) → IfNone step (new.early < old.early)
    → IfNone step (Passes old new)
passes_early old new (Some step) early = tt
passes_early old new None early = inl early

-- no turn
pub turns_none : (n : ℕ) (step : Option ServerStep) (l : Line) → IfSome step (λ s. IsServed n s [])
    → HasTurns n step l l
turns_none n None l is = ([], (refl, tt))
turns_none n (Some step) l is = ([], (refl, is))
