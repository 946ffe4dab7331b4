-- The share of each socket.
use Rattle.std.proofs.Common.{◌≡◌, ℕ, ◌+◌, ◌-◌, ◌*◌, ◌^◌, ◌<◌, List, ◌⊎◌, ◌≤◌, inl, inr, lit<, min, subst, sym, arith}
use Rattle.std.specs.Prelude.{Option, Some, None, ◌/◌, IfSome}
use Rattle.std.proofs.lemmas.Bool.{cases_lt}
use Rattle.std.proofs.Math.Nat.{div-mul-le_self, mul-le-mul}
use Rattle.syslog_frame.specs.declared.framing.Framing.{Framing}
use Rattle.socket_source.specs.Shares.{IsPart, IsPartOfFrames, IsShareOf}
use Rattle.socket_source.specs.Standings.{framings_of}
use Rattle.socket_source.specs.Turns.{IfPiece, IsBounded, IsWithinShare, marks}
use Rattle.socket_source.specs.declared.limits.TheConstants.{LEAST_FRAMES, LEAST_OCTETS, ROUND_FRAMES, ROUND_OCTETS}
use Rattle.socket_source.specs.declared.limits.TheConstants.{TURN_FRAMES, TURN_OCTETS}
use Rattle.socket_source.specs.declared.open_sockets.OpenSockets.{OpenSockets}
use Rattle.socket_source.specs.declared.share.Share.{Share}
use Rattle.socket_source.specs.declared.step.ServerStep.{ServerStep}
use Rattle.socket_source.specs.declared.step.ServerStep.TheVariants.{Opened, Piece, Ended, Datagram, TurnedAway}
use Rattle.socket_source.specs.declared.step.ServerStep.TheVariants.{NotAllowed, OverRate, Tick, InputEnded, Finished, Failed}

-- a part of a round that was divided among those that are ready
pub part_divided : (most least round ready parts n : ℕ) → n ≤ most → ready ≤ parts → (n ≤ least) ⊎ (n ≤ round / parts)
    → IsPart most least round ready n
part_divided most least round ready parts n within fewer (inl few) = record { within = within; together = inl few }
part_divided most least round ready parts n within fewer (inr part) = record {
  within = within;
  together = inr (omega (arith, mul-le-mul part fewer, div-mul-le_self round parts));
}

-- less is one too, also where fewer are ready
pub part_of_less : (most least round ready fewer n less : ℕ) → fewer ≤ ready → less ≤ n → IsPart most least round ready n
    → IsPart most least round fewer less
part_of_less most least round ready fewer n less is_fewer is_less part = elim part.together [
  | inl few ↦ record { within = omega (arith, part.within); together = inl (omega (arith, few)) }
  | inr all ↦ record {
    within = omega (arith, part.within);
    together = inr (omega (arith, mul-le-mul is_less is_fewer, all));
  }
]

-- what each of so many more would have, where their number is cut at one beyond that of a round
part_of_more : (most least round parts ready n : ℕ) → parts ≡ min (min ready (2 ^ 64 - 1) + 1) (2 ^ 64 - 1)
    → round < 2 ^ 64 - 1 → IsPart most least round parts n → IsPart most least round (ready + 1) n
part_of_more most least round parts ready n is small part = elim part.together [
  | inl few ↦ record { within = part.within; together = inl few }
  | inr all ↦ elim (cases_lt (2 ^ 64 - 1) (ready + 1)) [
    | inr fits ↦
        let same : parts ≡ ready + 1 = omega (arith, is) in
        record { within = part.within; together = inr (subst (λ p. n * p ≤ round) same all) }
    | inl beyond ↦
        let cut : parts ≡ 2 ^ 64 - 1 = omega (arith, is) in
        let none : n ≤ 0 = omega (arith, subst (λ p. n * p ≤ round) cut all) in
        record { within = part.within; together = inl (omega (arith, none)) }
  ]
]

pub share_of_more : (share : Share) (parts ready : ℕ) → parts ≡ min (min ready (2 ^ 64 - 1) + 1) (2 ^ 64 - 1)
    → IsShareOf parts share → IsShareOf (ready + 1) share
share_of_more share parts ready is of = record {
  octets = part_of_more TURN_OCTETS LEAST_OCTETS ROUND_OCTETS parts ready share.octets is (lit< tt) of.octets;
  frames = part_of_more TURN_FRAMES LEAST_FRAMES ROUND_FRAMES parts ready share.frames is (lit< tt) of.frames;
}

pub if_some_implies : {X : Type 0} (P Q : X → Type 0) → ((x : X) → P x → Q x) → (o : Option X) → IfSome o P → IfSome o Q
if_some_implies P Q implies None holds = holds
if_some_implies P Q implies (Some x) holds = implies x holds

-- a step within a share is bounded where no more are ready than shared
pub bounded_in_share : (share : Share) (ready some fewer : ℕ) (framings : ℕ → Option Framing) (octets : List ℕ)
    (step : Option ServerStep) → IsShareOf ready share → IfSome step (IsWithinShare share framings octets)
    → some ≤ ready → IfSome step (IfPiece (λ conn len. fewer ≤ some)) → IfSome step (IsBounded fewer framings octets)
bounded_in_share share ready some fewer framings octets None is within few still = within
bounded_in_share share ready some fewer framings octets (Some (Piece conn len)) is within few still = (
  part_of_less TURN_OCTETS LEAST_OCTETS ROUND_OCTETS ready fewer share.octets len (omega (arith, few, still)) within.0 is.octets,
  if_some_implies (λ framing. marks framing octets len ≤ share.frames)
      (λ framing. IsPartOfFrames fewer (marks framing octets len))
      (λ framing less. part_of_less TURN_FRAMES LEAST_FRAMES ROUND_FRAMES ready fewer share.frames (marks framing octets len)
      (omega (arith, few, still)) less is.frames) (framings conn) within.1,
)
bounded_in_share share ready some fewer framings octets (Some (Opened conn listener framing peer)) is within few still = tt
bounded_in_share share ready some fewer framings octets (Some (Ended conn end)) is within few still = tt
bounded_in_share share ready some fewer framings octets (Some (Datagram listener peer len)) is within few still = tt
bounded_in_share share ready some fewer framings octets (Some (TurnedAway listener framing peer)) is within few still = tt
bounded_in_share share ready some fewer framings octets (Some (NotAllowed listener peer)) is within few still = tt
bounded_in_share share ready some fewer framings octets (Some (OverRate listener peer)) is within few still = tt
bounded_in_share share ready some fewer framings octets (Some Tick) is within few still = tt
bounded_in_share share ready some fewer framings octets (Some InputEnded) is within few still = tt
bounded_in_share share ready some fewer framings octets (Some Finished) is within few still = tt
bounded_in_share share ready some fewer framings octets (Some (Failed fault)) is within few still = tt

-- the same where other parts of the sockets have changed since
pub bounded_after : (share : Share) (ready some fewer : ℕ) (held now : OpenSockets) (octets : List ℕ)
    (step : Option ServerStep) → now ≡ held → IsShareOf ready share
    → IfSome step (IsWithinShare share (framings_of held) octets) → some ≤ ready
    → IfSome step (IfPiece (λ conn len. fewer ≤ some)) → IfSome step (IsBounded fewer (framings_of now) octets)
bounded_after share ready some fewer held now octets step same is within few still =
    bounded_in_share share ready some fewer (framings_of now) octets step is
    (subst (λ (s : OpenSockets). IfSome step (IsWithinShare share (framings_of s) octets)) (sym same) within) few still

-- what holds in any case
pub if_piece_always : (P : ℕ → ℕ → Type 0) → ((conn len : ℕ) → P conn len) → (step : Option ServerStep)
    → IfSome step (IfPiece P)
if_piece_always P always None = tt
if_piece_always P always (Some (Piece conn len)) = always conn len
if_piece_always P always (Some (Opened conn listener framing peer)) = tt
if_piece_always P always (Some (Ended conn end)) = tt
if_piece_always P always (Some (Datagram listener peer len)) = tt
if_piece_always P always (Some (TurnedAway listener framing peer)) = tt
if_piece_always P always (Some (NotAllowed listener peer)) = tt
if_piece_always P always (Some (OverRate listener peer)) = tt
if_piece_always P always (Some Tick) = tt
if_piece_always P always (Some InputEnded) = tt
if_piece_always P always (Some Finished) = tt
if_piece_always P always (Some (Failed fault)) = tt
