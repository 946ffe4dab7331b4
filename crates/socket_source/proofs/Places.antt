-- What a step of a listener is of.
use Rattle.std.proofs.Common.{◌≡◌, ◌∙◌, ℕ, zero, suc, List, [], ◌∷◌, false, get_or, subst, sym, true}
use Rattle.std.specs.Prelude.{IfSome, slice_get}
use Rattle.std.proofs.lemmas.Bool.{false≢true}
use Rattle.socket_source.specs.Kinds.{is_addressed}
use Rattle.socket_source.specs.declared.bound.Bound.{Bound}
use Rattle.socket_source.specs.Sockets.{IsAt, IsAtOrDisplaced}
use Rattle.socket_source.specs.declared.step.ServerStep.{ServerStep}
use Rattle.socket_source.specs.declared.step.ServerStep.TheVariants.{Opened, Piece, Ended, Datagram, TurnedAway}
use Rattle.socket_source.specs.declared.step.ServerStep.TheVariants.{NotAllowed, OverRate, Tick, InputEnded, Finished, Failed}

pub at_or_displaced : (listener : ℕ) (step : ServerStep) → IsAt listener step → IsAtOrDisplaced listener step
at_or_displaced listener (Opened conn l framing peer) at = at
at_or_displaced listener (Piece conn len) at = at
at_or_displaced listener (Ended conn end) at = absurd at
at_or_displaced listener (Datagram l peer len) at = at
at_or_displaced listener (TurnedAway l framing peer) at = at
at_or_displaced listener (NotAllowed l peer) at = at
at_or_displaced listener (OverRate l peer) at = at
at_or_displaced listener Tick at = at
at_or_displaced listener InputEnded at = at
at_or_displaced listener Finished at = at
at_or_displaced listener (Failed fault) at = at

at_place : (P : Bound → Type 0) (xs : List Bound) (i : ℕ) (b : Bound) → ((d : Bound) → b ≡ get_or xs i d) → P b
    → IfSome (slice_get xs i) P
at_place P [] i b is holds = tt
at_place P (x ∷ xs) zero b is holds = subst P (is b) holds
at_place P (x ∷ xs) (suc i) b is holds = at_place P xs i b is holds

-- nothing is said where a listener of connections is
pub streams_at : (Q : Type 0) (xs ys : List Bound) (i : ℕ) (b : Bound) → xs ≡ ys → ((d : Bound) → b ≡ get_or xs i d)
    → is_addressed b ≡ false → IfSome (slice_get ys i) (λ bound. is_addressed bound ≡ true → Q)
streams_at Q xs ys i b same is none =
    subst (λ (zs : List Bound). IfSome (slice_get zs i) (λ bound. is_addressed bound ≡ true → Q)) same
    (at_place (λ bound. is_addressed bound ≡ true → Q) xs i b is (λ yes. absurd (false≢true (sym none ∙ yes))))
