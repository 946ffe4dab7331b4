-- A text that an input gives whole, if it is not too long.
use Rattle.std.specs.Prelude.{◌≡◌, ℕ, ◌+◌, ◌<◌, ◌≤◌, List, Result, Err, length}
use Rattle.std.specs.Io.KnownBytes.{Consumes, IsAtEnd}
use Rattle.octet_devices.specs.Device.{InputState, count_on}
use Rattle.proof_engine.specs.declared.bounded.TextFault.{TextFault}
use Rattle.proof_engine.specs.declared.bounded.TextFault.TheVariants.{Read, TooLong, Memory}

-- an input gave a piece, of at most so many octets; if it is empty, its end
pub record GavePiece (most : ℕ) (d e : InputState) (given : List ℕ) : Type 0 where
  pub few : length given ≤ most
  pub consumed : Consumes d.left e.left given
  pub calls : e.calls ≤ d.calls + 1
  pub no_failure : e.failures ≡ d.failures
  pub ended : length given ≡ 0 → (e.ends ≡ count_on d.ends) × IsAtEnd e.left
  pub no_end : 0 < length given → e.ends ≡ d.ends

-- an input gave these octets, in at most one call each and one more
pub record Gave (d e : InputState) (given : List ℕ) : Type 0 where
  pub consumed : Consumes d.left e.left given
  pub calls : e.calls ≤ d.calls + length given + 1

-- it gave a text of at most so many octets, and its end
pub record IsText (limit : ℕ) (d e : InputState) (text : List ℕ) : Type 0 where
  pub gave : Gave d e text
  pub fits : length text ≤ limit
  pub ended : e.ends ≡ count_on d.ends
  pub none_left : IsAtEnd e.left

-- it gave so many octets at most, and no end
pub record IsCutOff (most : ℕ) (d e : InputState) : Type 0 where
  pub given : List ℕ
  pub gave : Gave d e given
  pub few : length given ≤ most
  pub no_end : e.ends ≡ d.ends

-- it gave one octet more than the text may have, and was not asked for a further one
pub record GoesOn (limit : ℕ) (d e : InputState) : Type 0 where
  pub given : List ℕ
  pub gave : Gave d e given
  pub more : length given ≡ limit + 1
  pub no_end : e.ends ≡ d.ends

-- why no such text was read: no octet beyond the limit but one was, whatever the fault
abbrev pub IsNoText : ℕ → TextFault → InputState → InputState → Type 0
IsNoText limit Read d e = IsCutOff limit d e
IsNoText limit TooLong d e = GoesOn limit d e
IsNoText limit Memory d e = IsCutOff (limit + 1) d e

-- it failed at this fault alone
abbrev pub TextFailures : {X : Type 0} → Result X TextFault → ℕ → ℕ → Type 0
TextFailures (Err Read) old new = new ≡ count_on old
TextFailures r old new = new ≡ old
