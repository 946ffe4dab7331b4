-- A ledger that is read, octet by octet.
use Rattle.std.specs.Prelude.{◌≡◌, ◌≢◌, ◌↔◌, ℕ, ◌+◌, ◌-◌, ◌^◌, ◌<◌, ◌≤◌, ◌⊎◌, ⊤, List, [], ◌∷◌, ◌++◌, Option, None, Some, IfSome, IsTrue, MatchResult, Result, length, min}
use Rattle.std.specs.Borrow.{Bor}
use Rattle.std.specs.Io.KnownBytes.{Consumes}
use Rattle.std.specs.List.{AllByRecursion}
use Rattle.octet_devices.specs.Device.{AreSmall, InputState}
use Rattle.ledger.specs.Chains.{Continues, IsLedger}
use Rattle.ledger.specs.Lines.{Said}
use Rattle.ledger.specs.Standings.{IsStandingOf, TakesLine}
use Rattle.ledger.specs.declared.fault.LedgerFault.{LedgerFault}
use Rattle.ledger.specs.declared.fault.LedgerFault.TheVariants.{Broken, Input, Memory}
use Rattle.ledger.specs.declared.head.ChainHead.{ChainHead}
use Rattle.ledger.specs.declared.head.TheConstants.{LINE_MAX}
use Rattle.ledger.specs.declared.reader.LedgerRead.{LedgerRead}
use Rattle.ledger.specs.declared.reader.Reading.{Reading}

-- lines, each with its line feed
abbrev pub lines_text : List (List ℕ) → List ℕ
lines_text [] = []
lines_text (line ∷ lines) = line ++ 10 ∷ lines_text lines

-- no line feed
abbrev pub HasNoEnd : List ℕ → Type 0
HasNoEnd octets = AllByRecursion (λ x. x ≢ 10) octets

-- the whole lines of a text, and what stands behind its last line feed
pub record AreLinesOf (text : List ℕ) (lines : List (List ℕ)) (torn : List ℕ) : Type 0 where
  pub parts : text ≡ lines_text lines ++ torn
  pub lines_free : AllByRecursion HasNoEnd lines
  pub torn_free : HasNoEnd torn

-- a line is the one that is asked for, if one is
abbrev pub IsAsked : Option (Bor (List ℕ)) → List ℕ → Type 0
IsAsked None line = ⊥
IsAsked (Some asked) line = line ≡ asked.now

-- it stands among lines
abbrev pub StandsAmong : Option (Bor (List ℕ)) → List (List ℕ) → Type 0
StandsAmong against [] = ⊥
StandsAmong against (line ∷ lines) = IsAsked against line ⊎ StandsAmong against lines

-- the whole lines of a text are a ledger, and this is what they say; what stands behind them is shorter than a line may be
pub record IsRead (against : Option (Bor (List ℕ))) (text : List ℕ) (r : LedgerRead) (torn : List ℕ) : Type 0 where
  pub lines : List (List ℕ)
  pub said : List Said
  pub of_text : AreLinesOf text lines torn
  pub short : length torn < LINE_MAX
  pub ledger : IsLedger lines said r.head
  pub listed : IsStandingOf r.standing said
  pub whole : length text < 2 ^ 64 → r.whole ≡ length (lines_text lines)
  pub asked : IsTrue r.has_line ↔ StandsAmong against lines

-- the first lines of a text are a ledger; what begins here, and is no front of a line that is still to end, is no
-- line that continues it
pub record IsBroken (text : List ℕ) (at : ℕ) : Type 0 where
  pub lines : List (List ℕ)
  pub said : List Said
  pub head : ChainHead
  pub rest : List ℕ
  pub parts : text ≡ lines_text lines ++ rest
  pub ledger : IsLedger lines said head
  pub place : length text < 2 ^ 64 → at ≡ length (lines_text lines)
  pub ended : (¬ HasNoEnd rest) ⊎ (LINE_MAX ≤ length rest)
  pub none : (line more : List ℕ) (s : Said) (next : ChainHead) → Continues head line s next → rest ≢ line ++ 10 ∷ more

-- a line is added behind those that were read
pub record AddsLine (old new : LedgerRead) (against : Option (Bor (List ℕ))) (line : List ℕ) : Type 0 where
  pub said : Said
  pub continues : Continues old.head line said new.head
  pub listed : TakesLine old.standing new.standing new.head.number said
  pub whole : new.whole ≡ min (old.whole + (length line + 1)) (2 ^ 64 - 1)
  pub asked : IsTrue new.has_line ↔ (IsTrue old.has_line ⊎ IsAsked against line)

-- what a fault tells of the octets: where they break
abbrev pub TellsBreak : LedgerFault → (ℕ → Type 0) → Type 0
TellsBreak (Broken at) P = P at
TellsBreak (Input fault) P = ⊥
TellsBreak Memory P = ⊤

-- why a line is not added: it does not continue the ledger, or memory is refused
abbrev pub IsNoLine : LedgerRead → List ℕ → LedgerFault → Type 0
IsNoLine old line fault =
    TellsBreak fault (λ at. (at ≡ old.whole) × ((s : Said) (next : ChainHead) → ¬ Continues old.head line s next))

-- a reading that has taken a text
abbrev pub HasTaken : Reading → List ℕ → Type 0
HasTaken r text = IsRead r.against text r.read r.line.items

-- a reading goes on by octets, whatever was taken before
abbrev pub Follows : Reading → Reading → List ℕ → Type 0
Follows old new octets =
    (new.against ≡ old.against) × ((text : List ℕ) → HasTaken old text → HasTaken new (text ++ octets))

-- a reading takes octets, or what of them no ledger has breaks it, whatever was taken before and comes behind
abbrev pub Takes : {A : Type 0} → Reading → Reading → List ℕ → Result A LedgerFault → Type 0
Takes old new octets r =
    MatchResult r (λ _. Follows old new octets)
    (λ fault. TellsBreak fault
    (λ at. (text more : List ℕ) → HasTaken old text → IsBroken ((text ++ octets) ++ more) at))

-- an input gave octets, and a reading took them
pub record Gives (old new : InputState) (first now : Reading) : Type 0 where
  pub given : List ℕ
  pub consumed : Consumes old.left new.left given
  pub taken : Follows first now given

-- the input failed, or was called as often as can be counted
abbrev pub HasFailed : InputState → InputState → Type 0
HasFailed old new = AreSmall old → (old.failures < new.failures) ⊎ (new.calls ≡ 2 ^ 64 - 1)

-- why an input is not read to its end: what it tells of its octets breaks there, or it failed
abbrev pub IsReadFault : LedgerFault → InputState → InputState → Type 0
IsReadFault (Broken at) old new = IfSome old.left (λ text. IsBroken text at)
IsReadFault (Input fault) old new = HasFailed old new
IsReadFault Memory old new = ⊤
