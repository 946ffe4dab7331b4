-- Where a ledger's whole lines end, as it was read.
use Rattle.std.specs.Prelude.{◌≡◌, ◌⊎◌, ℕ, Bool, true, false, List, [], length, take}
use Rattle.ledger.specs.Chains.{EndsAt, start}
use Rattle.ledger.specs.declared.head.ChainHead.{ChainHead}
use Rattle.ledger_disk.specs.Ledgers.{IsBehind, IsLast, IsLinesEnd}
use Rattle.ledger_disk.specs.declared.appending.LedgerEnd.{LedgerEnd}

-- the whole lines of a text end there, and so does the text where no torn line is told; and the chain stands so
pub record IsEndOf (text : List ℕ) (end : LedgerEnd) : Type 0 where
  pub lines : IsLinesEnd text end.whole
  pub torn : end.is_torn ≡ false → end.whole ≡ length text
  pub behind : IsBehind (take end.whole text) end.head

-- where the chain stands behind the last lines of a text, of which the very last one begins behind others, unless they
-- are all
abbrev pub IsBehindLast : Bool → List ℕ → ChainHead → Type 0
IsBehindLast are_all lines head =
    ((lines ≡ []) × (head ≡ start))
    ⊎ ((front last : List ℕ) × IsLast lines front last × EndsAt head last × ((front ≡ []) → are_all ≡ true))
