-- The ledger of a store as a file, and what a line that is written at its end makes of it.
use Rattle.std.specs.Prelude.{◌≡◌, ◌≢◌, ◌⊎◌, ℕ, ◌+◌, ◌-◌, ◌<◌, ◌≤◌, List, [], ◌∷◌, ◌++◌, Option, None, Some, length}
use Rattle.std.specs.Prelude.{MatchOption, slice_index, take, drop}
use Rattle.disk.specs.Files.{File, settled}
use Rattle.disk.specs.Memory.{shown_now}
use Rattle.disk.specs.States.{State}
use Rattle.journal.specs.Journals.{Shows, only_file}
use Rattle.ledger.specs.Chains.{EndsAt, IsNextLine, start}
use Rattle.ledger.specs.Lines.{Said}
use Rattle.ledger.specs.Writing.{AreNextLines}
use Rattle.ledger.specs.declared.head.ChainHead.{ChainHead}

-- the octets of a file, or none
abbrev pub text_in : Option (List ℕ) → List ℕ
text_in None = []
text_in (Some text) = text

-- what a read of the ledger shows; nothing where there is none
abbrev pub ledger_text : State → List ℕ → List ℕ
ledger_text state name = text_in (shown_now (state.entries name))

-- The whole lines of a text end here: no line feed stands behind, and one right before, or nothing.
pub record IsLinesEnd (text : List ℕ) (n : ℕ) : Type 0 where
  pub within : n ≤ length text
  pub behind : (i : ℕ) → n ≤ i → i < length text → slice_index text i ≢ 10
  pub before : (n ≡ 0) ⊎ (slice_index text (n - 1) ≡ 10)

-- the last octets of a text, from an offset on
pub record IsTail (text : List ℕ) (at : ℕ) (octets : List ℕ) : Type 0 where
  pub within : at ≤ length text
  pub octets_are : octets ≡ drop at text

-- a file that is there is the only one under its name, whatever a crash leaves
abbrev pub IsNamed : State → List ℕ → Type 0
IsNamed state name = (file : File) → (state.entries name).now ≡ Some file → state.entries name ≡ only_file file

-- A file begins with these lines, all of them on the disk: whatever a crash leaves of it does.
pub record HoldsLines (state : State) (name lines : List ℕ) : Type 0 where
  pub file : File
  pub entry : state.entries name ≡ only_file file
  pub behind : List ℕ
  pub shown : file.shown ≡ lines ++ behind
  pub synced : length lines ≤ file.synced
  pub untouched : file.rewritten ≡ []

-- the last one of lines, each with its line feed, and those before it
pub record IsLast (lines front last : List ℕ) : Type 0 where
  pub lines_are : lines ≡ front ++ last ++ 10 ∷ []
  pub ends : IsLinesEnd (front ++ last) (length front)

-- the last whole line of a text, without its line feed, or that it has none
abbrev pub IsLastLine : List ℕ → Option (List ℕ) → Type 0
IsLastLine text line =
    (n : ℕ) × IsLinesEnd text n
    × MatchOption line (take n text ≡ []) (λ last. (front : List ℕ) × IsLast (take n text) front last)

-- where the chain stands behind lines: at the last one, or at the start where there are none
abbrev pub IsBehind : List ℕ → ChainHead → Type 0
IsBehind lines head =
    ((lines ≡ []) × (head ≡ start)) ⊎ ((front last : List ℕ) × IsLast lines front last × EndsAt head last)

-- Behind lines that were there the ledger has one more, which continues their chain and says this of a segment, and
-- nothing else. All of it is on the disk.
pub record EndsWith (state : State) (name lines : List ℕ) (s : Said) : Type 0 where
  pub before : ChainHead
  pub time : List ℕ
  pub line : List ℕ
  pub behind : IsBehind lines before
  pub next : IsNextLine before time s line
  pub shows : Shows state name (settled (lines ++ line))

-- whatever whole lines the ledger had, they are there, and behind them one that says this
abbrev pub GainsLine : State → State → List ℕ → Said → Type 0
GainsLine old new name s =
    (n : ℕ) → IsLinesEnd (ledger_text old name) n → EndsWith new name (take n (ledger_text old name)) s

-- Behind lines that were there the ledger has others, which continue their chain and say this of segments, and nothing
-- else. All of it is on the disk.
pub record EndsWithLines (state : State) (name lines : List ℕ) (ss : List Said) : Type 0 where
  pub before : ChainHead
  pub end : ChainHead
  pub text : List ℕ
  pub behind : IsBehind lines before
  pub next : AreNextLines before ss text end
  pub shows : Shows state name (settled (lines ++ text))

-- whatever whole lines the ledger had, they are there, and behind them lines that say this
abbrev pub GainsLines : State → State → List ℕ → List Said → Type 0
GainsLines old new name ss =
    (n : ℕ) → IsLinesEnd (ledger_text old name) n → EndsWithLines new name (take n (ledger_text old name)) ss

-- the whole lines that the ledger had on the disk are there still
abbrev pub KeepsLines : State → State → List ℕ → Type 0
KeepsLines old new name =
    (n : ℕ) → IsLinesEnd (ledger_text old name) n → HoldsLines old name (take n (ledger_text old name))
    → HoldsLines new name (take n (ledger_text old name))
