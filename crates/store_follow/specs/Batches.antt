-- What is written of the batches of a journal.
use Rattle.std.specs.Prelude.{◌≡◌, ◌≢◌, ℕ, ◌+◌, ◌≤◌, List, [], ◌∷◌, ◌++◌, Option, drop, length}
use Rattle.std.specs.Io.KnownBytes.{Appends}
use Rattle.std.specs.List.{AllByRecursion}
use Rattle.journal.specs.Batches.{IsBody, batches_text, open_batch}
use Rattle.archive_text.specs.Entries.{Entry, IsEntry}
use Rattle.archive_text.specs.Text.{text_of}
use Rattle.archive_text.specs.declared.limits.TheConstants.{ENTRY_MAX}
use Rattle.record_store.specs.Holdings.{IsBatch}
use Rattle.store_follow.specs.declared.fault.BatchFault.{BatchFault}
use Rattle.store_follow.specs.declared.fault.BatchFault.TheVariants.{Disk, Damaged, Write}

-- the text of the entries of a batch, one behind the other, without their seal
pub record BatchText (body text : List ℕ) : Type 0 where
  pub entries : List Entry
  pub batch : IsBatch entries body
  pub text_is : text ≡ text_of entries

-- the same of batches, one behind the other
abbrev pub BatchTexts : List (List ℕ) → List ℕ → Type 0
BatchTexts [] text = text ≡ []
BatchTexts (body ∷ bodies) text =
    (first : List ℕ) × (rest : List ℕ) × BatchText body first × BatchTexts bodies rest × (text ≡ first ++ rest)

-- a batch begins with entries, and then this comes
pub record HasEntriesBefore (body rest : List ℕ) : Type 0 where
  pub entries : List Entry
  pub are : AllByRecursion IsEntry entries
  pub fit : AllByRecursion (λ e. length e.octets ≤ ENTRY_MAX) entries
  pub parts : body ≡ text_of entries ++ rest

-- octets begin with a batch, open and whole, whose entries have this text; it takes so many octets
pub record BeginsWithText (octets text : List ℕ) (len : ℕ) : Type 0 where
  pub body : List ℕ
  pub rest : List ℕ
  pub sized : IsBody body
  pub parts : octets ≡ open_batch body ++ rest
  pub len_is : len ≡ length (open_batch body)
  pub batch : BatchText body text

-- from an offset of a file to another one there are these batches, each open and whole, and nothing else
pub record AreBetween (file : List ℕ) (at end : ℕ) (bodies : List (List ℕ)) : Type 0 where
  pub sized : AllByRecursion IsBody bodies
  pub parts : drop at file ≡ batches_text bodies ++ drop end file
  pub end_is : end ≡ at + length (batches_text bodies)

-- the entries of all batches between two offsets of a file were written, in their order, and nothing else
pub record Writes (file : List ℕ) (at end : ℕ) (before now : Option (List ℕ)) : Type 0 where
  pub bodies : List (List ℕ)
  pub between : AreBetween file at end bodies
  pub text : List ℕ
  pub texts : BatchTexts bodies text
  pub appends : Appends before now text

-- and besides a part, and not all, of the text of the entries of the batch behind them
pub record WritesPart (file : List ℕ) (at end : ℕ) (before now : Option (List ℕ)) : Type 0 where
  pub middle : Option (List ℕ)
  pub writes : Writes file at end before middle
  pub text : List ℕ
  pub len : ℕ
  pub next : BeginsWithText (drop end file) text len
  pub part : List ℕ
  pub left : List ℕ
  pub parts : text ≡ part ++ left
  pub some_left : left ≢ []
  pub appends : Appends middle now part

-- what was written where a fault came: a part of a batch only where the output failed
abbrev pub Stops : BatchFault → List ℕ → ℕ → ℕ → Option (List ℕ) → Option (List ℕ) → Type 0
Stops (Disk fault) file at end before now = Writes file at end before now
Stops Damaged file at end before now = Writes file at end before now
Stops Write file at end before now = WritesPart file at end before now
