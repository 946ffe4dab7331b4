-- What a folder holds.
use Rattle.std.specs.Prelude.{◌≡◌, ◌≢◌, ◌⊎◌, ℕ, ◌≤◌, List, [], ◌∷◌, ◌++◌, Option, None, Some, codes, length}
use Rattle.std.specs.List.{AllByRecursion}
use Rattle.disk.specs.States.{Files}
use Rattle.journal.specs.Batches.{HasBatches}
use Rattle.archive_text.specs.Entries.{Entry, Has, IsEntry}
use Rattle.archive_text.specs.Text.{IsArchive, text_of}
use Rattle.archive_text.specs.declared.limits.TheConstants.{ENTRY_MAX}
use Rattle.archive_text.specs.Periods.{IsIn}
use Rattle.archive_text.specs.declared.period.Period.TheVariants.{Day}
use Rattle.record_store.specs.Names.{IsJournal, IsSegment}
use Rattle.record_store.specs.Seals.{HidesBatches, Seals}

-- these entries, one behind the other as they came
pub record AreEntries (es : List Entry) (text : List ℕ) : Type 0 where
  pub entries : AllByRecursion IsEntry es
  pub fits : AllByRecursion (λ e. length e.octets ≤ ENTRY_MAX) es
  pub text_is : text ≡ text_of es

-- the octets of a batch: these entries, and behind them their seal, or nothing, as older programs wrote it
pub record IsBatch (es : List Entry) (body : List ℕ) : Type 0 where
  pub entries : AllByRecursion IsEntry es
  pub fits : AllByRecursion (λ e. length e.octets ≤ ENTRY_MAX) es
  pub behind : List ℕ
  pub text : body ≡ text_of es ++ behind
  pub seal : Seals (text_of es) behind

-- octets are those of some batch
abbrev pub IsReadable : List ℕ → Type 0
IsReadable body = (es : List Entry) × IsBatch es body

-- octets are those of some batch, with its seal
pub record IsSealedBatch (body : List ℕ) : Type 0 where
  pub entries : List Entry
  pub batch : IsBatch entries body
  pub some : batch.behind ≢ []

-- behind a batch with its seal each batch has one: older programs wrote none, and no program leaves it out once it has
-- written it
abbrev pub StaySealed : List (List ℕ) → Type 0
StaySealed [] = Unit {0}
StaySealed (body ∷ bodies) = (IsSealedBatch body → AllByRecursion IsSealedBatch bodies) × StaySealed bodies

-- some of these batches has its seal
abbrev pub SomeIsSealed : List (List ℕ) → Type 0
SomeIsSealed [] = ⊥
SomeIsSealed (body ∷ bodies) = IsSealedBatch body ⊎ SomeIsSealed bodies

-- each batch of a journal's file is one of entries, those behind a sealed one are sealed, and nothing behind them all
-- hides others
pub record IsWholeJournal (file : List ℕ) : Type 0 where
  pub bodies : List (List ℕ)
  pub batches : HasBatches file bodies
  pub readable : AllByRecursion IsReadable bodies
  pub stay_sealed : StaySealed bodies
  pub nothing_hidden : ¬ (HidesBatches batches.tail)

-- the entry is one of a batch
pub record BatchHas (body : List ℕ) (e : Entry) : Type 0 where
  pub entries : List Entry
  pub batch : IsBatch entries body
  pub has : Has entries e

-- the entry is one of some batch
abbrev pub BatchesHave : List (List ℕ) → Entry → Type 0
BatchesHave [] e = ⊥
BatchesHave (body ∷ bodies) e = BatchHas body e ⊎ BatchesHave bodies e

-- a journal's file has a batch that has the entry
pub record JournalHas (file : List ℕ) (e : Entry) : Type 0 where
  pub bodies : List (List ℕ)
  pub batches : HasBatches file bodies
  pub has : BatchesHave bodies e

-- the entry may be in a segment whose name begins so: it is of that day (or has no time, in `undated`); in `mixed` any
-- may be
abbrev pub IsOfPeriod : List ℕ → Entry → Type 0
IsOfPeriod period e = IsIn Day period e ⊎ (period ≡ codes "mixed")

-- a segment's file is an archive of entries of its period, and this is one of them
pub record SegmentHas (period file : List ℕ) (e : Entry) : Type 0 where
  pub entries : List Entry
  pub archive : IsArchive ENTRY_MAX entries
  pub text_is : file ≡ text_of entries
  pub days : AllByRecursion (IsOfPeriod period) entries
  pub has : Has entries e

-- the file under a name has the entry, as a journal or as a segment
abbrev pub HeldAt : List ℕ → Option (List ℕ) → Entry → Type 0
HeldAt name None e = ⊥
HeldAt name (Some file) e =
    (IsJournal name × JournalHas file e) ⊎ ((day : List ℕ) × IsSegment day name × SegmentHas day file e)

-- the folder holds the entry
pub record Held (files : Files) (e : Entry) : Type 0 where
  pub name : List ℕ
  pub at : HeldAt name (files name) e

-- a folder holds all that another held, and nothing else but what is given
pub record Holds (before after : Files) (given : Entry → Type 0) : Type 0 where
  pub kept : (e : Entry) → Held before e → Held after e
  pub only : (e : Entry) → Held after e → Held before e ⊎ given e
