-- What files have.
use Rattle.std.specs.Prelude.{◌≡◌, ℕ, List, [], ◌∷◌, ◌++◌, IsSomeAnd, length}
use Rattle.disk.specs.States.{Files}
use Rattle.journal.specs.Batches.{HasBatches}
use Rattle.archive_text.specs.Entries.{Entry}
use Rattle.record_store.specs.Holdings.{IsBatch, IsWholeJournal}
use Rattle.record_store.specs.Names.{IsJournal, IsSegment}
use Rattle.record_store.specs.Segments.{IsSegmentOf}
use Rattle.store_reading.specs.Days.{IsPeriodText}
use Rattle.store_upkeep.specs.Causes.{IsCounted}
use Rattle.store_statistics.specs.Tallies.{AreFigures}
use Rattle.store_statistics.specs.declared.figures.Figures.{Figures}

-- the entries of batches, one behind the other
abbrev pub AreOfBatches : List (List ℕ) → List Entry → Type 0
AreOfBatches [] es = es ≡ []
AreOfBatches (body ∷ bodies) es =
    (first : List Entry) × (more : List Entry) × (es ≡ first ++ more) × IsBatch first body × AreOfBatches bodies more

-- the entries of a journal's batches, as they came
pub record AreOfJournal (file : List ℕ) (es : List Entry) : Type 0 where
  pub bodies : List (List ℕ)
  pub batches : HasBatches file bodies
  pub of : AreOfBatches bodies es

-- a segment is an archive of entries of the period, and these are its figures
pub record IsSegmentWith (period file : List ℕ) (f : Figures) : Type 0 where
  pub entries : List Entry
  pub segment : IsSegmentOf period file entries
  pub figures : AreFigures f entries (length file)

-- a journal is whole, and these are its figures
pub record IsJournalWith (file : List ℕ) (f : Figures) : Type 0 where
  pub whole : IsWholeJournal file
  pub entries : List Entry
  pub of : AreOfJournal file entries
  pub figures : AreFigures f entries (length file)

-- a file that counts, by its name as a journal or as a segment, has these figures
pub record IsFileWith (name file : List ℕ) (f : Figures) : Type 0 where
  pub counts : IsCounted name
  pub journal : IsJournal name → IsJournalWith file f
  pub segment : (period : List ℕ) → IsPeriodText period → IsSegment period name → IsSegmentWith period file f

-- there is one under the name
abbrev pub HasFigures : Files → List ℕ → Figures → Type 0
HasFigures files name f = IsSomeAnd (files name) (λ file. IsFileWith name file f)
