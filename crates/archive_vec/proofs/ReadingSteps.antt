-- A text is read entry by entry.
use Rattle.std.proofs.Common.{arith, ◌≡◌, ℕ, ◌+◌, ◌<◌, List, ◌++◌, length}
use Rattle.std.specs.List.{AllByRecursion}
use Rattle.archive_text.specs.Entries.{Entry, IsBelow}
use Rattle.archive_text.specs.Faults.{IsFaultBehind}
use Rattle.archive_text.specs.Text.{BeginsWithEntry, IsArchive, text_of}
use Rattle.archive_text.specs.declared.fault.ArchiveFault.TheVariants.{NotAscending}
use Rattle.archive_text.specs.declared.limits.TheConstants.{ENTRY_MAX}
use Rattle.archive_text.proofs.Ascending.{below_last}
use Rattle.archive_text.proofs.Prefixes.{archive_fault}
use Rattle.archive_vec.specs.Reads.{IsFaultOn, IsReadFault}
use Rattle.archive_vec.specs.declared.reading.ReadFault.{ReadFault}
use Rattle.archive_vec.specs.declared.reading.ReadFault.TheVariants.{Bad, Memory}

-- an entry that is not above all others
pub not_ascending : (most n : ℕ) (es : List Entry) (e : Entry) (rest behind : List ℕ) → n ≡ length (text_of es)
    → BeginsWithEntry most rest e behind
    → ¬ (AllByRecursion (λ x. IsBelow x e) es) → IsFaultBehind most es rest (NotAscending n)
not_ascending most n es e rest behind start h none =
    (start, (e, h.entry, (h.carries, h.fits, (behind, h.parts)), λ ascending. none (below_last es e ascending)))

-- and what was read before it is an archive
pub read_fault : (text rest : List ℕ) (es : List Entry) (fault : ReadFault) → IsArchive ENTRY_MAX es
    → text ≡ text_of es ++ rest → 0 < length rest
    → IsFaultOn es rest fault → IsReadFault text fault
read_fault text rest es (Bad fault) archive is some bad =
    archive_fault ENTRY_MAX text es rest fault (omega arith) archive is some bad
read_fault text rest es Memory archive is some bad = tt
