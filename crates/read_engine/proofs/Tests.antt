-- Octets that are no record.
use Rattle.std.proofs.Common.{◌≡◌, List, subst, ℕ}
use Rattle.syslog_reading.specs.WellFormed.{WellFormed}
use Rattle.syslog_grammar.proofs.CanonicalParses.{canonical_well_formed}
use Rattle.archive_text.specs.Faults.{IsEntryFault}
use Rattle.archive_text.specs.declared.fault.EntryFault.{EntryFault}
use Rattle.archive_text.specs.declared.fault.EntryFault.TheVariants.{Bad, NotCanonical}
use Rattle.archive_text.specs.Entries.{Entry, IsEntry}

-- octets with a fault are those of no entry
pub no_entry : (b : List ℕ) (fault : EntryFault) (e : Entry) → IsEntryFault b fault → IsEntry e → e.octets ≡ b → ⊥
no_entry b (Bad fault) e h own same =
    h.1 (own.0, subst (WellFormed own.0) same (canonical_well_formed own.0 e.octets own.1.valid own.1.canonical))
no_entry b NotCanonical e h own same = h.1 e own same
