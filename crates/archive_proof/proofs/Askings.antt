-- Texts of records that are asked for.
use Rattle.std.proofs.Common.{◌≡◌, ℕ, ◌<◌, ◌≤◌, List, [], ◌∷◌, ◌++◌, length, refl, sym, ap, subst}
use Rattle.std.proofs.Common.{arith, length-append}
use Rattle.std.specs.List.{AllByRecursion}
use Rattle.std.specs.Prelude.{decimal}
use Rattle.syslog_frame.specs.Frames.{framed}
use Rattle.syslog_frame.specs.declared.framing.Framing.TheVariants.{Counted}
use Rattle.archive_text.specs.Entries.{Entry, IsEntry}
use Rattle.archive_text.specs.Faults.{IsCountFault}
use Rattle.archive_text.specs.Positions.{position_of}
use Rattle.archive_text.specs.declared.fault.ArchiveFault.{ArchiveFault}
use Rattle.archive_text.specs.declared.fault.ArchiveFault.TheVariants.{BadFrame, EntryTooLong, BadEntry, NotCanonical}
use Rattle.archive_text.specs.declared.fault.ArchiveFault.TheVariants.{NotAscending}
use Rattle.archive_text.specs.declared.limits.TheConstants.{ENTRY_MAX}
use Rattle.archive_text.proofs.FaultLaws.{position_within}
use Rattle.archive_proof.specs.Asking.{AreAskedIn, asked_entries, asked_entry, IsFirstAsked, IsTextFault}
use Rattle.archive_proof.specs.declared.asked.AskedRecord.{AskedRecord}

-- one record more
pub asked_more : (text : List ℕ) (es : List Entry) (e : Entry) (rest behind : List ℕ) → AreAskedIn text es rest
    → IsFirstAsked rest e behind → AreAskedIn text (es ++ e ∷ []) behind
asked_more text [] e rest behind same h =
    (behind, (subst (λ (t : List ℕ). IsFirstAsked t e behind) (sym same) h, refl))
asked_more text (x ∷ es) e rest behind (between, (first, others)) h =
    (between, (first, asked_more between es e rest behind others h))

pub first_shorter : (text : List ℕ) (e : Entry) (rest : List ℕ) → IsFirstAsked text e rest
    → length rest < length text
first_shorter text e rest h =
    omega (
      arith,
      ap (λ (t : List ℕ). length t) h.counted.parts,
      length-append (framed Counted h.octets) rest,
      framed_some h.octets h.counted.carries.0,
    )
  where
    framed_some : (b : List ℕ) → 0 < length b → 0 < length (framed Counted b)
    framed_some b some = omega (arith, some, length-append (decimal (length b)) (32 ∷ b))

pub asked_shorter : (text : List ℕ) (es : List Entry) (rest : List ℕ) → AreAskedIn text es rest
    → length rest ≤ length text
asked_shorter text [] rest same = omega (arith, ap (λ (t : List ℕ). length t) same)
asked_shorter text (e ∷ es) rest (between, (first, others)) =
    omega (arith, first_shorter text e between first, asked_shorter between es rest others)

-- a fault lies in the text
pub fault_within : (text : List ℕ) (fault : ArchiveFault) → IsTextFault text fault → position_of fault ≤ length text
fault_within text (BadFrame at) h = position_within ENTRY_MAX text (BadFrame at) h
fault_within text (EntryTooLong at) h = position_within ENTRY_MAX text (EntryTooLong at) h
fault_within text (BadEntry at fault) h = position_within ENTRY_MAX text (BadEntry at fault) h
fault_within text (NotCanonical at) h = absurd h
fault_within text (NotAscending at) h = absurd h

pub count_fault : (text : List ℕ) (fault : ArchiveFault) → IsCountFault ENTRY_MAX text fault → IsTextFault text fault
count_fault text (BadFrame at) h = h
count_fault text (EntryTooLong at) h = h
count_fault text (BadEntry at fault) h = absurd h
count_fault text (NotCanonical at) h = absurd h
count_fault text (NotAscending at) h = absurd h

pub entries_pushed : (rs : List AskedRecord) (r : AskedRecord) → asked_entries (rs ++ r ∷ []) ≡ asked_entries rs
    ++ asked_entry r ∷ []
entries_pushed [] r = refl
entries_pushed (x ∷ rs) r = ap (λ (l : List Entry). asked_entry x ∷ l) (entries_pushed rs r)

-- records that are asked for are entries
pub asked_are_entries : (text : List ℕ) (es : List Entry) (rest : List ℕ) → AreAskedIn text es rest
    → AllByRecursion IsEntry es
asked_are_entries text [] rest same = tt
asked_are_entries text (e ∷ es) rest (behind, (first, others)) =
    ((first.asked.parts, first.asked.entry), asked_are_entries behind es rest others)
