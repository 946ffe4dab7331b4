-- Archives and faults under a larger limit.
use Rattle.std.proofs.Common.{◌≡◌, ℕ, ◌≤◌, inl, inr, refl, subst, arith, List}
use Rattle.std.specs.Prelude.{ℤ}
use Rattle.syslog_frame.specs.declared.limits.TheConstants.{COUNT_MAX}
use Rattle.syslog_value.specs.Parts.{Parts}
use Rattle.archive_text.specs.Entries.{Entry}
use Rattle.archive_text.specs.Faults.{BeginsWithOctets, IsArchiveFault, IsBadFrame, IsFaultBehind}
use Rattle.archive_text.specs.Sets.{ArchiveText}
use Rattle.archive_text.specs.declared.fault.ArchiveFault.{ArchiveFault}
use Rattle.archive_text.specs.declared.fault.ArchiveFault.TheVariants.{BadFrame, EntryTooLong, BadEntry, NotCanonical}
use Rattle.archive_text.specs.declared.fault.ArchiveFault.TheVariants.{NotAscending}
use Rattle.archive_text.proofs.Ascending.{archive_wider}
use Rattle.archive_text.proofs.Prefixes.{archive_fault, archive_has_no_fault}

pub wider_text : (most more : ℕ) (rs : List (Parts ℤ)) (t : List ℕ) → most ≤ more → ArchiveText most rs t
    → ArchiveText more rs t
wider_text most more rs t wider h = record {
  entries = h.entries;
  archive =
      archive_wider most more h.entries wider h.archive;
  members = h.members;
  text_is = h.text_is;
}

wider_octets : (most more : ℕ) (text b : List ℕ) → most ≤ more → BeginsWithOctets most text b
    → BeginsWithOctets more text b
wider_octets most more text b wider h = (h.0, omega (arith, h.1, wider), h.2)

wider_frame : (most more n : ℕ) (text : List ℕ) → most ≤ more → IsBadFrame most text n → IsBadFrame more text n
wider_frame most more n text wider (inl h) = inl h
wider_frame most more n text wider (inr (count, behind, follows, low, cut, at)) =
    inr (count, behind, follows, omega (arith, low, wider), cut, at)

wider_fault : (most more : ℕ) (es : List Entry) (rest : List ℕ) (fault : ArchiveFault) → most ≤ more
    → ((at : ℕ) → ¬ (fault ≡ EntryTooLong at)) → IsFaultBehind most es rest fault
    → IsFaultBehind more es rest fault
wider_fault most more es rest (BadFrame at) wider short (n, h, is) = (n, wider_frame most more n rest wider h, is)
wider_fault most more es rest (EntryTooLong at) wider short h = absurd (short at refl)
wider_fault most more es rest (BadEntry at fault) wider short (is, (start, (b, begins, bad))) =
    (is, (start, (b, wider_octets most more rest b wider begins, bad)))
wider_fault most more es rest (NotCanonical at) wider short (is, (start, (b, begins, bad))) =
    (is, (start, (b, wider_octets most more rest b wider begins, bad)))
wider_fault most more es rest (NotAscending at) wider short (is, (e, entry, begins, none)) =
    (is, (e, entry, wider_octets most more rest e.octets wider begins, none))

pub wider_archive_fault : (most more : ℕ) (t : List ℕ) (fault : ArchiveFault) → most ≤ more → more ≤ COUNT_MAX
    → ((at : ℕ) → ¬ (fault ≡ EntryTooLong at))
    → IsArchiveFault most t fault → IsArchiveFault more t fault
wider_archive_fault most more t fault wider low short (es, rest, prefix, some, bad) =
    archive_fault more t es rest fault low (archive_wider most more es wider prefix.archive) prefix.parts some
    (wider_fault most more es rest fault wider short bad)

pub text_has_no_fault : (most : ℕ) (rs : List (Parts ℤ)) (t : List ℕ) (fault : ArchiveFault) → ArchiveText most rs t
    → ¬ (IsArchiveFault most t fault)
text_has_no_fault most rs t fault h k = archive_has_no_fault most h.entries fault h.archive
    (subst (λ u. IsArchiveFault most u fault) h.text_is k)
