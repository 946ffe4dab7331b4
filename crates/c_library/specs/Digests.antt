-- The digest of an archive.
use Rattle.std.specs.Prelude.{◌≡◌, ◌⊎◌, ℕ, ℤ, pos, List}
use Rattle.archive_text.specs.Entries.{Entry}
use Rattle.archive_digest.specs.Digests.{IsDivided, Part, digest_text}
use Rattle.archive_text.specs.declared.period.Period.{Period}
use Rattle.archive_text.specs.declared.period.Period.TheVariants.{Month, Day, Hour}
use Rattle.c_library.specs.Faults.{period_fault}
use Rattle.c_library.specs.Unions.{IsArchiveOf, IsNoArchive}
use Rattle.c_library.specs.declared.fault.SyslogboxFault.{SyslogboxFault}

-- the number of a period in include/syslogbox.h
abbrev pub period_number : Period → ℤ
period_number Month = pos 1
period_number Day = pos 2
period_number Hour = pos 3

-- the digest of the records of an archive, divided by a period of this number
pub record DigestOf (number : ℤ) (archive text : List ℕ) : Type 0 where
  pub period : Period
  pub number_is : number ≡ period_number period
  pub entries : List Entry
  pub parts : List Part
  pub archive_is : IsArchiveOf entries archive
  pub divided : IsDivided period entries parts
  pub text_is : text ≡ digest_text entries parts

-- there is no such period, or the text is no archive
abbrev pub IsNoDigest : ℤ → List ℕ → SyslogboxFault → Type 0
IsNoDigest number archive told =
    (((period : Period) → ¬ (number ≡ period_number period)) × (told ≡ period_fault)) ⊎ IsNoArchive 0 archive told
