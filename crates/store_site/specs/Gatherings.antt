-- What was written of an archive.
use Rattle.std.specs.Prelude.{ℕ, List, ◌++◌}
use Rattle.archive_text.specs.Entries.{Entry}
use Rattle.archive_text.specs.Text.{text_of}
use Rattle.reconcile.specs.Texts.{IsOfNoArchive}
use Rattle.store_site.specs.declared.fault.SetReadFault.{SetReadFault}
use Rattle.store_site.specs.declared.fault.SetReadFault.TheVariants.{Read, NoArchive, TooMuch, Memory}

-- all octets that came: the text of the entries that were read, and the rest
abbrev pub gathered : List Entry → List ℕ → List ℕ
gathered es rest = text_of es ++ rest

-- why they do not become records: they are the text of no archive, or too many, or an allocation failed
abbrev pub IsGatheringFault : List ℕ → SetReadFault → Type 0
IsGatheringFault text (Read fault) = ⊥
IsGatheringFault text NoArchive = IsOfNoArchive text
IsGatheringFault text TooMuch = Unit {0}
IsGatheringFault text Memory = Unit {0}
