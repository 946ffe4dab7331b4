-- What text is that of an archive.
use Rattle.std.specs.Prelude.{◌≡◌, ◌≢◌, ℕ, ◌<◌, ◌⊎◌, List, ◌++◌, length}
use Rattle.archive_text.specs.Entries.{Entry}
use Rattle.archive_text.specs.Text.{IsArchive, text_of}
use Rattle.archive_text.specs.declared.limits.TheConstants.{ENTRY_MAX}
use Rattle.reconcile.specs.declared.stopped.Stopped.{Stopped}
use Rattle.reconcile.specs.declared.stopped.Stopped.TheVariants.{Lied, Memory}

-- it is that of none
abbrev pub IsOfNoArchive : List ℕ → Type 0
IsOfNoArchive text = (es : List Entry) → IsArchive ENTRY_MAX es → text ≢ text_of es

-- why a text is not read behind another: both together are that of no archive, or an allocation failed
abbrev pub IsReadingFault : List ℕ → List ℕ → Stopped → Type 0
IsReadingFault front text fault =
    ((fault ≡ Lied) × (0 < length text → IsOfNoArchive (front ++ text))) ⊎ (fault ≡ Memory)

-- why a text is not read
abbrev pub IsTextFault : List ℕ → Stopped → Type 0
IsTextFault text fault = ((fault ≡ Lied) × IsOfNoArchive text) ⊎ (fault ≡ Memory)
