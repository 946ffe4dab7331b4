-- How far a text was read.
use Rattle.std.specs.Prelude.{◌≡◌, ℕ, List, [], ◌∷◌, ◌++◌, Option, Some, None}
use Rattle.archive_text.specs.Entries.{Entry}
use Rattle.archive_text.specs.EntryViews.{entry_of}
use Rattle.archive_text.specs.Text.{IsArchive, text_of}
use Rattle.archive_text.specs.declared.entry.EntryView.{EntryView}

-- the last of the entries, if there is one
abbrev pub IsLast : List Entry → Option EntryView → Type 0
IsLast es None = es ≡ []
IsLast es (Some v) = (fs : List Entry) × (es ≡ fs ++ entry_of v ∷ [])

-- an archive, then the rest, and the last entry before it
pub record IsRead (most : ℕ) (text rest : List ℕ) (last : Option EntryView) : Type 0 where
  pub entries : List Entry
  pub archive : IsArchive most entries
  pub parts : text ≡ text_of entries ++ rest
  pub last_is : IsLast entries last
