-- What two archives have in common, and what one has alone.
use Rattle.std.specs.Prelude.{◌≡◌, ◌↔◌, ℕ, Bool, List, [], ◌∷◌}
use Rattle.archive_text.specs.Entries.{Entry, Has}
use Rattle.archive_text.specs.Text.{IsArchive}
use Rattle.archive_text.specs.declared.limits.TheConstants.{ENTRY_MAX}
use Rattle.archive_join.specs.Holders.{AreKept, kept_text}
use Rattle.c_library.specs.Unions.{IsArchiveOf}

-- what is kept of the entries of two archives, by who has them
pub record JoinOf (keeps : List Bool → Type 0) (text : List Bool → Entry → List ℕ) (left right out : List ℕ) : Type 0 where
  pub left_entries : List Entry
  pub right_entries : List Entry
  pub entries : List Entry
  pub left_is : IsArchiveOf left_entries left
  pub right_is : IsArchiveOf right_entries right
  pub archive : IsArchive ENTRY_MAX entries
  pub kept : AreKept keeps (left_entries ∷ right_entries ∷ []) entries
  pub out_is : out ≡ kept_text text (left_entries ∷ right_entries ∷ []) entries

-- the text of the archive of the records that both have
pub record CommonOf (left right text : List ℕ) : Type 0 where
  pub left_entries : List Entry
  pub right_entries : List Entry
  pub entries : List Entry
  pub left_is : IsArchiveOf left_entries left
  pub right_is : IsArchiveOf right_entries right
  pub members : (e : Entry) → Has entries e ↔ (Has left_entries e × Has right_entries e)
  pub text_is : IsArchiveOf entries text

-- the text of the archive of the records that the left one has, and the right one has not
pub record MinusOf (left right text : List ℕ) : Type 0 where
  pub left_entries : List Entry
  pub right_entries : List Entry
  pub entries : List Entry
  pub left_is : IsArchiveOf left_entries left
  pub right_is : IsArchiveOf right_entries right
  pub members : (e : Entry) → Has entries e ↔ (Has left_entries e × ¬ (Has right_entries e))
  pub text_is : IsArchiveOf entries text
