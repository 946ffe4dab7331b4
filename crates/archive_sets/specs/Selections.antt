-- What is selected of an archive.
use Rattle.std.specs.Prelude.{◌↔◌, List}
use Rattle.archive_text.specs.Entries.{Entry, Has, IsAscending}

-- the ascending list of the members that meet a condition
pub record IsSelection (meets : Entry → Type 0) (xs ys : List Entry) : Type 0 where
  pub ascending : IsAscending ys
  pub members : (e : Entry) → Has ys e ↔ (Has xs e × meets e)
