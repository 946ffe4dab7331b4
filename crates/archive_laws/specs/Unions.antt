-- The union of two archives, seen on their texts.
use Rattle.std.specs.Prelude.{ℕ, ℤ, List, ◌++◌}
use Rattle.syslog_value.specs.Parts.{Parts}
use Rattle.archive_text.specs.Sets.{ArchiveText}

-- the texts of two sets, and that of their union
pub record IsUnion (most : ℕ) (t u v : List ℕ) : Type 0 where
  pub left : List (Parts ℤ)
  pub right : List (Parts ℤ)
  pub left_text : ArchiveText most left t
  pub right_text : ArchiveText most right u
  pub union_text : ArchiveText most (left ++ right) v
