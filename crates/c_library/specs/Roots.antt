-- The root of an archive.
use Rattle.std.specs.Prelude.{ℕ, List}
use Rattle.archive_text.specs.Entries.{Entry}
use Rattle.archive_tree.specs.Archives.{IsRootOf}
use Rattle.c_library.specs.Unions.{IsArchiveOf}
use Rattle.c_library.specs.declared.root.SyslogboxRoot.{SyslogboxRoot}

-- the text is that of an archive of so many records, which have this Merkle tree hash (RFC 9162, section 2.1.1)
pub record HasRoot (text : List ℕ) (root : SyslogboxRoot) : Type 0 where
  pub entries : List Entry
  pub archive : IsArchiveOf entries text
  pub root_of : IsRootOf (record { size = root.count; hash = root.hash }) entries
