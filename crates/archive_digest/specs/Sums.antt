-- What is counted and hashed of entries.
use Rattle.std.specs.Prelude.{◌≡◌, List, Option, None, Some, length}
use Rattle.sha2.specs.Hashers.{Holds256}
use Rattle.archive_text.specs.Entries.{Entry}
use Rattle.archive_text.specs.Text.{text_of}
use Rattle.archive_tree.specs.Archives.{texts_of}
use Rattle.archive_tree.specs.Trees.{HasTaken}
use Rattle.archive_tree.specs.declared.stream.TreeStream.{TreeStream}
use Rattle.archive_digest.specs.declared.roots.Roots.{Roots}
use Rattle.archive_digest.specs.declared.roots.Roots.TheVariants.{Without, With}
use Rattle.archive_digest.specs.declared.sum.Sum.{Sum}
use Rattle.archive_digest.specs.declared.tally.Tally.{Tally}

-- the tree of these entries, if there are to be roots
abbrev pub IsTreeOf : Roots → Option TreeStream → List Entry → Type 0
IsTreeOf Without tree es = tree ≡ None
IsTreeOf With None es = ⊥
IsTreeOf With (Some tree) es = HasTaken tree (texts_of es)

-- how many these entries are, how many octets their text has, a hasher of that text, and their tree
pub record IsSumOf (roots : Roots) (s : Sum) (es : List Entry) : Type 0 where
  pub records : s.records ≡ length es
  pub octets : s.octets ≡ length (text_of es)
  pub hashed : Holds256 s.hasher (text_of es)
  pub tree : IsTreeOf roots s.tree es

-- the sum of the latest entries, which is that of all where it has none of its own
abbrev pub IsLatestSum : Roots → Option Sum → Sum → List Entry → Type 0
IsLatestSum roots None total latest = IsSumOf roots total latest
IsLatestSum roots (Some own) total latest = IsSumOf roots own latest

-- the sum of all entries, and that of the latest
pub record IsTallyOf (roots : Roots) (t : Tally) (xs latest : List Entry) : Type 0 where
  pub same : t.roots ≡ roots
  pub all : IsSumOf roots t.total xs
  pub last : IsLatestSum roots t.latest t.total latest
