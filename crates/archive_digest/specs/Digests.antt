-- The digest of an archive.
use Rattle.std.specs.Prelude.{◌≡◌, ◌≢◌, ℕ, ◌-◌, List, [], ◌∷◌, ◌++◌, codes, decimal, length, take}
use Rattle.std.specs.List.{AllByRecursion, flat_map}
use Rattle.hex.specs.Hex.{encode_lower}
use Rattle.sha2.specs.Sha256.{sha256}
use Rattle.archive_text.specs.Entries.{Entry}
use Rattle.archive_text.specs.Text.{text_of}
use Rattle.archive_sets.specs.Selections.{IsSelection}
use Rattle.archive_text.specs.Periods.{IsIn}
use Rattle.archive_text.specs.declared.period.Period.{Period}
use Rattle.archive_tree.specs.Archives.{texts_of}
use Rattle.archive_tree.specs.Tree.{tree_hash}
use Rattle.archive_digest.specs.declared.roots.Roots.{Roots}
use Rattle.archive_digest.specs.declared.roots.Roots.TheVariants.{Without, With}

-- what a period is called, and the entries that lie in it
pub record Part : Type 0 where
  pub name : List ℕ
  pub entries : List Entry

-- the part is what is selected of a period, and that has entries
pub record IsPartOf (period : Period) (xs : List Entry) (p : Part) : Type 0 where
  pub selection : IsSelection (IsIn period p.name) xs p.entries
  pub some : p.entries ≢ []

-- the entries of these parts, one part behind the other
abbrev pub entries_of : List Part → List Entry
entries_of ps = flat_map (λ p. p.entries) ps

-- entries are divided by period: each part is one of theirs, and one part behind the other they are all
pub record IsDivided (period : Period) (xs : List Entry) (ps : List Part) : Type 0 where
  pub each : AllByRecursion (IsPartOf period xs) ps
  pub all : xs ≡ entries_of ps

-- NAME COUNT OCTETS SHA256: how many entries there are, how many octets their text has, and the SHA-256 of that text
abbrev pub line_of : List ℕ → List Entry → List ℕ
line_of name es =
    name ++ 32 ∷ decimal (length es) ++ 32 ∷ decimal (length (text_of es))
    ++ (32 ∷ encode_lower (sha256 (text_of es)) ++ 10 ∷ [])

-- a line for each part
abbrev pub lines_of : List Part → List ℕ
lines_of ps = flat_map (λ p. line_of p.name p.entries) ps

-- a line for each part, and one for all entries
abbrev pub digest_text : List Entry → List Part → List ℕ
digest_text xs ps = lines_of ps ++ line_of (codes "total") xs

-- ---- the same with roots

-- NAME COUNT OCTETS SHA256 ROOT: behind these the Merkle tree hash of the entries (RFC 9162, section 2.1.1)
abbrev pub rooted_line_of : List ℕ → List Entry → List ℕ
rooted_line_of name es =
    name ++ 32 ∷ decimal (length es) ++ 32 ∷ decimal (length (text_of es))
    ++ (32 ∷ encode_lower (sha256 (text_of es)) ++ (32 ∷ encode_lower (tree_hash (texts_of es)) ++ 10 ∷ []))

-- the line, with or without a root
abbrev pub line_with : Roots → List ℕ → List Entry → List ℕ
line_with Without name es = line_of name es
line_with With name es = rooted_line_of name es

-- a line for each part
abbrev pub lines_with : Roots → List Part → List ℕ
lines_with roots ps = flat_map (λ p. line_with roots p.name p.entries) ps

-- a line for each part, and one for all entries
abbrev pub digest_with : Roots → List Entry → List Part → List ℕ
digest_with roots xs ps = lines_with roots ps ++ line_with roots (codes "total") xs

-- ---- the lines that a fault leaves

-- all parts but the last
abbrev pub before_last : List Part → List Part
before_last ps = take (length ps - 1) ps
