-- The lines of a digest are put.
use Rattle.std.specs.Prelude.{◌≡◌, ℕ, ◌^◌, ◌<◌, List, [], ◌∷◌, ◌++◌, MatchResult, Option, None, Some, Result, codes}
use Rattle.octet_devices.specs.Device.{OutputState}
use Rattle.octet_devices.specs.Held.{Held, Puts}
use Rattle.octet_devices.specs.declared.loops.WriteFault.{WriteFault}
use Rattle.hex.specs.Hex.{encode_lower}
use Rattle.archive_text.specs.Entries.{Entry}
use Rattle.archive_tree.specs.Archives.{texts_of}
use Rattle.archive_tree.specs.Tree.{tree_hash}
use Rattle.archive_digest.specs.Digests.{line_with}
use Rattle.archive_digest.specs.Sums.{IsSumOf}
use Rattle.archive_digest.specs.declared.roots.Roots.{Roots}
use Rattle.archive_digest.specs.declared.roots.Roots.TheVariants.{Without, With}
use Rattle.archive_digest.specs.declared.sum.Sum.{Sum}

-- the root of these entries in hexadecimal, if there is to be one
abbrev pub root_of : Roots → List Entry → Option (List ℕ)
root_of Without es = None
root_of With es = Some (encode_lower (tree_hash (texts_of es)))

-- what ends a line: a root behind a space, if there is one, and a line feed
abbrev pub line_end : Option (List ℕ) → List ℕ
line_end None = 10 ∷ []
line_end (Some root) = 32 ∷ root ++ 10 ∷ []

-- a text is put, the line of the entries of which this is the sum
pub record PutsLine {A : Type 0} (old new : OutputState) (held kept : Held) (name : List ℕ) (sum : Sum)
    (r : Result A WriteFault) : Type 0 where
  pub text : List ℕ
  pub puts : Puts old new held kept text r
  pub line : (roots : Roots) (es : List Entry) → IsSumOf roots sum es → text ≡ line_with roots name es

-- a fault of the writer is told just where it failed
abbrev pub TellsWrites : {A : Type 0} → OutputState → OutputState → Result A WriteFault → Type 0
TellsWrites old new r =
    MatchResult r (λ _. new.failures ≡ old.failures) (λ _. old.failures < 2 ^ 63 → old.failures < new.failures)

-- the lines that end a digest: that of the latest period, if there is one, and that of all entries
abbrev pub ending : Roots → List ℕ → List Entry → List Entry → List ℕ
ending roots name xs [] = line_with roots (codes "total") xs
ending roots name xs (e ∷ es) = line_with roots name (e ∷ es) ++ line_with roots (codes "total") xs
