-- What becomes of a set that a peer puts records into.
use Rattle.std.specs.Prelude.{List, [], ◌∷◌, Option, None, Some, ⊤}
use Rattle.archive_text.specs.Entries.{Entry, Has, IsBelow}
use Rattle.archive_text.specs.Text.{IsArchive}
use Rattle.reconcile.specs.Ranges.{IsProper}
use Rattle.reconcile.specs.declared.part.Part.{Part}
use Rattle.reconcile.specs.declared.range.Range.{Range}
use Rattle.archive_text.specs.declared.limits.TheConstants.{ENTRY_MAX}

-- a set stays an archive, and keeps each entry
pub record Keeps (old new : List Entry) : Type 0 where
  pub archive : IsArchive ENTRY_MAX new
  pub keeps : (x : Entry) → Has old x → Has new x

-- a range from this place on or higher, which has a place; none follows one without an end
abbrev pub Follows : Option Entry → Range → Type 0
Follows None r = ⊥
Follows (Some end) r = ¬ (IsBelow r.low end) × IsProper r

-- the ranges of parts ascend from a place on, and do not overlap; only the last may have no end
abbrev pub DoAscend : Option Entry → List Part → Type 0
DoAscend from [] = ⊤
DoAscend from (p ∷ ps) = Follows from p.range × DoAscend p.range.high ps
