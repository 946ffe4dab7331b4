-- Parts whose ranges ascend.
use Rattle.std.specs.Prelude.{List, [], ◌∷◌, Option, ⊤}
use Rattle.archive_text.specs.Entries.{Entry}
use Rattle.reconcile.specs.Ranges.{IsProper, IsUnder}
use Rattle.reconcile.specs.declared.part.Part.{Part}

-- the first of some ranges begins at this end or higher; none is beyond a range without an end
abbrev pub IsBeyond : Option Entry → List Part → Type 0
IsBeyond end [] = ⊤
IsBeyond end (p ∷ ps) = ¬ (IsUnder end p.range.low)

-- the ranges of parts ascend, and do not overlap; only the last may have no end
abbrev pub DoAscend : List Part → Type 0
DoAscend [] = ⊤
DoAscend (p ∷ ps) = IsProper p.range × IsBeyond p.range.high ps × DoAscend ps
