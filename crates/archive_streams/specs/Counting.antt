-- The length before an entry, as its octets come.
use Rattle.std.specs.Prelude.{◌≡◌, ℕ, ◌+◌, ◌<◌, List, [], length}
use Rattle.octet_language.specs.Language.{AnyOf, Begins, NoPrefix}
use Rattle.syslog_frame.specs.MsgLen.{MsgLen}
use Rattle.archive_streams.specs.Pieces.{unused}
use Rattle.archive_streams.specs.declared.pieces.Pieces.{Pieces}
use Rattle.archive_streams.specs.declared.reading.CountStep.{CountStep}
use Rattle.archive_streams.specs.declared.reading.CountStep.TheVariants.{End, More, Whole}

-- the octets begin a length and its space, and are not yet whole
pub record IsUnfinished (text : List ℕ) : Type 0 where
  pub none : NoPrefix (AnyOf MsgLen) text
  pub begins : Begins (AnyOf MsgLen) text

-- what one octet more makes of an unfinished length
abbrev pub IsStep : List ℕ → List ℕ → Pieces → CountStep → Type 0
IsStep old new p End = (new ≡ []) × (unused p ≡ []) × (0 < p.ends)
IsStep old new p More = IsUnfinished new × (length new ≡ length old + 1)
IsStep old new p (Whole count) = MsgLen count new
