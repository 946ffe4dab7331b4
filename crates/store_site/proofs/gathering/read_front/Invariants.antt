use Rattle.std.proofs.Common.{length}
use Rattle.archive_text.specs.Text.{text_of}
use Rattle.store_site.proofs.Gathers.{HasRead}
use Rattle.store_site.proofs.gathering.read_front.Given as goal

abbrev pub invariant-reading : goal.invariant-reading
invariant-reading l = HasRead (text_of l.fn.records) (text_of l.records) l.text l.rest

abbrev pub decreases-reading : goal.decreases-reading
decreases-reading l = length l.rest
