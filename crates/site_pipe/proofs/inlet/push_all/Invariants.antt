use Rattle.std.proofs.Common.{◌≡◌, ◌++◌, length}
use Rattle.archive_text.specs.Text.{text_of}
use Rattle.site_pipe.proofs.inlet.push_all.Given as goal

abbrev pub invariant-reading : goal.invariant-reading
invariant-reading l = text_of l.records ++ l.rest ≡ text_of l.fn.records ++ l.text

abbrev pub decreases-reading : goal.decreases-reading
decreases-reading l = length l.rest
