use Rattle.std.proofs.Common.{◌≡◌, ◌≤◌, ◌-◌, ◌++◌, length, vec_capacity}
use Rattle.archive_streams.specs.Counting.{IsUnfinished}
use Rattle.archive_streams.specs.Pieces.{ReadsOn, unused}
use Rattle.archive_streams.proofs.reading.read_count.Given as goal

abbrev pub invariant-digits : goal.invariant-digits
invariant-digits g l = record {
  unfinished : IsUnfinished l.text.items;
  room : vec_capacity l.fn.text ≤ vec_capacity l.text;
  failures : (g.R.Input.state l.reader).failures ≡ (g.R.Input.state l.fn.reader).failures;
  reads : ReadsOn l.fn.pieces l.pieces
      (g.R.Input.state l.fn.reader)
      (g.R.Input.state l.reader)
      (unused l.fn.pieces) (l.text.items ++ unused l.pieces);
}

abbrev pub decreases-digits : goal.decreases-digits
decreases-digits g l = 11 - length l.text.items
