use Rattle.std.proofs.Common.{◌≡◌, ◌≤◌, ◌-◌, ◌+◌, ◌++◌, length, vec_capacity}
use Rattle.archive_streams.specs.EntryTexts.{HasUpTo}
use Rattle.archive_streams.specs.Pieces.{ReadsOn, unused}
use Rattle.archive_streams.proofs.reading.read_octets.Given as goal

abbrev pub invariant-octets : goal.invariant-octets
invariant-octets g l = record {
  size : l.size ≡ length l.fn.text.items + l.count;
  some : HasUpTo l.count l.fn.text.items l.text.items;
  room : vec_capacity l.fn.text ≤ vec_capacity l.text;
  failures : (g.R.Input.state l.reader).failures ≡ (g.R.Input.state l.fn.reader).failures;
  reads : ReadsOn l.fn.pieces l.pieces
      (g.R.Input.state l.fn.reader)
      (g.R.Input.state l.reader)
      (l.fn.text.items ++ unused l.fn.pieces) (l.text.items ++ unused l.pieces);
}

abbrev pub decreases-octets : goal.decreases-octets
decreases-octets g l = l.size - length l.text.items
