use Rattle.std.proofs.Common.{◌≡◌, drop}
use Rattle.serve_engine.specs.Rows.{owed_in}
use Rattle.serve_engine.proofs.row.owed_in.Given as goal

-- it is among the others
abbrev pub invariant-loop-bucket : goal.invariant-loop-bucket
invariant-loop-bucket l = owed_in (drop l.bucket-index l.row) l.clock l.peer ≡ owed_in l.row l.clock l.peer
