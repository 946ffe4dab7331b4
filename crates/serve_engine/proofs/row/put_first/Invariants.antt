use Rattle.std.proofs.Common.{◌≡◌, ◌++◌, take, drop, length}
use Rattle.serve_engine.proofs.Rows.{shifted}
use Rattle.serve_engine.proofs.row.put_first.Given as goal

-- what is done, and what is left
abbrev pub invariant-loop-place : goal.invariant-loop-place
invariant-loop-place l = record {
  long : length l.row ≡ 8;
  shifts : take l.place l.row ++ shifted l.fn.bucket.peer l.next (drop l.place l.row)
      ≡ shifted l.fn.bucket.peer l.fn.bucket l.fn.row;
}
