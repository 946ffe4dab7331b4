use Rattle.std.proofs.Common.{◌≡◌}
use Rattle.site_pipe.proofs.asking.Pipe.tell_cuts.Given as goal

abbrev pub invariant-asked : goal.invariant-asked
invariant-asked g l =
    let entries = g.S.RangedSet.entries in
    entries l.set ≡ entries l.fn.set
