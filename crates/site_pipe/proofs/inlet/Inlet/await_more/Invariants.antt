use Rattle.std.proofs.Common.{◌-◌, length}
use Rattle.site_pipe.proofs.inlet.Inlet.await_more.Given as goal

abbrev pub decreases-filling : goal.decreases-filling
decreases-filling g l = l.wanted - length l.self.held
