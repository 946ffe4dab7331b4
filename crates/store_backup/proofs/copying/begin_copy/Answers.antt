use Rattle.std.proofs.Common.{rules}
use Rattle.store_backup.proofs.Settling.{some_name}
use Rattle.store_backup.proofs.copying.begin_copy.Goals as goal

pub returns-then-not-is_empty-clause-refused : goal.returns-then-not-is_empty-clause-refused
returns-then-not-is_empty-clause-refused g c empty tells sound =
    some_name (g.D.Disk.state c.args.target.now) c.in-Ok.names.items (c.in-Ok.ensures.names tells) sound (search rules)
