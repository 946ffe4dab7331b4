use Rattle.disk.specs.Files.{overwritten}
use Rattle.disk.proofs.FileChanges.{of_file}
use Rattle.disk.proofs.memory.overwrite_in.Goals as goal

pub returns-clause-done : goal.returns-clause-done
returns-clause-done c = of_file c.args.entry.now c.in-Some.file c.overwrite.new.self
    (overwritten c.args.at c.args.octet) c.in-Some.is c.in_ok-overwrite.ensures.ok
