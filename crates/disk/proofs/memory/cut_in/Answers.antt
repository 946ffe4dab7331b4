use Rattle.disk.specs.Files.{cut_to}
use Rattle.disk.proofs.FileChanges.{of_file}
use Rattle.disk.proofs.memory.cut_in.Goals as goal

pub returns-clause-done : goal.returns-clause-done
returns-clause-done c = of_file c.args.entry.now c.in-Some.file c.cut.new.self (cut_to c.args.len) c.in-Some.is
    c.cut.ensures
