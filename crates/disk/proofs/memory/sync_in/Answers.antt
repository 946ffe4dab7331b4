use Rattle.disk.specs.Files.{settled}
use Rattle.disk.proofs.FileChanges.{of_file}
use Rattle.disk.proofs.memory.sync_in.Goals as goal

pub returns-clause-done : goal.returns-clause-done
returns-clause-done c = of_file c.args.entry.now c.in-Some.file c.sync.new.self (λ file. settled file.shown)
    c.in-Some.is c.sync.ensures
