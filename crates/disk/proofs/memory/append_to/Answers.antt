use Rattle.disk.specs.Files.{appended}
use Rattle.disk.proofs.FileChanges.{of_file}
use Rattle.disk.proofs.memory.append_to.Goals as goal

pub returns-clause-done : goal.returns-clause-done
returns-clause-done c = of_file c.args.entry.now c.in-Some.file c.append.new.self (appended c.args.octets.now)
    c.in-Some.is c.in_ok-append.ensures.ok
