use Rattle.store_reading.proofs.Causing.{input_cause}
use Rattle.store_reading.proofs.Tails.{given_file}
use Rattle.store_reading.proofs.journal_file.read_file.Goals as goal

pub returns-in-Ok-clause-given : goal.returns-in-Ok-clause-given
returns-in-Ok-clause-given g c tells =
    given_file (g.F.Folder.files c.args.folder.now c.args.name.now) (g.F.File.Input.state c.in_ok-file.file).left
    c.in-Ok.octets.items (c.in_ok-file.ensures.opened tells) c.in-Ok.ensures.given

pub returns-clause-cause : goal.returns-clause-cause
returns-clause-cause g c =
    input_cause (g.F.Folder.has_failed c.open_file.new.folder) c.args.name.now c.in_ok-copy-in-Err.field-0 c.in-Err.fault
    c.of.result c.in-Err.ensures.not_damaged c.in_ok-copy-in-Err.ensures c.of.ensures
