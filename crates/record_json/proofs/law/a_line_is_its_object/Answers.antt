use Rattle.record_json.proofs.LineLaws.{line_read}
use Rattle.record_json.proofs.law.a_line_is_its_object.Goals as goal

pub returns : goal.returns
returns c = line_read
