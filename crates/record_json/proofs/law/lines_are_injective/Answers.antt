use Rattle.record_json.proofs.LineLaws.{injective}
use Rattle.record_json.proofs.law.lines_are_injective.Goals as goal

pub returns : goal.returns
returns c = injective
