use Rattle.std.proofs.Common.{◌∙◌}
use Rattle.archive_digest.proofs.line.put_number.Goals as goal

pub returns : goal.returns
returns g c = rw (← (c.as_bytes.ensures.value ∙ c.format.ensures.text)) c.put_word.ensures
