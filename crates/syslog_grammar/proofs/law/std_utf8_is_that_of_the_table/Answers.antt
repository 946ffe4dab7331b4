use Rattle.syslog_fields.proofs.Utf8Text.{IsText-utf8, IsUtf8-text}
use Rattle.syslog_grammar.proofs.law.std_utf8_is_that_of_the_table.Goals as goal

pub returns : goal.returns
returns c = λ b. (IsText-utf8 b, IsUtf8-text b)
