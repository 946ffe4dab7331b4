use Rattle.frame_engine.specs.Showing.{message_line}
use Rattle.frame_engine.proofs.record_lines.put_message.Goals as goal

pub returns-then-has_mark : goal.returns-then-has_mark
unfolding message_line
returns-then-has_mark c = rw c.if-has_mark.true c.put_quoted.ensures

pub returns-else-has_mark : goal.returns-else-has_mark
unfolding message_line
returns-else-has_mark c = rw c.if-has_mark.false c.put_quoted-else-has_mark.ensures
