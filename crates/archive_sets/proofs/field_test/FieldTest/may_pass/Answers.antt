use Rattle.archive_sets.proofs.Messages.{within_octets}
use Rattle.archive_sets.proofs.field_test.FieldTest.may_pass.Goals as goal

pub returns-in-Message : goal.returns-in-Message
returns-in-Message c = λ r w h.
    c.has_within.ensures.1 (within_octets c.in-Message.text.now r c.args.octets.now w (rw c.in-Message.is at h))
