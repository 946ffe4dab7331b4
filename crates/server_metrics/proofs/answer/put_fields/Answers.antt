use Rattle.server_metrics.specs.Replies.{fields_text}
use Rattle.server_metrics.proofs.Appended.{behind}
use Rattle.server_metrics.proofs.answer.put_fields.Goals as goal

pub returns : goal.returns
unfolding fields_text
returns c =
    behind c.put_field-2.result c.args.out.now.items _ _ _ _ c.in_ok-put_field.ensures
    (behind c.put_field-2.result c.put_field.new.out.items _ _ _ _ c.in_ok-put_length.ensures
    c.put_field-2.ensures)
