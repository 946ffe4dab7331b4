use Rattle.std.proofs.Common.{◌≡◌, ◌∙◌, ℕ, ap, take, length, rules}
use Rattle.frame_engine.specs.Showing.{RecordLines}
use Rattle.syslog_fields.proofs.Appends.{adds_prefix, puts_begun}
use Rattle.syslog_fields.specs.Appending.{Anything}
use Rattle.frame_engine.proofs.record_lines.put_record_lines.Goals as goal
use Rattle.record_json.proofs.WholeLines.{always_err}

pub returns-then-is_err-clause-err : goal.returns-then-is_err-clause-err
returns-then-is_err-clause-err c =
    let old = c.args.out.now.items in
    let new = c.append_record_lines-put.new.out.items in
    let begun = puts_begun (RecordLines c.args.number c.args.record.now) old new c.append_record_lines-put.result
    c.append_record_lines-put.ensures in
    let len : c.len-before.result ≡ length old = search rules in
    always_err c.append_record_lines-put.result (c.truncate.new.self.items ≡ old)
    (c.truncate.ensures.items ∙ ap (λ (n : ℕ). take n new) len ∙ adds_prefix Anything old new begun)
