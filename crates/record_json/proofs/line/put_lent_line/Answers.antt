use Rattle.std.proofs.Common.{◌≡◌, ◌∙◌, ℕ, ap, take, length, rules}
use Rattle.syslog_fields.proofs.Appends.{adds_prefix, puts_begun}
use Rattle.syslog_fields.specs.Appending.{Anything}
use Rattle.record_json.specs.Texts.{LentLine}
use Rattle.record_json.proofs.WholeLines.{always_err}
use Rattle.record_json.proofs.line.put_lent_line.Goals as goal

pub returns-then-is_err-clause-err : goal.returns-then-is_err-clause-err
returns-then-is_err-clause-err c =
    let old = c.args.out.now.items in
    let new = c.append_line-put.new.out.items in
    let begun = puts_begun (LentLine c.args.parts.now) old new c.append_line-put.result c.append_line-put.ensures in
    let len : c.len-start.result ≡ length old = search rules in
    always_err c.append_line-put.result (c.truncate.new.self.items ≡ old)
    (c.truncate.ensures.items ∙ ap (λ (n : ℕ). take n new) len ∙ adds_prefix Anything old new begun)
