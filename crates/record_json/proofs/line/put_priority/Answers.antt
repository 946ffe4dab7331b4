use Rattle.std.proofs.Common.{ℕ, ap, ◌∙◌, arith}
use Rattle.octet_language.specs.Language.{Only}
use Rattle.syslog_fields.proofs.Appends.{puts_as}
use Rattle.record_json.specs.Texts.{PriorityText, priority_text}
use Rattle.record_json.proofs.line.put_priority.Goals as goal

pub returns : goal.returns
returns c =
    puts_as (Only (priority_text c.value.result c.facility.result c.severity.result)) (PriorityText c.args.priority)
    c.args.out.now.items c.put_names.new.out.items c.put_names.result
    (λ s e. (
      c.facility.result,
      c.severity.result,
      omega (arith, c.facility.ensures, c.severity.ensures),
      e
          ∙ ap (λ (v : ℕ). priority_text v c.facility.result c.severity.result) c.value.ensures.value,
    ))
    c.put_names.ensures
