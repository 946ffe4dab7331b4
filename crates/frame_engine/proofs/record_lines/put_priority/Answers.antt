use Rattle.std.proofs.Common.{ℕ, ap, ◌∙◌, arith}
use Rattle.octet_language.specs.Language.{Only}
use Rattle.frame_engine.specs.Showing.{PriorityLine, priority_line}
use Rattle.syslog_fields.proofs.Appends.{puts_as}
use Rattle.frame_engine.proofs.record_lines.put_priority.Goals as goal

pub returns : goal.returns
returns c =
    puts_as (Only (priority_line c.value.result c.facility.result c.severity.result)) (PriorityLine c.args.priority)
    c.args.out.now.items c.put_names.new.out.items c.put_names.result
    (λ s e. (
      c.facility.result,
      c.severity.result,
      omega (arith, c.facility.ensures, c.severity.ensures),
      e
          ∙ ap (λ (v : ℕ). priority_line v c.facility.result c.severity.result) c.value.ensures.value,
    ))
    c.put_names.ensures
