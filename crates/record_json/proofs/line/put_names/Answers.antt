use Rattle.std.proofs.Common.{◌≡◌, ◌++◌, List, ℕ, subst, sym}
use Rattle.std.specs.Prelude.{codes}
use Rattle.json.specs.Print.{escape, quoted}
use Rattle.syslog_value.specs.Facilities.{facility_name}
use Rattle.syslog_value.specs.Severities.{severity_name}
use Rattle.syslog_fields.proofs.Appends.{only_puts, only_then}
use Rattle.record_json.specs.Texts.{key_text, number_text}
use Rattle.record_json.proofs.KeptTexts.{facility_kept, severity_kept}
use Rattle.record_json.proofs.line.put_names.Goals as goal

pub put_name-requires : goal.put_name-requires
put_name-requires c = subst (λ (s : List ℕ). escape s ≡ s) (sym c.name.ensures) (facility_kept c.args.facility)

pub put_name-requires-2 : goal.put_name-requires-2
put_name-requires-2 c = subst (λ (s : List ℕ). escape s ≡ s) (sym c.name-2.ensures) (severity_kept c.args.severity)

pub returns : goal.returns
returns c =
    let number = number_text c.args.value in
    let facility = key_text (codes "facility") ++ quoted (facility_name c.args.facility) in
    let severity = key_text (codes "severity") ++ quoted (severity_name c.args.severity) in
    only_puts (number ++ facility) severity c.args.out.now.items c.put_name.new.out.items c.put_name-2.new.out.items
    c.put_name-2.result
    (only_then number facility c.args.out.now.items c.put_number.new.out.items c.put_name.new.out.items
    c.in_ok-put_number.ensures (rw c.name.ensures at c.in_ok-put_name.ensures))
    (rw c.name-2.ensures at c.put_name-2.ensures)
