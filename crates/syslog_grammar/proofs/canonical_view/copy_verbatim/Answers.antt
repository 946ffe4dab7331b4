use Rattle.std.proofs.Common.{[], ◌∷◌}
use Rattle.octet_language.specs.Language.{Language, Only, ◌⋅◌}
use Rattle.syslog_fields.specs.Canonical.{TimeForm, priority_version_form}
use Rattle.syslog_grammar.specs.Verbatim.{VerbatimForm}
use Rattle.syslog_reading.specs.ViewParts.{view_parts}
use Rattle.syslog_fields.proofs.Appends.{puts_then}
use Rattle.syslog_grammar.proofs.canonical_view.copy_verbatim.Goals as goal

pub returns : goal.returns
unfolding VerbatimForm
returns c =
    let s = view_parts c.args.view.now in
    let old = c.args.out.now.items in
    let s0 = c.put_priority_version.new.out.items in
    let s1 = c.put_time.new.out.items in
    let s2 = c.put.new.out.items in
    let new = c.put-2.new.out.items in
    let prefix : Language = Only (priority_version_form s.priority) in
    let time : Language = TimeForm s.instant in
    let space : Language = Only (32 ∷ []) in
    let behind : Language = Only s.behind_time in
    puts_then prefix (time ⋅ space ⋅ behind) old s0 new c.put-2.result
    (rw c.priority.ensures at c.in_ok-put_priority_version.ensures)
    (puts_then time (space ⋅ behind) s0 s1 new c.put-2.result (rw c.instant.ensures at c.in_ok-put_time.ensures)
    (puts_then space behind s1 s2 new c.put-2.result c.in_ok-put.ensures c.put-2.ensures))
