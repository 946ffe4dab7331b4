use Rattle.std.proofs.Common.{◌∷◌, []}
use Rattle.std.specs.Prelude.{option_map}
use Rattle.octet_language.specs.Language.{Only, ◌⋅◌, Language}
use Rattle.syslog_fields.specs.Canonical.{HeaderForm, SpacedWord, TimeForm, priority_version_form}
use Rattle.syslog_fields.proofs.Appends.{adds_then, puts_then}
use Rattle.syslog_grammar.proofs.canonical.put_header.Goals as goal

pub returns : goal.returns
unfolding HeaderForm
returns c =
    let old = c.args.out.now.items in
    let s0 = c.put_priority_version.new.out.items in
    let s1 = c.put_time.new.out.items in
    let s2 = c.put.new.out.items in
    let s3 = c.put_word.new.out.items in
    let s4 = c.put_word-2.new.out.items in
    let s5 = c.put_word-3.new.out.items in
    let new = c.put_word-4.new.out.items in
    let prefix : Language = Only (priority_version_form c.args.fields.now.priority) in
    let time : Language = TimeForm c.args.fields.now.instant in
    let w3 : Language = SpacedWord (option_map (λ s. s.now) c.args.fields.now.hostname) in
    let w4 : Language = SpacedWord (option_map (λ s. s.now) c.args.fields.now.app_name) in
    let w5 : Language = SpacedWord (option_map (λ s. s.now) c.args.fields.now.proc_id) in
    let w6 : Language = SpacedWord (option_map (λ s. s.now) c.args.fields.now.msg_id) in
    let spaced : Language = time ⋅ Only (32 ∷ []) in
    puts_then prefix (spaced ⋅ w3 ⋅ w4 ⋅ w5 ⋅ w6) old s0 new c.put_word-4.result c.in_ok-put_priority_version.ensures
    (puts_then spaced (w3 ⋅ w4 ⋅ w5 ⋅ w6) s0 s2 new c.put_word-4.result
    (adds_then time (Only (32 ∷ [])) s0 s1 s2 c.in_ok-put_time.ensures c.in_ok-put.ensures)
    (puts_then w3 (w4 ⋅ w5 ⋅ w6) s2 s3 new c.put_word-4.result c.in_ok-put_word.ensures
    (puts_then w4 (w5 ⋅ w6) s3 s4 new c.put_word-4.result c.in_ok-put_word-2.ensures
    (puts_then w5 w6 s4 s5 new c.put_word-4.result c.in_ok-put_word-3.ensures c.put_word-4.ensures))))
