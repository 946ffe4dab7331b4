use Rattle.std.proofs.Common.{ℕ, ◌+◌, ◌-◌, length, ap, refl, ◌∙◌}
use Rattle.syslog_fields.specs.Canonical.{word_form}
use Rattle.syslog_reading.specs.ViewParts.{view_parts}
use Rattle.c_library.proofs.Laying.{ends_lies, laid, word_later, word_lies}
use Rattle.c_library.proofs.layout.layout_of.Goals as goal

pub returns : goal.returns
returns c =
    let b = c.args.octets.now in
    let s = view_parts c.args.view.now in
    let l = laid b s c.requires in
    let at : ℕ = length b - length s.behind_time in
    let one = word_later b _ s.hostname at c.behind_word-app_name.result l.ends
    (c.behind_word-app_name.ensures ∙ ap (λ w. at + length (word_form w) + 1) c.hostname.ensures) in
    let two = word_later b _ s.app_name _ c.behind_word-proc_id.result one
    (c.behind_word-proc_id.ensures
    ∙ ap (λ w. c.behind_word-app_name.result + length (word_form w) + 1) c.app_name.ensures) in
    let three = word_later b _ s.proc_id _ c.behind_word-msg_id.result two
    (c.behind_word-msg_id.ensures
    ∙ ap (λ w. c.behind_word-proc_id.result + length (word_form w) + 1) c.proc_id.ensures) in
    let four = word_later b _ s.msg_id _ c.behind_word-structured_data.result three
    (c.behind_word-structured_data.ensures
    ∙ ap (λ w. c.behind_word-msg_id.result + length (word_form w) + 1) c.msg_id.ensures) in
    record {
      hostname = word_lies b _ s.hostname _ l.ends;
      app_name = word_lies b _ s.app_name _ one;
      proc_id = word_lies b _ s.proc_id _ two;
      msg_id = word_lies b _ s.msg_id _ three;
      structured_data = ends_lies b s.elements l.end _ four;
      hostname_is = refl;
      app_name_is = c.behind_word-app_name.ensures ∙ ap (λ w. at + length (word_form w) + 1) c.hostname.ensures;
      proc_id_is = c.behind_word-proc_id.ensures
          ∙ ap (λ w. c.behind_word-app_name.result + length (word_form w) + 1) c.app_name.ensures;
      msg_id_is = c.behind_word-msg_id.ensures
          ∙ ap (λ w. c.behind_word-proc_id.result + length (word_form w) + 1) c.proc_id.ensures;
      structured_data_is = c.behind_word-structured_data.ensures
          ∙ ap (λ w. c.behind_word-msg_id.result + length (word_form w) + 1) c.msg_id.ensures;
    }
