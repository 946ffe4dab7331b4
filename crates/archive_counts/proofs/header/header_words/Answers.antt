use Rattle.std.proofs.Common.{[], ◌∷◌, ◌++◌}
use Rattle.syslog_fields.specs.Canonical.{word_form}
use Rattle.archive_counts.proofs.HeaderTexts.{four_words, record_texts}
use Rattle.archive_counts.proofs.header.header_words.Goals as goal

pub returns : goal.returns
returns c = λ r known.
    let t = record_texts r c.args.octets.now known in
    let msg_id = word_form r.msg_id ++ 32 ∷ t.rest in
    let proc_id = word_form r.proc_id ++ 32 ∷ msg_id in
    let app_name = word_form r.app_name ++ 32 ∷ proc_id in
    let hostname = four_words r.hostname r.app_name r.proc_id r.msg_id t.rest in
    let version = c.split_space.ensures (t.pri ++ 49 ∷ []) (t.time ++ 32 ∷ hostname) t.front_free t.is in
    let time = c.split_space-2.ensures t.time hostname t.time_free version.1 in
    let first = c.split_space-3.ensures (word_form r.hostname) app_name t.hostname_free time.1 in
    let second = c.split_space-4.ensures (word_form r.app_name) proc_id t.app_name_free first.1 in
    let third = c.split_space-5.ensures (word_form r.proc_id) msg_id t.proc_id_free second.1 in
    let fourth = c.split_space-6.ensures (word_form r.msg_id) t.rest t.msg_id_free third.1 in
    record { hostname = first.0; app_name = second.0; proc_id = third.0; msg_id = fourth.0 }
