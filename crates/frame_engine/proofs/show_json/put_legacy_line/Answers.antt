use Rattle.std.proofs.Common.{◌≡◌, [], None, refl, subst}
use Rattle.std.specs.Prelude.{ℤ, OnOk, if◌then◌else◌, option_map}
use Rattle.syslog_value.specs.Parts.{AnyOctets, Parts, Utf8Text}
use Rattle.syslog_fields.specs.Appending.{Adds}
use Rattle.syslog_legacy.specs.Views.{legacy_view_parts}
use Rattle.record_json.specs.Objects.{JsonLine}
use Rattle.frame_engine.proofs.ShowJsonLemmas.{same_message}
use Rattle.frame_engine.proofs.show_json.put_legacy_line.Goals as goal
use Rattle.syslog_value.specs.EqualityLaws.{same_record}

pub returns-clause-ok : goal.returns-clause-ok
returns-clause-ok c =
    let q = legacy_view_parts c.args.view.now in
    let r : Parts ℤ = record {
      priority = c.priority.result;
      time = c.instant.result;
      hostname = option_map (λ s. s.now) c.hostname.result;
      app_name = option_map (λ s. s.now) c.app_name.result;
      proc_id = option_map (λ s. s.now) c.proc_id.result;
      msg_id = None;
      elements = [];
      message = if c.has_mark.result then Utf8Text c.message.result.now else AnyOctets c.message.result.now;
    } in
    let whole : r ≡ q = same_record r q c.priority.ensures c.instant.ensures c.hostname.ensures c.app_name.ensures
    c.proc_id.ensures refl refl
    (same_message q.message c.message.result.now c.has_mark.result c.message.ensures c.has_mark.ensures) in
    subst (λ (p : Parts ℤ). OnOk c.put_lent_line.result
    (Adds (JsonLine p) c.args.out.now.items c.put_lent_line.new.out.items)) whole (c.put_lent_line.ensures.ok [] refl)
