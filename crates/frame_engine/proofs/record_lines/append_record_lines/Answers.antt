use Rattle.octet_language.specs.Language.{Only, ◌⋅◌, Language}
use Rattle.std.specs.List.{flat_map}
use Rattle.frame_engine.specs.Showing.{PriorityLine, RecordLines, TimeLine, element_lines, message_line, number_line}
use Rattle.frame_engine.specs.Showing.{word_lines}
use Rattle.syslog_fields.proofs.Appends.{puts_as, puts_then}
use Rattle.frame_engine.proofs.ShowLemmas.{same_lines, same_message}
use Rattle.std.proofs.Common.{◌∙◌, subst, sym}
use Rattle.std.specs.Prelude.{if◌then◌else◌, ◌↔◌, IsTrue}
use Rattle.syslog_value.specs.Messages.{HasMark}
use Rattle.syslog_value.specs.Parts.{AnyOctets, MessageParts, Utf8Text}
use Rattle.frame_engine.proofs.record_lines.append_record_lines.Goals as goal

pub returns : goal.returns
unfolding RecordLines
returns c =
    let r = c.args.record.now in
    let old = c.args.out.now.items in
    let s0 = c.put_number.new.out.items in
    let s1 = c.put_priority.new.out.items in
    let s2 = c.put_time.new.out.items in
    let s3 = c.put_words.new.out.items in
    let s4 = c.put_elements.new.out.items in
    let new = c.put_message.new.out.items in
    let number : Language = Only (number_line c.args.number) in
    let m : MessageParts = if c.has_mark.result then Utf8Text c.octets.result.now else AnyOctets c.octets.result.now in
    let priority : Language = PriorityLine c.priority.result in
    let time : Language = TimeLine c.instant.result in
    let words : Language = Only (word_lines r) in
    let elements : Language = Only (flat_map element_lines c.elements.result.now) in
    let message : Language = Only (message_line m) in
    let whole = puts_then number (priority ⋅ time ⋅ words ⋅ elements ⋅ message) old s0 new c.put_message.result
    c.in_ok-put_number.ensures
    (puts_then priority (time ⋅ words ⋅ elements ⋅ message) s0 s1 new c.put_message.result c.in_ok-put_priority.ensures
    (puts_then time (words ⋅ elements ⋅ message) s1 s2 new c.put_message.result c.in_ok-put_time.ensures
    (puts_then words (elements ⋅ message) s2 s3 new c.put_message.result c.in_ok-put_words.ensures
    (puts_then elements message s3 s4 new c.put_message.result c.in_ok-put_elements.ensures c.put_message.ensures)))) in
    puts_as (number ⋅ priority ⋅ time ⋅ words ⋅ elements ⋅ message) (RecordLines c.args.number r) old new
    c.put_message.result
    (same_lines c.args.number c.priority.result r c.instant.result c.elements.result.now m c.priority.ensures.value
    c.instant.ensures (c.elements.ensures.value ∙ c.structured.ensures)
    (same_message c.message.result.now c.octets.result.now c.has_mark.result c.octets.ensures.value
    (subst (λ (x : MessageParts). IsTrue c.has_mark.result ↔ HasMark x) (c.message-2.ensures ∙ sym c.message.ensures)
    c.has_mark.ensures) ∙ c.message.ensures)) whole
