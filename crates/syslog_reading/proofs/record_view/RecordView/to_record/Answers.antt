use Rattle.std.proofs.Common.{arith, subst, sym}
use Rattle.syslog_value.specs.Parts.{IsMessage}
use Rattle.syslog_reading.specs.ViewParts.{view_parts}
use Rattle.syslog_reading.proofs.ShownParts.{shown_data, shown_distinct, shown_valid}
use Rattle.syslog_reading.proofs.record_view.RecordView.to_record.Goals as goal

pub known_word-requires : goal.known_word-requires
known_word-requires c = (omega arith, (shown_valid (view_parts c.args.self.now) c.args.self.now.shown).hostname)

pub known_word-requires-2 : goal.known_word-requires-2
known_word-requires-2 c = (omega arith, (shown_valid (view_parts c.args.self.now) c.args.self.now.shown).app_name)

pub known_word-requires-3 : goal.known_word-requires-3
known_word-requires-3 c = (omega arith, (shown_valid (view_parts c.args.self.now) c.args.self.now.shown).proc_id)

pub known_word-requires-4 : goal.known_word-requires-4
known_word-requires-4 c = (omega arith, (shown_valid (view_parts c.args.self.now) c.args.self.now.shown).msg_id)

pub to_elements-requires : goal.to_elements-requires
to_elements-requires c = shown_data (view_parts c.args.self.now) c.args.self.now.shown

pub unreachable-requires : goal.unreachable-requires
unreachable-requires c =
    let i = c.in_default.ensures.distinct.1 (shown_distinct (view_parts c.args.self.now) c.in_ok-elements.elements.items
    c.args.self.now.shown c.in_ok-elements.ensures) in absurd cc

pub unreachable-requires-in_default-2 : goal.unreachable-requires-in_default-2
unreachable-requires-in_default-2 c =
    (rw c.in_default-2.is at c.in_ok-message.ensures) (subst IsMessage (sym c.message_view.ensures)
    (shown_valid (view_parts c.args.self.now) c.args.self.now.shown).message)
