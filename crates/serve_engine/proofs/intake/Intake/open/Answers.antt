use Rattle.std.proofs.Common.{arith, ◌∙◌}
use Rattle.syslog_collect.specs.Answers.{accepted_opening}
use Rattle.syslog_collect.specs.Collectors.{reading_of, waits_of}
use Rattle.syslog_collect.specs.History.{history_of}
use Rattle.serve_engine.proofs.Opening.{opened_as, refused_opening}
use Rattle.serve_engine.proofs.intake.Intake.open.Goals as goal

pub returns-clause-received : goal.returns-clause-received
returns-clause-received g c k first before at = (
  accepted_opening c.args.conn c.args.framing c.open_conn-answer.result,
  record {
    keeper = at.keeper;
    within = at.within;
    collector = c.open_conn-answer.ensures.goes_on.stands k.held first before at.collector;
  },
  rw c.opening_of.ensures (opened_as _ (reading_of c.args.self.now.collector) (history_of before)
      (waits_of c.args.self.now.collector) (waits_of c.open_conn-answer.new.self) c.args.conn c.args.framing
      c.open_conn-answer.result (omega (arith, c.args.self.now.collector.connections.many))
      (c.open_conn-answer.ensures.cause k.held first before at.collector) c.open_conn-answer.ensures.waits),
)

pub returns-clause-settled : goal.returns-clause-settled
returns-clause-settled g c none d = c.open_conn-answer.ensures.waits d ∙ none d

pub returns-clause-room : goal.returns-clause-room
returns-clause-room g c k first before at = rw c.opening_of.ensures (refused_opening _ (history_of before) c.args.conn
    c.args.framing c.open_conn-answer.result (c.open_conn-answer.ensures.cause k.held first before at.collector))
