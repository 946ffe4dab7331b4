use Rattle.std.proofs.Common.{◌∙◌, sym}
use Rattle.syslog_collect.specs.Answers.{accepted_ending}
use Rattle.syslog_collect.specs.Collectors.{reading_of, waits_of}
use Rattle.syslog_collect.specs.History.{history_of}
use Rattle.serve_engine.proofs.Ending.{ended_as, never_memory}
use Rattle.serve_engine.proofs.intake.Intake.end.Goals as goal

pub returns-clause-received : goal.returns-clause-received
returns-clause-received g c k first before at = (
  accepted_ending c.args.conn c.end_conn-answer.result,
  record {
    keeper = at.keeper;
    within = at.within;
    collector = c.end_conn-answer.ensures.goes_on.stands k.held first before at.collector;
  },
  rw c.ending_of.ensures (ended_as (reading_of c.args.self.now.collector) (history_of before)
      (waits_of c.args.self.now.collector) (waits_of c.end_conn-answer.new.self) c.args.conn c.end_conn-answer.result
      (c.end_conn-answer.ensures.cause k.held first before at.collector)
      (c.end_conn-answer.ensures.ready k.held first before at.collector)
      (c.end_conn-answer.ensures.waits k.held first before at.collector)),
)

pub returns-clause-settled : goal.returns-clause-settled
returns-clause-settled g c k first before at none d =
    c.end_conn-answer.ensures.waits k.held first before at.collector d ∙ none d

pub returns-clause-memory : goal.returns-clause-memory
returns-clause-memory g c is = never_memory c.end_conn-answer.result (sym c.ending_of.ensures ∙ is)
