use Rattle.syslog_collect.proofs.connection.handle_octets.Goals as goal

pub returns-clause-spelled : goal.returns-clause-spelled
returns-clause-spelled g c = rw c.in-Some.is c.handle_legacy.ensures.spelled
