use Rattle.syslog_frame.proofs.scanner.Scanner.ready.Goals as goal

pub returns-clause-reads : goal.returns-clause-reads
returns-clause-reads c = rw (← c.self.view_is) c.ready.ensures.reads
