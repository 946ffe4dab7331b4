use Rattle.syslog_frame.proofs.scanner.Scanner.release.Goals as goal

pub returns-clause-stands : goal.returns-clause-stands
returns-clause-stands c = rw (← c.self.view_is) c.release.ensures.stands

pub returns-clause-reads : goal.returns-clause-reads
returns-clause-reads c = rw (← c.self.view_is) c.release.ensures.reads
