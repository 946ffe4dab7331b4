use Rattle.syslog_frame.proofs.scanner.Scanner.next_borrowed.Goals as goal

pub returns-clause-stands : goal.returns-clause-stands
returns-clause-stands c = rw (← c.self.view_is) c.next_borrowed.ensures.stands

pub returns-clause-reads : goal.returns-clause-reads
returns-clause-reads c = rw (← c.self.view_is) c.next_borrowed.ensures.reads
