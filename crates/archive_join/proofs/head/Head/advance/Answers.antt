use Rattle.archive_join.proofs.NextEntries.{read_or_end}
use Rattle.archive_join.proofs.head.Head.advance.Goals as goal

pub returns-in-Ok-clause-moves : goal.returns-in-Ok-clause-moves
returns-in-Ok-clause-moves g c = λ d ts ws p.
    read_or_end c.args.self.now c.in-Ok.some c.next.new.self _ _ c.if-self.false c.in-Ok.ensures.entry
    c.in-Ok.ensures.end d ts ws p
