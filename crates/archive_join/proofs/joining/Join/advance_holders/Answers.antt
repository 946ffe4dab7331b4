use Rattle.std.proofs.lemmas.Result.{on_ok_weaker}
use Rattle.archive_join.proofs.Leasts.{alone_after, alone_before}
use Rattle.archive_join.proofs.Turns.{turn_nears, turn_nears_at}
use Rattle.archive_join.proofs.joining.Join.advance_holders.Goals as goal

pub returns-then-least-clause-nears : goal.returns-then-least-clause-nears
returns-then-least-clause-nears g c =
    on_ok_weaker c.advance.result (λ near. turn_nears c.args.self.now.heads.items c.advance.new.self.heads.items
    c.args.self.now.holders.items c.args.least.at c.requires.found.least c.requires.holders near) c.advance.ensures.nears

pub advance_at-requires-clause-idle : goal.advance_at-requires-clause-idle
advance_at-requires-clause-idle g c =
    alone_before c.args.self.now.heads.items c.args.self.now.holders.items c.args.least c.requires.found
    c.requires.holders c.if-least.false

pub returns-clause-idle : goal.returns-clause-idle
returns-clause-idle g c =
    on_ok_weaker c.advance_at.result (λ is. alone_after c.args.self.now.heads.items c.args.self.now.holders.items
    c.advance_at.new.self.holders.items c.args.least c.requires.found c.requires.holders c.if-least.false is)
    c.advance_at.ensures.holders

pub returns-clause-nears : goal.returns-clause-nears
returns-clause-nears g c =
    on_ok_weaker c.advance_at.result (λ near. turn_nears_at c.args.self.now.heads.items c.advance_at.new.self.heads.items
    c.args.self.now.holders.items c.args.least.at c.requires.found.least c.requires.holders near)
    c.advance_at.ensures.nears
