use Rattle.site_messages.specs.Words.{only_text}
use Rattle.site_messages.proofs.Wholes.{gap_none}
use Rattle.site_messages.proofs.request.behind.Goals as goal

pub returns-in-Err : goal.returns-in-Err
returns-in-Err c =
    λ rest e.
    gap_none (λ (u : Unit {0}). Unit {0}) (only_text c.args.word.now) c.args.line.now c.in-Err.field-0 c.in-Err.ensures tt
    rest tt e
