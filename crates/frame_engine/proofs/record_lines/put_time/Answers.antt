use Rattle.std.proofs.Common.{None, ◌∷◌, [], refl}
use Rattle.std.specs.Prelude.{codes}
use Rattle.octet_language.specs.Language.{Only}
use Rattle.frame_engine.specs.Showing.{TimeLine}
use Rattle.syslog_fields.proofs.Appends.{puts_as}
use Rattle.frame_engine.proofs.record_lines.put_time.Goals as goal

pub returns-in-None : goal.returns-in-None
returns-in-None c =
    rw c.in-None.is (puts_as (Only (codes "time -\n")) (TimeLine None) c.args.out.now.items c.put.new.out.items
    c.put.result (λ s e. (45 ∷ [], refl, e)) c.put.ensures)
