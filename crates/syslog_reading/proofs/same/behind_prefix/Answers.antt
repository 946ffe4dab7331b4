use Rattle.std.proofs.Common.{sym, ◌∙◌}
use Rattle.std.proofs.lemmas.Bool.{false≢true}
use Rattle.std.proofs.lemmas.Slice.Eq.{bytes_eq-Decides}
use Rattle.syslog_reading.proofs.Meanings.{starts_with}
use Rattle.syslog_reading.proofs.same.behind_prefix.Goals as goal

pub returns-else-eq : goal.returns-else-eq
returns-else-eq c = λ t e.
    false≢true (sym c.if-eq.false ∙ c.eq.ensures
    ∙ (bytes_eq-Decides c.split_at.result.0.now c.args.prefix.now).1
    (c.split_at.ensures.front ∙ starts_with c.args.prefix.now c.args.octets.now t e))
