use Rattle.std.proofs.Common.{sym, subst}
use Rattle.std.proofs.lemmas.Result.{IfOk-weaker}
use Rattle.std.specs.Prelude.{ℤ}
use Rattle.syslog_value.specs.Parts.{Parts}
use Rattle.syslog_reading.proofs.Laws.{one_meaning}
use Rattle.archive_text.specs.Entries.{IsEntryOf}
use Rattle.archive_text.proofs.store.Store.add_view.Goals as goal

pub returns-in-Ok-clause-ok : goal.returns-in-Ok-clause-ok
returns-in-Ok-clause-ok g c =
    IfOk-weaker c.add.result _ _ (λ added adds b seen. (c.in-Ok.record, c.in-Ok.ensures b seen, adds)) c.add.ensures.ok

pub returns-in-Ok-clause-long : goal.returns-in-Ok-clause-long
returns-in-Ok-clause-long g c is b seen r e well of =
    c.add.ensures.long is e
    (subst (λ (q : Parts ℤ). IsEntryOf q e) (one_meaning r c.in-Ok.record b well (c.in-Ok.ensures b seen)) of)
