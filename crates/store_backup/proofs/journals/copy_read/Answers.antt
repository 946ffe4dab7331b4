use Rattle.store_reading.proofs.Damaged.{hidden_damaged}
use Rattle.store_reading.proofs.Tails.{hidden_file}
use Rattle.store_reading.proofs.Whole.{if_ok_more}
use Rattle.store_backup.proofs.Becoming.{journal_at, journal_damage, same_nothing}
use Rattle.store_backup.proofs.journals.copy_read.Goals as goal

pub returns-in-Ok-clause-becomes : goal.returns-in-Ok-clause-becomes
returns-in-Ok-clause-becomes g c =
    if_ok_more c.write_journal.result _ _
    (λ outcome becomes tells files opens at. becomes tells files opens
    (journal_at files c.args.name.now c.args.journal.now c.in-Octets.octets c.deref.result.now at c.in-Octets.is
    c.deref.ensures.value c.in-Ok.ensures.whole)) c.write_journal.ensures.becomes

pub returns-in-Ok-clause-places : goal.returns-in-Ok-clause-places
returns-in-Ok-clause-places g c tells files opens at =
    c.write_journal.ensures.places tells files opens
    (journal_at files c.args.name.now c.args.journal.now c.in-Octets.octets c.deref.result.now at c.in-Octets.is
    c.deref.ensures.value c.in-Ok.ensures.whole)

pub returns-in-Hidden-clause-becomes : goal.returns-in-Hidden-clause-becomes
returns-in-Hidden-clause-becomes g c tells files opens at = (
  same_nothing files (g.D.Disk.state c.args.target.now) c.args.draft.now c.args.name.now opens,
  journal_damage files c.args.name.now c.args.journal.now _ at
      (λ file is. hidden_damaged file _ (hidden_file c.args.journal.now _ c.in-Hidden.is file is)),
)
