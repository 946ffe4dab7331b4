use Rattle.std.proofs.Common.{List, ℕ, subst, sym, arith, ap, ◌∙◌, length}
use Rattle.store_reading.proofs.Damaged.{hidden_damaged}
use Rattle.store_reading.proofs.Tails.{file_is, hidden_file}
use Rattle.store_statistics.specs.Files.{AreOfJournal}
use Rattle.store_statistics.proofs.Journals.{whole_journal}
use Rattle.store_statistics.proofs.batches.count_journal.Goals as goal

pub returns-in-Octets-clause-counted : goal.returns-in-Octets-clause-counted
returns-in-Octets-clause-counted c file is =
    let same = file_is c.args.journal.now c.in-Octets.octets c.in-Octets.is c.deref.result.now c.deref.ensures.value file is in
    whole_journal file c.figures_of.result (c.in_ok-check_journal.ensures.whole file is)
    (c.figures_of.ensures.octets ∙ ap length same) (omega (arith, c.figures_of.ensures.short, ap length same))
    (λ es of. c.figures_of.ensures.tally es (subst (λ (t : List ℕ). AreOfJournal t es) (sym same) of))

pub returns-in-Hidden-clause-damaged : goal.returns-in-Hidden-clause-damaged
returns-in-Hidden-clause-damaged c file is =
    hidden_damaged file _ (hidden_file c.args.journal.now _ c.in-Hidden.is file is)
