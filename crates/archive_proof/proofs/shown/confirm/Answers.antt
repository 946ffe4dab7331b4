use Rattle.std.proofs.Common.{rules, ◌⊎◌, sym, subst}
use Rattle.archive_text.specs.Entries.{Has}
use Rattle.archive_text.specs.EntryViews.{entry_of}
use Rattle.archive_proof.specs.Showing.{Collides}
use Rattle.archive_proof.specs.declared.proof.Proof.{Proof}
use Rattle.archive_proof.proofs.Theorems.{present_is_in, absent_is_not_in}
use Rattle.archive_proof.proofs.shown.confirm.Goals as goal

pub returns-then-leads-clause-is_in : goal.returns-then-leads-clause-is_in
returns-then-leads-clause-is_in c =
    λ _ own most xs archive is.
    subst (λ (p : Proof). Has xs (entry_of c.args.entry.now) ⊎ Collides xs c.args.entry.now.octets.now p)
    (sym c.in-Present.is)
    (present_is_in c.args.head.now (entry_of c.args.entry.now) c.in-Present.path xs (search rules) is archive.entries
    own
    (c.leads.ensures.0 (search rules)))

pub returns-then-parts-clause-is_not_in : goal.returns-then-parts-clause-is_not_in
returns-then-parts-clause-is_not_in c =
    λ _ most xs archive is.
    subst (λ (p : Proof). (¬ (Has xs (entry_of c.args.entry.now))) ⊎ Collides xs c.args.entry.now.octets.now p)
    (sym c.in-Absent.is)
    (absent_is_not_in c.args.head.now (entry_of c.args.entry.now) c.in-Absent.before c.in-Absent.behind xs
    (search rules) is archive.ascending archive.entries (c.parts.ensures.0 (search rules)))
