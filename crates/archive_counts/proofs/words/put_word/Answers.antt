use Rattle.std.proofs.Common.{ℕ, subst}
use Rattle.syslog_fields.specs.Appending.{Puts}
use Rattle.archive_counts.specs.Words.{IsFacilityWord, IsSeverityWord}
use Rattle.archive_counts.proofs.HeaderTexts.{priority_not_there, priority_there}
use Rattle.archive_counts.proofs.words.put_word.Goals as goal

pub returns-in-None : goal.returns-in-None
returns-in-None c = λ r known time. absurd (priority_not_there r.priority (c.in-None.ensures r known))

pub returns-in-Some : goal.returns-in-Some
returns-in-Some c = λ r known time.
    rw c.in-Facility.is (subst (λ (p : ℕ). Puts (IsFacilityWord p) c.args.out.now.items c.put_facility.new.out.items
    c.put_facility.result) (priority_there c.in-Some.priority r.priority (c.in-Some.ensures r known))
    c.put_facility.ensures)

pub returns-in-None-priority_of : goal.returns-in-None-priority_of
returns-in-None-priority_of c = λ r known time.
    absurd (priority_not_there r.priority (c.in-None-priority_of.ensures r known))

pub returns-in-Some-priority_of : goal.returns-in-Some-priority_of
returns-in-Some-priority_of c = λ r known time.
    rw c.in-Severity.is (subst (λ (p : ℕ). Puts (IsSeverityWord p) c.args.out.now.items c.put_severity.new.out.items
    c.put_severity.result) (priority_there c.in-Some-priority_of.priority r.priority (c.in-Some-priority_of.ensures r known))
    c.put_severity.ensures)
