use Rattle.std.proofs.Common.{List, ℕ, ◌≡◌, ◌++◌, ap, false, rules, subst, IsTrue, length, ◌∙◌}
use Rattle.std.specs.Prelude.{◌↔◌}
use Rattle.sha2.specs.Hashers.{Holds256}
use Rattle.syslog_frame.specs.Frames.{framed}
use Rattle.syslog_frame.specs.declared.framing.Framing.TheVariants.{Counted}
use Rattle.archive_text.specs.Entries.{Entry}
use Rattle.archive_streams.specs.Entries.{current}
use Rattle.store_reading.specs.Damages.{IsDamagedArchive, OfLeft, Tells, position}
use Rattle.store_reading.specs.Faults.{check_fault_of}
use Rattle.store_reading.specs.declared.fault.CheckFault.{CheckFault}
use Rattle.store_reading.proofs.Causing.{at_err}
use Rattle.store_reading.proofs.Damaged.{stopped_told}
use Rattle.store_reading.proofs.Hashed.{other_told}
use Rattle.store_reading.proofs.Segments.{not_of_instant, of_instant}
use Rattle.store_expiry.specs.Expired.{IsExpired}
use Rattle.store_expiry.proofs.Surveying.{hashes_of, surveyed_of, surveys_more, surveys_none}
use Rattle.store_expiry.proofs.survey.survey_archive.Goals as goal

pub entries-init : goal.entries-init
entries-init g c =
    let d = g.R.Input.state c.args.reader.now in
    record {
      unclosed = c.in_ok-entries.ensures.open;
      surveys = surveys_none c.args.expired.now c.args.period.now c.in_ok-entries.entries c.new-hasher.result
          c.new-tally.result d (c.in_ok-entries.ensures.none d) c.new-hasher.ensures
          (c.new-tally.ensures c.args.expired.now);
    }

pub entries-preserved : goal.entries-preserved
entries-preserved g c =
    let on : IsTrue c.in_ok-next.field-0 = search rules in
    let one = c.in_ok-next.ensures.entry on in
    let octets = ap (λ (e : Entry). e.octets) c.entry-entry.ensures in
    record {
      unclosed = one.open_after;
      surveys = surveys_more c.args.expired.now c.args.period.now c.entries.entries c.next.new.self c.entries.hasher
          c.hash_entry.new.hasher c.entries.at c.hash_entry.result c.saturating_add-at.result c.entries.tally
          c.add.new.self (g.R.Input.state c.args.reader.now) (g.R.Input.state c.entries.reader)
          (g.R.Input.state c.next.new.reader)
          c.entries.invariant.surveys one
          (of_instant c.args.period.now c.entry-entry.result.instant (current c.next.new.self)
          (ap (λ (e : Entry). e.instant) c.entry-entry.ensures) (c.may_have.ensures.0 (search rules)))
          (λ m holds. subst (λ (o : List ℕ). Holds256 c.hash_entry.new.hasher (m ++ framed Counted o)) octets
          (c.hash_entry.ensures.hashed m holds))
          (c.hash_entry.ensures.size ∙ ap (λ (o : List ℕ). position (length (framed Counted o))) octets)
          c.saturating_add-at.ensures
          (λ es h. c.add.ensures c.args.expired.now es (current c.next.new.self)
          (subst (λ (e : Entry). IsTrue c.has.result ↔ IsExpired c.args.expired.now e) c.entry-entry.ensures
          c.has.ensures) h);
    }

pub returns-clause-surveyed : goal.returns-clause-surveyed
returns-clause-surveyed g c =
    let over : c.in_ok-next.field-0 ≡ false = search rules in
    surveyed_of c.args.expired.now c.args.period.now c.entries.entries c.next.new.self c.entries.hasher
    (record { tally = c.entries.tally; octets = c.entries.at; hex = c.hexadecimal.result })
    (g.R.Input.state c.args.reader.now) (g.R.Input.state c.entries.reader) (g.R.Input.state c.next.new.reader)
    c.entries.invariant.surveys (c.in_ok-next.ensures.end over) c.hexadecimal.ensures

pub returns-in_err-next-clause-damaged : goal.returns-in_err-next-clause-damaged
returns-in_err-next-clause-damaged g c =
    let d = g.R.Input.state c.args.reader.now in
    let surveys = hashes_of c.args.expired.now c.args.period.now c.entries.entries c.entries.hasher c.entries.at
    c.entries.tally d (g.R.Input.state c.entries.reader) c.entries.invariant.surveys in
    let fault = c.in_err-next.field-0.0 in
    at_err c.from_residual-in_err-next.result (check_fault_of fault)
    (λ (f : CheckFault). OfLeft d (λ file. Tells f (IsDamagedArchive c.args.period.now file)))
    c.from_residual-in_err-next.ensures.1
    (stopped_told c.args.period.now fault c.entries.entries c.next.new.self d (g.R.Input.state c.entries.reader)
    (g.R.Input.state c.next.new.reader) surveys.segment c.in_err-next.ensures.fault)

pub returns-then-not-may_have-clause-damaged : goal.returns-then-not-may_have-clause-damaged
returns-then-not-may_have-clause-damaged g c =
    let on : IsTrue c.in_ok-next.field-0 = search rules in
    let surveys = hashes_of c.args.expired.now c.args.period.now c.entries.entries c.entries.hasher c.entries.at
    c.entries.tally (g.R.Input.state c.args.reader.now) (g.R.Input.state c.entries.reader)
    c.entries.invariant.surveys in
    other_told c.args.period.now c.entries.entries c.next.new.self c.entries.hasher c.entries.at
    (g.R.Input.state c.args.reader.now) (g.R.Input.state c.entries.reader) (g.R.Input.state c.next.new.reader)
    surveys (c.in_ok-next.ensures.entry on)
    (not_of_instant c.args.period.now c.entry-entry.result.instant (current c.next.new.self)
    (ap (λ (e : Entry). e.instant) c.entry-entry.ensures)
    (λ may. let yes = c.may_have.ensures.1 may in absurd (cc (c.if-not-may_have.true, yes))))
