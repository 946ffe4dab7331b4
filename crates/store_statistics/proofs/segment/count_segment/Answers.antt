use Rattle.std.proofs.Common.{List, ℕ, ◌≡◌, ap, false, rules, subst, IsTrue, length, ◌∙◌, ◌++◌, ◌∷◌, []}
use Rattle.syslog_frame.specs.Frames.{framed}
use Rattle.syslog_frame.specs.declared.framing.Framing.TheVariants.{Counted}
use Rattle.archive_text.specs.Entries.{Entry}
use Rattle.archive_streams.specs.Entries.{current}
use Rattle.store_reading.specs.Damages.{IsDamagedArchive, OfLeft, Tells, position}
use Rattle.store_reading.specs.Faults.{check_fault_of}
use Rattle.store_reading.specs.declared.fault.CheckFault.{CheckFault}
use Rattle.store_reading.proofs.Causing.{at_err}
use Rattle.store_reading.proofs.Damaged.{stopped_told}
use Rattle.store_reading.proofs.Segments.{not_of_instant, of_instant}
use Rattle.store_statistics.specs.Tallies.{IsTallyOf}
use Rattle.store_statistics.proofs.Segments.{counted_of, counts_more, counts_none, other_told}
use Rattle.store_statistics.proofs.segment.count_segment.Goals as goal

pub entries-init : goal.entries-init
entries-init g c =
    let d = g.R.Input.state c.args.reader.now in
    record {
      unclosed = c.in_ok-entries.ensures.open;
      counts = counts_none c.args.period.now c.in_ok-entries.entries c.new-tally.result d
          (c.in_ok-entries.ensures.none d) c.new-tally.ensures;
    }

pub entries-preserved : goal.entries-preserved
entries-preserved g c =
    let on : IsTrue c.in_ok-next.field-0 = search rules in
    let one = c.in_ok-next.ensures.entry on in
    let octets = ap (λ (e : Entry). e.octets) c.entry-entry.ensures in
    record {
      unclosed = one.open_after;
      counts = counts_more c.args.period.now c.entries.entries c.next.new.self c.entries.at c.entry_len.result
          c.saturating_add-at.result c.entries.tally c.add.new.self (g.R.Input.state c.args.reader.now)
          (g.R.Input.state c.entries.reader) (g.R.Input.state c.next.new.reader) c.entries.invariant.counts one
          (of_instant c.args.period.now c.entry-entry.result.instant (current c.next.new.self)
          (ap (λ (e : Entry). e.instant) c.entry-entry.ensures) (c.may_have.ensures.0 (search rules)))
          (c.entry_len.ensures ∙ ap (λ (o : List ℕ). position (length (framed Counted o))) octets)
          c.saturating_add-at.ensures
          (λ es h. subst (λ (e : Entry). IsTallyOf c.add.new.self (es ++ e ∷ [])) c.entry-entry.ensures
          (c.add.ensures es h));
    }

pub returns-clause-counted : goal.returns-clause-counted
returns-clause-counted g c =
    let over : c.in_ok-next.field-0 ≡ false = search rules in
    counted_of c.args.period.now c.entries.entries c.next.new.self
    (record { tally = c.entries.tally; octets = c.entries.at }) (g.R.Input.state c.args.reader.now)
    (g.R.Input.state c.entries.reader) (g.R.Input.state c.next.new.reader) c.entries.invariant.counts
    (c.in_ok-next.ensures.end over)

pub returns-in_err-next-clause-damaged : goal.returns-in_err-next-clause-damaged
returns-in_err-next-clause-damaged g c =
    let d = g.R.Input.state c.args.reader.now in
    let fault = c.in_err-next.field-0.0 in
    at_err c.from_residual-in_err-next.result (check_fault_of fault)
    (λ (f : CheckFault). OfLeft d (λ file. Tells f (IsDamagedArchive c.args.period.now file)))
    c.from_residual-in_err-next.ensures.1
    (stopped_told c.args.period.now fault c.entries.entries c.next.new.self d (g.R.Input.state c.entries.reader)
    (g.R.Input.state c.next.new.reader) c.entries.invariant.counts.segment c.in_err-next.ensures.fault)

pub returns-then-not-may_have-clause-damaged : goal.returns-then-not-may_have-clause-damaged
returns-then-not-may_have-clause-damaged g c =
    let on : IsTrue c.in_ok-next.field-0 = search rules in
    other_told c.args.period.now c.entries.entries c.next.new.self c.entries.at c.entries.tally
    (g.R.Input.state c.args.reader.now) (g.R.Input.state c.entries.reader) (g.R.Input.state c.next.new.reader)
    c.entries.invariant.counts (c.in_ok-next.ensures.entry on)
    (not_of_instant c.args.period.now c.entry-entry.result.instant (current c.next.new.self)
    (ap (λ (e : Entry). e.instant) c.entry-entry.ensures)
    (λ may. let yes = c.may_have.ensures.1 may in absurd (cc (c.if-not-may_have.true, yes))))
