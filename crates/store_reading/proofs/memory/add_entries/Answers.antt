use Rattle.std.proofs.Common.{IsTrue, List, ℕ, ap, rules, subst, sym, length, ◌≡◌, ◌≤◌, ◌++◌, false}
use Rattle.std.specs.Prelude.{codes}
use Rattle.sha2.specs.Hashers.{Holds256}
use Rattle.syslog_frame.specs.Frames.{framed}
use Rattle.syslog_frame.specs.declared.framing.Framing.TheVariants.{Counted}
use Rattle.archive_text.specs.Entries.{Entry, IsEntry}
use Rattle.archive_text.specs.declared.limits.TheConstants.{ENTRY_MAX}
use Rattle.archive_join.specs.Ranges.{IsOfRange}
use Rattle.store_reading.specs.Damages.{IsDamagedArchive, OfLeft, Tells}
use Rattle.store_reading.specs.Faults.{check_fault_of}
use Rattle.store_reading.specs.Journals.{Adds}
use Rattle.store_reading.specs.Sources.{set_entries}
use Rattle.store_reading.specs.declared.fault.CheckFault.{CheckFault}
use Rattle.store_reading.proofs.Causing.{at_err}
use Rattle.store_reading.proofs.Damaged.{stopped_told}
use Rattle.store_reading.proofs.Mixed.{mixed_added, mixed_begun, mixed_hashed, mixed_more, next_entry}
use Rattle.store_reading.proofs.memory.add_entries.Goals as goal

pub entries-init : goal.entries-init
entries-init g c =
    let d = g.R.Input.state c.args.reader.now in
    record {
      unclosed = c.in_ok-entries.ensures.open;
      added = mixed_begun c.args.range.now (set_entries c.args.set.now) c.in_ok-entries.entries c.new-hasher.result d
          (c.in_ok-entries.ensures.none d) c.new-hasher.ensures;
    }

pub add_of_range-requires-clause-entry : goal.add_of_range-requires-clause-entry
add_of_range-requires-clause-entry g c =
    let on : IsTrue c.in_ok-next.field-0 = search rules in
    let is = next_entry c.args.range.now (set_entries c.args.set.now) (set_entries c.entries.set) c.entries.entries
    c.next.new.self c.entries.hasher (g.R.Input.state c.args.reader.now) (g.R.Input.state c.entries.reader)
    (g.R.Input.state c.next.new.reader) c.entries.invariant.added (c.in_ok-next.ensures.entry on) in
    subst IsEntry (sym c.entry-entry.ensures) is.0

pub add_of_range-requires-clause-fits : goal.add_of_range-requires-clause-fits
add_of_range-requires-clause-fits g c =
    let on : IsTrue c.in_ok-next.field-0 = search rules in
    let is = next_entry c.args.range.now (set_entries c.args.set.now) (set_entries c.entries.set) c.entries.entries
    c.next.new.self c.entries.hasher (g.R.Input.state c.args.reader.now) (g.R.Input.state c.entries.reader)
    (g.R.Input.state c.next.new.reader) c.entries.invariant.added (c.in_ok-next.ensures.entry on) in
    subst (λ (e : Entry). length e.octets ≤ ENTRY_MAX) (sym c.entry-entry.ensures) is.1

pub entries-preserved : goal.entries-preserved
entries-preserved g c =
    let on : IsTrue c.in_ok-next.field-0 = search rules in
    let one = c.in_ok-next.ensures.entry on in
    let mid = set_entries c.entries.set in
    let new = set_entries c.add_of_range.new.set in
    let octets = ap (λ (e : Entry). e.octets) c.entry-entry.ensures in
    record {
      unclosed = one.open_after;
      added = mixed_more c.args.range.now (set_entries c.args.set.now) mid new c.entries.entries c.next.new.self
          c.entries.hasher c.hash_entry.new.hasher
          (g.R.Input.state c.args.reader.now) (g.R.Input.state c.entries.reader) (g.R.Input.state c.next.new.reader)
          c.entries.invariant.added one
          (λ m holds. subst (λ (o : List ℕ). Holds256 c.hash_entry.new.hasher (m ++ framed Counted o)) octets
          (c.hash_entry.ensures.hashed m holds))
          (subst (λ (e : Entry). Adds mid new (λ (x : Entry). (e ≡ x) × IsOfRange c.args.range.now x))
          c.entry-entry.ensures c.in_ok-add_of_range.ensures.adds);
    }

pub returns-clause-adds : goal.returns-clause-adds
returns-clause-adds g c =
    let off : c.in_ok-next.field-0 ≡ false = search rules in
    mixed_added c.args.range.now (set_entries c.args.set.now) (set_entries c.entries.set) c.entries.entries
    c.next.new.self c.entries.hasher (g.R.Input.state c.args.reader.now) (g.R.Input.state c.entries.reader)
    (g.R.Input.state c.next.new.reader) c.entries.invariant.added (c.in_ok-next.ensures.end off)

pub returns-clause-hashed : goal.returns-clause-hashed
returns-clause-hashed g c =
    let off : c.in_ok-next.field-0 ≡ false = search rules in
    mixed_hashed c.args.range.now (set_entries c.args.set.now) (set_entries c.entries.set) c.entries.entries
    c.next.new.self c.entries.hasher (g.R.Input.state c.args.reader.now) (g.R.Input.state c.entries.reader)
    (g.R.Input.state c.next.new.reader) c.entries.invariant.added (c.in_ok-next.ensures.end off)
    c.hexadecimal.result c.hexadecimal.ensures

pub returns-in_err-next-clause-damaged : goal.returns-in_err-next-clause-damaged
returns-in_err-next-clause-damaged g c =
    let d = g.R.Input.state c.args.reader.now in
    let fault = c.in_err-next.field-0.0 in
    at_err c.from_residual-in_err-next.result (check_fault_of fault)
    (λ (f : CheckFault). OfLeft d (λ file. Tells f (IsDamagedArchive (codes "mixed") file)))
    c.from_residual-in_err-next.ensures.1
    (stopped_told (codes "mixed") fault c.entries.entries c.next.new.self d (g.R.Input.state c.entries.reader)
    (g.R.Input.state c.next.new.reader) c.entries.invariant.added.segment c.in_err-next.ensures.fault)
