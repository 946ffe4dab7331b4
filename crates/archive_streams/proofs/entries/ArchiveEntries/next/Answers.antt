use Rattle.std.proofs.Common.{rules, ◌≡◌, ◌+◌, ◌∙◌, IsTrue, false, length, refl, ap, arith}
use Rattle.archive_streams.specs.EntryTexts.{entry_in}
use Rattle.archive_streams.proofs.EntrySteps.{comes_nearer, ends_whole, goes_on, stops_short}
use Rattle.archive_streams.proofs.entries.ArchiveEntries.next.Goals as goal

pub returns-in-Ok-true-clause-entry : goal.returns-in-Ok-true-clause-entry
returns-in-Ok-true-clause-entry g c = λ _.
    let s = c.args.self.now in
    let t = c.next.new.self in
    let on : IsTrue c.in-Ok-true.field-0 = search rules in
    let position : t.position ≡ s.reader.position + length t.entry.text.items =
    omega (arith, c.in-Ok-true.ensures.on.position) in
    let next = c.in-Ok-true.ensures.entry on in
    record {
      open_before = c.in-Open.is;
      open_after = c.in-Open.is;
      nearer = comes_nearer s.reader t (c.next.ensures.reads.size ∙ s.size) c.in-Ok-true.ensures.on.near next.holds position;
      reads = λ d es read.
          goes_on s.progress s.reader t c.swap.new.x d _ _ es c.in-Open.is c.swap.ensures.x_after next.holds next.above
          c.next.ensures.reads position read;
    }

pub returns-in-Ok-false-clause-end : goal.returns-in-Ok-false-clause-end
returns-in-Ok-false-clause-end g c = λ _.
    let s = c.args.self.now in
    let t = c.next.new.self in
    let off : c.in-Ok-false.field-0 ≡ false = search rules in
    let position : t.position ≡ s.reader.position + length t.entry.text.items =
    omega (arith, c.in-Ok-false.ensures.on.position) in
    record {
      progress = refl;
      entry = ap entry_in (c.swap-in-Ok-false.ensures.y_after ∙ c.swap.ensures.x_after);
      whole = λ d es read.
          ends_whole s.progress s.reader t c.swap.new.x d _ _ es c.in-Open.is c.swap.ensures.x_after s.size
          c.next.ensures.reads position (c.in-Ok-false.ensures.end off) read;
    }

pub returns-in-Err-clause-fault : goal.returns-in-Err-clause-fault
returns-in-Err-clause-fault g c =
    let s = c.args.self.now in
    let t = c.next.new.self in
    record {
      progress = refl;
      entry = ap entry_in (c.swap-in-Err.ensures.y_after ∙ c.swap.ensures.x_after);
      cut_short = λ d es read.
          stops_short c.in-Err.fault s.progress s.reader t c.swap.new.x d _ _ es c.in-Open.is c.swap.ensures.x_after
          s.size
          c.next.ensures.reads c.in-Err.ensures.fault read;
    }
