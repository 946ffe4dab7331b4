use Rattle.std.proofs.Common.{rules, ◌≡◌, ◌<◌, ◌^◌, ◌+◌, ◌++◌, IsTrue, false, sym, subst, arith}
use Rattle.std.proofs.lemmas.List.{length-append}
use Rattle.archive_text.specs.Positions.{position_of}
use Rattle.archive_text.specs.declared.limits.TheConstants.{ENTRY_MAX}
use Rattle.archive_text.specs.declared.fault.ArchiveFault.{ArchiveFault}
use Rattle.archive_streams.specs.EntryTexts.{entry_in, HoldsEntry, IsAbove}
use Rattle.archive_streams.specs.Faults.{IsSideFault}
use Rattle.archive_streams.specs.Pieces.{unused}
use Rattle.archive_streams.specs.declared.fault.SideFault.{SideFault}
use Rattle.archive_streams.specs.Sides.{IsNextFault}
use Rattle.archive_streams.specs.declared.fault.SideFault.TheVariants.{Archive}
use Rattle.archive_streams.proofs.NextEntries.{near_on, next_fault, not_above_fault}
use Rattle.archive_streams.proofs.NextEntries.{reach_short}
use Rattle.archive_streams.proofs.side.ArchiveReader.next.Goals as goal
use Rattle.archive_text.proofs.FaultLaws.{position_within}

pub returns-then-not-is_above-clause-fault : goal.returns-then-not-is_above-clause-fault
returns-then-not-is_above-clause-fault g c =
    let t = c.read_entry.new.entry in
    let off : c.is_above.result ≡ false = search rules in
    let low : ¬ (IsAbove c.args.last.now (entry_in t)) =
    λ above. (let on : IsTrue c.is_above.result = c.is_above.ensures.1 above in absurd cc) in
    let holds : HoldsEntry t = search rules in
    not_above_fault c.args.last.now t c.args.self.now.position (unused c.read_entry.new.pieces) c.read_entry.new.pieces
    holds low

pub returns-else-not-is_above-clause-on : goal.returns-else-not-is_above-clause-on
returns-else-not-is_above-clause-on g c =
    let t = c.read_entry.new.entry in
    let near = near_on _ _ _ _ (unused c.args.self.now.pieces) t.text.items c.args.self.now.position
    c.read_entry.ensures.reads c.requires.near in
    record { near = omega (arith, near); position = omega arith }

pub returns-in-Err-Archive-clause-fault : goal.returns-in-Err-Archive-clause-fault
returns-in-Err-Archive-clause-fault g c =
    let fault = c.in-Err-Archive.fault in
    let position = c.args.self.now.position in
    let t = c.read_entry.new.entry in
    let p = c.read_entry.new.pieces in
    let rest = t.text.items ++ unused p in
    let wrong = subst (λ (f : SideFault). IsSideFault f rest p) c.in-Err-Archive.field-0-is
    c.in-Err-Archive.ensures.fault in
    let near = near_on _ _ _ _ (unused c.args.self.now.pieces) t.text.items position c.read_entry.ensures.reads
    c.requires.near in
    let fits : position + position_of fault < 2 ^ 64 =
    omega (
      arith,
      position_within ENTRY_MAX rest fault wrong.0,
      length-append t.text.items (unused p),
      near,
      reach_short p,
    )
    in
    subst (λ (f : ArchiveFault). IsNextFault (Archive f) c.args.last.now position rest p)
    (sym (c.later.ensures.fits fits)) (next_fault fault c.args.last.now position rest p wrong)
