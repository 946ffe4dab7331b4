use Rattle.std.proofs.Common.{rules, ◌≡◌, ◌+◌, ◌<◌, ◌++◌, ◌∷◌, [], ℕ, List, IsTrue, false, length, ap, sym, subst, ◌∙◌}
use Rattle.std.proofs.Common.{append_assoc, arith}
use Rattle.std.specs.Fmt.{decimal}
use Rattle.std.proofs.lemmas.List.{length-append}
use Rattle.archive_text.specs.Faults.{IsBadFrame}
use Rattle.archive_text.specs.declared.limits.TheConstants.{ENTRY_MAX}
use Rattle.archive_streams.specs.Pieces.{unused}
use Rattle.archive_streams.proofs.Counting.{cut_entry, cut_here, input_fault}
use Rattle.archive_streams.proofs.Giving.{ReadsOn-then}
use Rattle.archive_streams.proofs.reading.read_octets.Goals as goal

pub returns-in-Err-clause-fault : goal.returns-in-Err-clause-fault
returns-in-Err-clause-fault g c =
    let head = c.args.text.now.items in
    let text = c.take.new.text.items in
    let rest = unused c.take.new.self in
    let inv = c.octets.invariant in
    let none = c.in-Err.ensures.none in
    let size : length c.octets.text.items ≡ length head + length inv.some.octets =
    omega (arith, ap length inv.some.parts, length-append head inv.some.octets) in
    let less : length inv.some.octets < c.args.count = omega (arith, size, c.octets-test.true, inv.size) in
    let cut = cut_here ENTRY_MAX text rest none.0
    (cut_entry ENTRY_MAX c.args.count head inv.some.octets text rest c.requires.counted (none.1 ∙ inv.some.parts)
    c.requires.fits less none.0) in
    input_fault c.in-Err.fault (text ++ rest) c.take.new.self cut c.in-Err.ensures.endless

pub returns-then-not-some-clause-fault : goal.returns-then-not-some-clause-fault
returns-then-not-some-clause-fault g c =
    let head = c.args.text.now.items in
    let text = c.take.new.text.items in
    let rest = unused c.take.new.self in
    let inv = c.octets.invariant in
    let none : c.in-Ok.some ≡ false = search rules in
    let end = c.in-Ok.ensures.end none in
    let parts : text ≡ head ++ inv.some.octets = end.2 ∙ inv.some.parts in
    let size : length c.octets.text.items ≡ length head + length inv.some.octets =
    omega (arith, ap length inv.some.parts, length-append head inv.some.octets) in
    let less : length inv.some.octets < c.args.count = omega (arith, size, c.octets-test.true, inv.size) in
    let some : 0 < length text = omega (
      arith,
      ap length parts,
      length-append head inv.some.octets,
      ap length c.requires.counted.2,
      length-append (decimal c.args.count) (32 ∷ []),
    ) in
    let at : c.len-at.result ≡ length text = omega arith in
    let cut = cut_entry ENTRY_MAX c.args.count head inv.some.octets text rest c.requires.counted parts c.requires.fits
    less end.0 in
    (subst (IsBadFrame ENTRY_MAX (text ++ rest)) (sym at) cut, omega (arith, some, length-append text rest), λ e. end.1)

pub octets-preserved : goal.octets-preserved
octets-preserved g c =
    let head = c.args.text.now.items in
    let inv = c.octets.invariant in
    let some : IsTrue c.in-Ok.some = search rules in
    let m = c.in-Ok.ensures.some some in
    let size : length c.octets.text.items ≡ length head + length inv.some.octets =
    omega (arith, ap length inv.some.parts, length-append head inv.some.octets) in
    record {
      size = omega arith;
      some = record {
        octets = inv.some.octets ++ m.more;
        few = omega (arith, size, m.few, inv.size, length-append inv.some.octets m.more);
        parts = m.grown ∙ ap (λ (s : List ℕ). s ++ m.more) inv.some.parts ∙ append_assoc head inv.some.octets m.more;
      };
      room = omega arith;
      failures = c.in-Ok.ensures.failures ∙ inv.failures;
      reads = ReadsOn-then _ _ _ _ _ _ _ _ _ inv.reads c.take.ensures.reads;
    }

pub returns-in-Err-clause-reads : goal.returns-in-Err-clause-reads
returns-in-Err-clause-reads g c = ReadsOn-then _ _ _ _ _ _ _ _ _ c.octets.invariant.reads c.take.ensures.reads

pub returns-then-not-some-clause-reads : goal.returns-then-not-some-clause-reads
returns-then-not-some-clause-reads g c = ReadsOn-then _ _ _ _ _ _ _ _ _ c.octets.invariant.reads c.take.ensures.reads
