use Rattle.std.proofs.Common.{◌≡◌, ◌+◌, ◌++◌, ◌∷◌, ◌∙◌, [], ap, arith, rules, sym, take}
use Rattle.std.proofs.lemmas.List.{take_more}
use Rattle.store_expiry.specs.Room.{octets_of}
use Rattle.store_expiry.specs.declared.room.SegmentSize.{SegmentSize}
use Rattle.store_expiry.proofs.Rooms.{all_more}
use Rattle.store_expiry.proofs.room.octets_of.Goals as goal

pub segments-preserved : goal.segments-preserved
segments-preserved c =
    let segments = c.args.segments.now in
    let at = c.segments.segment-index in
    let first = take at segments in
    let s = c.segment-item.result in
    let more = take_more segments at s c.segments-test.true
    ∙ ap (λ (n : SegmentSize). first ++ n ∷ []) (sym c.segment-item.is) in
    let sum : octets_of (take (at + 1) segments) ≡ octets_of first + s.octets = ap octets_of more ∙ all_more first s in
    record {
      sum = omega (arith, c.segments.invariant.sum, c.from-octets.ensures, sum);
      small = search rules;
    }
