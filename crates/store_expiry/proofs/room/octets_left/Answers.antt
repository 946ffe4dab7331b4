use Rattle.std.proofs.Common.{◌≡◌, ◌+◌, ◌++◌, ◌∷◌, ◌∙◌, [], ap, arith, rules, sym, take}
use Rattle.std.proofs.lemmas.List.{take_more}
use Rattle.store_expiry.specs.Room.{kept_octets, octets_left}
use Rattle.store_expiry.specs.declared.room.SegmentSize.{SegmentSize}
use Rattle.store_expiry.proofs.Rooms.{left_more}
use Rattle.store_expiry.proofs.room.octets_left.Goals as goal

pub segments-preserved : goal.segments-preserved
segments-preserved c =
    let undated = c.args.undated in
    let day = c.args.first.now in
    let segments = c.args.segments.now in
    let at = c.segments.segment-index in
    let first = take at segments in
    let s = c.segment-item.result in
    let more = take_more segments at s c.segments-test.true
    ∙ ap (λ (n : SegmentSize). first ++ n ∷ []) (sym c.segment-item.is) in
    let sum : octets_left undated day (take (at + 1) segments) ≡ octets_left undated day first + kept_octets undated day s =
    ap (octets_left undated day) more ∙ left_more undated day first s in
    record {
      sum = omega (arith, c.segments.invariant.sum, c.from-octets.ensures, c.kept_octets.ensures, sum);
      small = search rules;
    }
