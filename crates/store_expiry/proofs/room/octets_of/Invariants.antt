use Rattle.std.proofs.Common.{◌≡◌, ◌*◌, ◌^◌, ◌≤◌, take}
use Rattle.store_expiry.specs.Room.{octets_of}
use Rattle.store_expiry.proofs.room.octets_of.Given as goal

abbrev pub invariant-segments : goal.invariant-segments
invariant-segments l = record {
  sum : l.octets ≡ octets_of (take l.segment-index l.segments);
  small : l.octets ≤ l.segment-index * 2 ^ 64;
}
