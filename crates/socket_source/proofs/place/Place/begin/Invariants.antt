use Rattle.std.proofs.Common.{◌≡◌, ◌≤◌}
use Rattle.socket_source.specs.Places.{begun, place_at}
use Rattle.socket_source.proofs.place.Place.begin.Given as goal

-- the frames so far are counted, and there is room for them
abbrev pub invariant-loop-at : goal.invariant-loop-at
invariant-loop-at l = record {
  frames : begun l.framing l.fn.self l.octets l.at ≡ l.frames;
  place : place_at l.framing l.fn.self l.octets l.at ≡ l.place;
  few : l.frames ≤ l.room;
}
