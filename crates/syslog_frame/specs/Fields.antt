-- A scanner's fields, as what it holds, and what is true of them.
use Rattle.std.specs.Prelude.{◌≡◌, ◌≤◌, true, vec_capacity}
use Rattle.syslog_frame.specs.Scan.{Scan}
use Rattle.syslog_frame.specs.State.{IsState, KeepsSize}
use Rattle.syslog_frame.specs.declared.limits.TheConstants.{COUNT_MAX, FRAME_MAX, POSITION_MAX}
use Rattle.syslog_frame.specs.declared.growing_scanner.GrowingScanner.TheInside.{Inside}

-- what the fields hold
abbrev pub scan_of : Inside → Scan
scan_of s = record {
  framing = s.framing;
  position = s.position;
  start = s.start;
  phase = s.phase;
  count = s.count;
  size = s.size;
  kept = s.kept.items;
  reserved = s.reserved;
}

-- there is room for a whole record, where that is reserved, and the numbers are those of an offset in a stream
pub record IsSound (s : Inside) : Type 0 where
  pub room : s.reserved ≡ true → FRAME_MAX ≤ vec_capacity s.kept
  pub known : KeepsSize s.size s.kept
  pub small : s.count ≤ COUNT_MAX
  pub far : s.size ≤ s.position
  pub begun : s.start ≤ s.position
  pub within : s.position ≤ POSITION_MAX
  pub state : IsState s.framing s.phase s.count s.size
