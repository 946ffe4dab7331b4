use Rattle.std.proofs.Common.{◌≡◌, ◌⊎◌, ◌<◌, List}
use Rattle.octet_devices.specs.Device.{InputState}
use Rattle.archive_streams.specs.Entries.{IsOpen, still_to_come}
use Rattle.archive_text.specs.Entries.{Entry}
use Rattle.store_addition.specs.Adding.{Gathering, IsInRoom}
use Rattle.store_addition.proofs.adding.Adding.gather.Given as goal

abbrev pub invariant-entries : goal.invariant-entries
invariant-entries g l = record {
  unclosed : IsOpen l.self.entries;
  on : (d : InputState) (done : List Entry) → Gathering l.fn.self d (g.R.Input.state l.fn.input) done
      → Gathering l.self d (g.R.Input.state l.input) done;
  came : (l.self ≡ l.fn.self) ⊎ (still_to_come l.self.entries < still_to_come l.fn.self.entries);
  room : IsInRoom l.fn.self → IsInRoom l.self;
  failures : (g.R.Input.state l.input).failures ≡ (g.R.Input.state l.fn.input).failures;
}

abbrev pub decreases-entries : goal.decreases-entries
decreases-entries g l = still_to_come l.self.entries
