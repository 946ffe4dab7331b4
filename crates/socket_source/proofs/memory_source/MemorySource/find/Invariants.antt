use Rattle.std.proofs.Common.{◌≡◌, drop}
use Rattle.std.specs.Prelude.{map}
use Rattle.peer_rules.specs.AllowLists.{networks_of}
use Rattle.socket_source.specs.Scripts.{listed_item, standing_by}
use Rattle.socket_source.specs.Steps.{behind, next_of}
use Rattle.socket_source.proofs.memory_source.MemorySource.find.Given as goal

-- no item so far may come
abbrev pub invariant-loop-at : goal.invariant-loop-at
invariant-loop-at l =
    let s = standing_by l.self.flags.items l.self.listeners (networks_of l.self.allowed) in
    let steps = map listed_item l.self.steps.items in
    record {
      next : next_of s (drop l.self.at steps) ≡ next_of s (drop l.at steps);
      rest : behind s (drop l.self.at steps) ≡ behind s (drop l.at steps);
    }
