-- Where a collector and what keeps its records stand.
use Rattle.std.specs.Prelude.{◌≡◌, ◌⊎◌, ℕ, List, [], length}
use Rattle.archive_text.specs.Entries.{Entry}
use Rattle.syslog_collect.specs.Collectors.{Stands, behind, store_of}
use Rattle.syslog_collect.specs.History.{AcceptedEvent}
use Rattle.serve_engine.specs.Counts.{taken_both}
use Rattle.serve_engine.specs.Keepings.{IsWithin, Kept}
use Rattle.serve_engine.specs.declared.intake.Intake.{Intake}
use Rattle.serve_engine.specs.declared.keeping.Taken.{Taken}

-- the collector stands at first entries and events, behind what is held, of which some is committed
pub record StandsBy {S K : Type 0} (entries : S → List Entry) (stands : K → Kept → Type 0) (intake : Intake S K) (k : Kept)
    (first : List Entry) (events : List AcceptedEvent) : Type 0 where
  pub keeper : stands intake.keeper k
  pub within : IsWithin k
  pub collector : Stands (behind k.held entries) intake.collector first events

-- to what was handed over before, at most as much as one set was added
abbrev pub AddsTaken : Taken → Taken → Type 0
AddsTaken old new = (more : Taken) × ((new ≡ taken_both old more) ⊎ (new ≡ old))

-- all that is held is committed, and nothing else is there
pub record IsCommitted {S K : Type 0} (entries : S → List Entry) (intake : Intake S K) (k : Kept) : Type 0 where
  pub fresh : entries (store_of intake.collector) ≡ []
  pub committed : k.committed ≡ k.held

-- how many records wait in its set
abbrev pub waiting_in : {S K : Type 0} → (S → List Entry) → Intake S K → ℕ
waiting_in entries intake = length (entries (store_of intake.collector))
