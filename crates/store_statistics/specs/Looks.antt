-- What a file is found to be.
use Rattle.std.specs.Prelude.{◌≡◌, ℕ, List, Result, Ok, Err, IsSome}
use Rattle.disk.specs.States.{Files}
use Rattle.store_reading.specs.declared.fault.CheckFault.{CheckFault}
use Rattle.store_reading.specs.declared.fault.CheckFault.TheVariants.{Damaged as Is_damaged, Input, Memory}
use Rattle.store_upkeep.specs.Causes.{IsCounted}
use Rattle.store_upkeep.specs.Damages.{IsToldAt}
use Rattle.store_statistics.specs.Files.{HasFigures}
use Rattle.store_statistics.specs.declared.figures.Figures.{Figures}
use Rattle.store_statistics.specs.declared.look.Look.{Look}
use Rattle.store_statistics.specs.declared.look.Look.TheVariants.{Nothing, Figures as Counted, Damaged}

-- what counting a file says of it
abbrev pub IsSeenBy : Result Figures CheckFault → Look → Type 0
IsSeenBy (Ok f) look = look ≡ Counted f
IsSeenBy (Err (Is_damaged damage)) look = look ≡ Damaged damage
IsSeenBy (Err (Input fault)) look = ⊥
IsSeenBy (Err Memory) look = ⊥

-- no file that counts is under a name, or it has the figures, or the damage
abbrev pub IsSeenAt : Look → Files → List ℕ → Type 0
IsSeenAt Nothing files name = IsCounted name → ¬ (IsSome (files name))
IsSeenAt (Counted f) files name = HasFigures files name f
IsSeenAt (Damaged damage) files name = IsToldAt files name damage
