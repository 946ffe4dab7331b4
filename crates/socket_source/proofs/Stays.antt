-- What is open stays.
use Rattle.std.proofs.Common.{◌≡◌, ℕ, Bool, refl, subst, sym}
use Rattle.socket_source.specs.Steps.{Standing, Becomes, IsLawful}
use Rattle.socket_source.specs.declared.step.ServerStep.TheVariants.{Tick, Failed}
use Rattle.socket_source.specs.declared.step.SourceFault.{SourceFault}

pub Becomes-then_same : (old mid new : Standing) (live : ℕ → Bool) → Becomes old mid live → new ≡ mid → Becomes old new live
Becomes-then_same old mid new live becomes same = subst (λ (s : Standing). Becomes old s live) (sym same) becomes

pub IsLawful-tick : (old new : Standing) → new ≡ old → IsLawful old new 0 Tick
IsLawful-tick old new same =
    subst (λ (s : Standing). IsLawful old s 0 Tick) (sym same) (record {
      within = tt;
      may = refl;
      becomes = record { opened = λ n. refl; limit = refl; listeners = refl; networks = refl };
    })

pub IsLawful-failed : (old new : Standing) (room : ℕ) (fault : SourceFault) → new ≡ old
    → IsLawful old new room (Failed fault)
IsLawful-failed old new room fault same =
    subst (λ (s : Standing). IsLawful old s room (Failed fault)) (sym same) (record {
      within = tt;
      may = refl;
      becomes = record { opened = λ n. refl; limit = refl; listeners = refl; networks = refl };
    })
