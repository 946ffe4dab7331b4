-- A line that was told to a list of octets.
use Rattle.std.proofs.Common.{◌≡◌, ◌⊎◌, ℕ, List, [], ◌++◌, Option, None, Some, inl, inr, ap, ◌∙◌, arith}
use Rattle.std.specs.Prelude.{codes}
use Rattle.std.specs.Io.KnownBytes.{Appends}
use Rattle.octet_devices.specs.Device.{OutputState}
use Rattle.driver.specs.Devices.{Reports}
use Rattle.driver.specs.declared.status.TheConstants.{NO_MEMORY, REFUSED}

appends_first : (old new : Option (List ℕ)) (line : List ℕ) → old ≡ Some [] → Appends old new line → new ≡ Some line
appends_first None new line is appends = absurd (cc is)
appends_first (Some xs) None line is appends = absurd appends
appends_first (Some xs) (Some ys) line is appends =
    let none : xs ≡ [] = cc is in
    ap (λ (l : List ℕ). Some l) (appends ∙ ap (λ (l : List ℕ). l ++ line) none)

pub told_line : (line : List ℕ) (old new : OutputState) (status : ℕ) → old.taken ≡ Some [] → status ≡ REFUSED
    → Reports line REFUSED old new status ⊎ Reports (codes "want of memory\n") NO_MEMORY old new status
    → new.taken ≡ Some line
told_line line old new status none refused (inl (inl (is, wrote))) =
    appends_first old.taken new.taken line none wrote.octets
told_line line old new status none refused (inl (inr (is, failed))) = absurd (omega (arith, is, refused))
told_line line old new status none refused (inr (inl (is, wrote))) = absurd (omega (arith, is, refused))
told_line line old new status none refused (inr (inr (is, failed))) = absurd (omega (arith, is, refused))
