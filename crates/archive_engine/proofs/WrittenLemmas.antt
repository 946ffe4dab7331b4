-- What was written of what comes of an input.
use Rattle.std.proofs.Common.{◌≡◌, ℕ, ◌<◌, ◌≤◌, List, [], ◌∷◌, Option, None, Some, IfSome, length, take, refl, sym, ap}
use Rattle.std.proofs.Common.{subst, ◌∙◌, arith}
use Rattle.std.specs.Io.KnownBytes.{Appends}
use Rattle.std.proofs.KnownBytes.{Appends-nil}
use Rattle.std.proofs.lemmas.List.{length-take, take_all}
use Rattle.driver.specs.Effects.{Done}
use Rattle.archive_engine.specs.Answered.{WritesPrefixOf}

pub take_zero : (s : List ℕ) → take 0 s ≡ []
take_zero [] = refl
take_zero (x ∷ s) = refl

-- where nothing was written, that is a prefix
pub nothing_written : (A : List ℕ → Done → Type 0) (left taken : Option (List ℕ)) → WritesPrefixOf A left taken taken
nothing_written A None taken = tt
nothing_written A (Some input) taken = λ d is.
    (0, subst (Appends taken taken) (sym (take_zero d.output)) (Appends-nil taken))

-- what is kept of an input is all of it, where less than the limit is kept
pub kept_whole : (left : Option (List ℕ)) (limit : ℕ) (kept : List ℕ) → IfSome left (λ input. kept ≡ take limit input)
    → length kept < limit → IfSome left (λ input. kept ≡ input)
kept_whole None limit kept is few = tt
kept_whole (Some input) limit kept is few =
    let short : length input ≤ limit = omega (arith, ap length is, length-take limit input) in
    is ∙ take_all limit input short
