-- What is done at the end of frames.
use Rattle.std.specs.Prelude.{◌≡◌, length}
use Rattle.driver.specs.Effects.{Done, then_done}
use Rattle.frame_engine.specs.declared.closing.Mark.{Mark}

-- so much was done
pub record IsMarkOf (done : Done) (mark : Mark) : Type 0 where
  pub output : mark.output ≡ length done.output
  pub diagnostics : mark.diagnostics ≡ length done.diagnostics
  pub refused : mark.refused ≡ done.refused

-- something is done first, and then what is done at the end
abbrev pub Closes : (Done → Type 0) → Done → Done → Type 0
Closes E first d = (last : Done) × E last × (d ≡ then_done first last)
