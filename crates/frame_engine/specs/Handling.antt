-- What comes of frames that are handled in order.
use Rattle.std.specs.Prelude.{◌≡◌, ℕ, ◌+◌, List, [], ◌∷◌}
use Rattle.driver.specs.Effects.{Done, nothing, then_done}

-- what is done with a frame, by its number and its octets
abbrev pub Handling : Type 1
Handling = ℕ → List ℕ → Done → Type 0

-- what is done with frames, the first of them with this number
abbrev pub HandledFrom : Handling → ℕ → List (List ℕ) → Done → Type 0
HandledFrom D n [] d = d ≡ nothing
HandledFrom D n (f ∷ fs) d = (a : Done) × (b : Done) × D n f a × HandledFrom D (n + 1) fs b × (d ≡ then_done a b)

-- what is done at the end of these frames
abbrev pub AtEnd : Type 1
AtEnd = List (List ℕ) → Done → Type 0

-- nothing is done there
abbrev pub nothing_at_end : AtEnd
nothing_at_end frames d = d ≡ nothing

-- nothing is put out there
abbrev pub PutsNothingOut : AtEnd → Type 0
PutsNothingOut E = (frames : List (List ℕ)) (d : Done) → E frames d → d.output ≡ []

-- the same frame always has the same output
abbrev pub HasOneOutputEach : Handling → Type 0
HasOneOutputEach D = (n : ℕ) (f : List ℕ) (a b : Done) → D n f a → D n f b → a.output ≡ b.output
