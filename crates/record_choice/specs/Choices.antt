-- What is chosen of frames.
use Rattle.std.specs.Prelude.{◌≡◌, ◌⊎◌, ℕ, ◌-◌, List, [], ◌∷◌, ◌++◌, Bool, true, false, Option, Some, None, drop, length}
use Rattle.std.specs.List.{AllByRecursion, flat_map}
use Rattle.syslog_frame.specs.Frames.{CanCarry, Frames, framed}
use Rattle.syslog_frame.specs.declared.framing.Framing.TheVariants.{Counted}
use Rattle.driver.specs.Effects.{written}
use Rattle.driver.specs.Sessions.{Meaning}

-- those that pass are chosen, in their order
abbrev pub AreChosen : (List ℕ → Type 0) → List (List ℕ) → List (List ℕ) → Type 0
AreChosen P [] cs = cs ≡ []
AreChosen P (f ∷ fs) cs =
    (P f × ((ds : List (List ℕ)) × AreChosen P fs ds × (cs ≡ f ∷ ds))) ⊎ (¬ (P f) × AreChosen P fs cs)

-- the last n of a list, or all where it has fewer
abbrev pub last_of : ℕ → List (List ℕ) → List (List ℕ)
last_of n fs = drop (length fs - n) fs

-- one frame behind the other
abbrev pub frames_text : List (List ℕ) → List ℕ
frames_text fs = flat_map (framed Counted) fs

-- what is written of those that are chosen: all, or the last of them
abbrev pub wanted : Option ℕ → List (List ℕ) → List (List ℕ)
wanted None cs = cs
wanted (Some n) cs = last_of n cs

-- what is written as they come: each, where all are wanted
abbrev pub written_early : Option ℕ → List (List ℕ) → List ℕ
written_early None cs = frames_text cs
written_early (Some n) cs = []

-- what is kept to be written at the end
abbrev pub kept_late : Option ℕ → List (List ℕ) → List (List ℕ)
kept_late None cs = []
kept_late (Some n) cs = last_of n cs

-- the frames of a stream, of which these are chosen
pub record Choice (P : List ℕ → Type 0) (given : List ℕ) : Type 0 where
  pub frames : List (List ℕ)
  pub rest : List ℕ
  pub chosen : List (List ℕ)
  pub frames_are : Frames Counted given frames rest
  pub chosen_are : AreChosen P frames chosen

-- the first frames of a stream, of which these are chosen
pub record FirstChoice (P : List ℕ → Type 0) (given : List ℕ) : Type 0 where
  pub frames : List (List ℕ)
  pub behind : List ℕ
  pub chosen : List (List ℕ)
  pub whole : given ≡ frames_text frames ++ behind
  pub each : AllByRecursion (CanCarry Counted) frames
  pub chosen_are : AreChosen P frames chosen

-- a stream that ends inside a frame is refused
abbrev pub is_cut : List ℕ → Bool
is_cut [] = false
is_cut (x ∷ xs) = true

-- the frames of a stream that pass, all or the last of them, are its output
abbrev pub choice_meaning : (List ℕ → Type 0) → Option ℕ → Meaning
choice_meaning P limit = record {
  so_far = λ given d. (c : Choice P given) × (d ≡ written (written_early limit c.chosen) []);
  part = λ given d. (c : FirstChoice P given) × (d ≡ written (written_early limit c.chosen) []);
  whole = λ input d. (c : Choice P input)
      × (d ≡ record { refused = is_cut c.rest; output = frames_text (wanted limit c.chosen); diagnostics = [] });
}
