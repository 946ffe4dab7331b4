-- A choice under way.
use Rattle.std.specs.Prelude.{◌≡◌, ℕ, List, [], ◌++◌, Option}
use Rattle.std.specs.List.{AllByRecursion}
use Rattle.syslog_frame.specs.Frames.{CanCarry, Frames}
use Rattle.syslog_frame.specs.declared.framing.Framing.TheVariants.{Counted}
use Rattle.driver.specs.Effects.{Done, then_done, written}
use Rattle.record_choice.specs.Choices.{AreChosen, Choice, FirstChoice, frames_text, kept_late, written_early}
use Rattle.record_choice.specs.Kept.{kept_in, limit_of}
use Rattle.record_choice.specs.declared.last_frames.LastFrames.{LastFrames}

-- of frames those that pass were written or kept
pub record Chooses (P : List ℕ → Type 0) (old new : Option LastFrames) (before after : Done) (frames : List (List ℕ)) :
    Type 0 where
  pub chosen : List (List ℕ)
  pub chosen_are : AreChosen P frames chosen
  pub done : after ≡ then_done before (written (written_early (limit_of old) chosen) [])
  pub limit : limit_of new ≡ limit_of old
  pub kept : (cs : List (List ℕ)) → kept_in old ≡ kept_late (limit_of old) cs
      → kept_in new ≡ kept_late (limit_of old) (cs ++ chosen)

-- the first frames of a text were chosen from, and so it goes on
pub record ChoosesFirst (P : List ℕ → Type 0) (old new : Option LastFrames) (before after : Done) (text behind : List ℕ) :
    Type 0 where
  pub frames : List (List ℕ)
  pub whole : text ≡ frames_text frames ++ behind
  pub each : AllByRecursion (CanCarry Counted) frames
  pub chooses : Chooses P old new before after frames

-- all frames of a text were chosen from, and the rest is kept
pub record ChoosesAll (P : List ℕ → Type 0) (old new : Option LastFrames) (before after : Done) (text rest : List ℕ) :
    Type 0 where
  pub frames : List (List ℕ)
  pub frames_are : Frames Counted text frames rest
  pub chooses : Chooses P old new before after frames

-- a part of them was
pub record ChoosesSome (P : List ℕ → Type 0) (old : Option LastFrames) (before after : Done) (text : List ℕ) : Type 0
  where
    pub choice : FirstChoice P text
    pub done : after ≡ then_done before (written (written_early (limit_of old) choice.chosen) [])

-- a choice that was given these octets: what it keeps is what is to be written at the end, and the rest
pub record StandsAt (P : List ℕ → Type 0) (limit : Option ℕ) (last : Option LastFrames) (part given : List ℕ) : Type 0
  where
    pub choice : Choice P given
    pub limit_is : limit_of last ≡ limit
    pub kept : kept_in last ≡ kept_late limit choice.chosen
    pub part_is : part ≡ choice.rest
