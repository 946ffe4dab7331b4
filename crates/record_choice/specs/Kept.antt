-- The frames that are kept.
use Rattle.std.specs.Prelude.{ℕ, List, [], Option, Some, None, map}
use Rattle.record_choice.specs.declared.last_frames.LastFrames.{LastFrames}

abbrev pub frames_in : LastFrames → List (List ℕ)
frames_in l = map (λ v. v.items) l.frames.items

abbrev pub most_of : LastFrames → ℕ
most_of l = l.most

abbrev pub kept_in : Option LastFrames → List (List ℕ)
kept_in None = []
kept_in (Some l) = frames_in l

abbrev pub limit_of : Option LastFrames → Option ℕ
limit_of None = None
limit_of (Some l) = Some (most_of l)
