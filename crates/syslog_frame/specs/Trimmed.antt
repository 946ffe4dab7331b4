-- A frame without the line end or the NUL that a sender put behind the record.
use Rattle.std.specs.Prelude.{ℕ, ◌-◌, Bool, ◌==◌, ◌||◌, List, [], ◌∷◌, length, take, if◌then◌else◌}
use Rattle.std.specs.List.{ends_with}

-- the octets have these at their end
abbrev pub ends_in : List ℕ → List ℕ → Bool
ends_in f ending = ends_with (λ x y. x == y) f ending

-- how many octets at the end of a frame are dropped: LF, and a CR before it; else CR or NUL; else none
abbrev pub dropped : List ℕ → ℕ
dropped f =
    if ends_in f (10 ∷ []) then (if ends_in f (13 ∷ 10 ∷ []) then 2 else 1)
    else (if ends_in f (13 ∷ []) || ends_in f (0 ∷ []) then 1 else 0)

-- the frame without them
abbrev pub trimmed : List ℕ → List ℕ
trimmed f = take (length f - dropped f) f
