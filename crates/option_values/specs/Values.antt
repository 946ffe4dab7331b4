-- Values of options that need not be given, flags, and values of which there may be several.
use Rattle.std.specs.Prelude.{Bool, false, List, [], ◌∷◌, Option, Some, None, codes, option_map}
use Rattle.std.specs.Str.{bytes_eq}
use Rattle.clap.specs.Walk.{Row, Text, first_of}

-- the value of an option that may be given: none is refused where it is not
abbrev pub optional : {X : Type 0} → (Text → Option X) → Option Text → Option (Option X)
optional value_of None = Some None
optional value_of (Some text) = option_map (λ x. Some x) (value_of text)

-- the value of a flag says that it was given
abbrev pub says_given : Option Text → Bool
says_given None = false
says_given (Some text) = bytes_eq text (codes "true")

-- the flag with this id was given
abbrev pub is_given_in : Text → List Row → Bool
is_given_in id rows = says_given (first_of id rows)

-- all items, where each is given
abbrev pub all_given : {X : Type 0} → List (Option X) → Option (List X)
all_given [] = Some []
all_given (None ∷ rest) = None
all_given (Some x ∷ rest) = option_map (λ xs. x ∷ xs) (all_given rest)
