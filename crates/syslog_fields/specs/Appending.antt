-- What a call appends to a vector of octets.
use Rattle.std.specs.Prelude.{◌≡◌, ℕ, List, ◌++◌, Result, Ok, Err, ⊤}
use Rattle.octet_language.specs.Language.{Language}

-- any octets
abbrev pub Anything : Language
Anything b = ⊤

-- a text of the language follows the old octets
abbrev pub Adds : Language → List ℕ → List ℕ → Type 0
Adds L old new = (text : List ℕ) × L text × (new ≡ old ++ text)

-- a text of the language was appended; where memory was refused, a part of it may have been
abbrev pub Puts : {X E : Type 0} → Language → List ℕ → List ℕ → Result X E → Type 0
Puts L old new (Ok x) = Adds L old new
Puts L old new (Err e) = Adds Anything old new

-- a text of the language was appended; where memory was refused, nothing was
abbrev pub Appends : {X E : Type 0} → Language → List ℕ → List ℕ → Result X E → Type 0
Appends L old new (Ok x) = Adds L old new
Appends L old new (Err e) = new ≡ old
