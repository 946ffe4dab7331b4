-- What a reader of one part returns, whatever its error is: the number of octets left gives the offset.
use Rattle.std.specs.Prelude.{◌≡◌, ℕ, List, ◌++◌, Result, Ok, Err}
use Rattle.octet_language.specs.Language.{Language, AnyOf, Stops, NoPrefix}

-- b is a text of the language, then the rest
abbrev pub Follows : Language → List ℕ → List ℕ → Type 0
Follows L b rest = (text : List ℕ) × (b ≡ text ++ rest) × L text

-- no prefix of b is a text, and where no text can continue so many octets are left
pub record Fails (L : Language) (b : List ℕ) (remaining : ℕ) : Type 0 where
  pub none : NoPrefix L b
  pub stops : Stops L b remaining

-- b is no text, and where no text can continue so many octets are left
pub record Misses (L : Language) (b : List ℕ) (remaining : ℕ) : Type 0 where
  pub none : ¬ (L b)
  pub stops : Stops L b remaining

-- the octets after the text that comes first; or where every text stops
abbrev pub Passes : {X E : Type 0} → (E → ℕ) → Language → (X → List ℕ) → List ℕ → Result X E → Type 0
Passes remaining L rest b (Ok x) = Follows L b (rest x)
Passes remaining L rest b (Err e) = Fails L b (remaining e)

-- the value of the text that comes first, and the octets after it; or where every text stops
abbrev pub Reads : {V X E : Type 0} → (E → ℕ) → (V → Language) → (X → V × List ℕ) → List ℕ → Result X E → Type 0
Reads remaining A view b (Ok x) = Follows (A (view x).0) b (view x).1
Reads remaining A view b (Err e) = Fails (AnyOf A) b (remaining e)
