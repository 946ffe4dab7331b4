-- Sets of octet texts, and the offset where octets stop being the prefix of one.
use Rattle.std.specs.Prelude.{◌≡◌, ℕ, ◌≤◌, List, [], ◌∷◌, ◌++◌, length, take, ⊤}

-- a set of texts, each a list of octets
abbrev pub Language : Type 1
Language = List ℕ → Type 0

-- the one text
abbrev pub Only : List ℕ → Language
Only text b = b ≡ text

-- a text of the first language, then a text of the second
infixr 20 ◌⋅◌
abbrev pub ◌⋅◌ : Language → Language → Language
(A ⋅ B) b = (x : List ℕ) × (y : List ℕ) × (b ≡ x ++ y) × A x × B y

-- the texts of all values
abbrev pub AnyOf : {V : Type 0} → (V → Language) → Language
AnyOf {V} A b = (v : V) × A v b

-- the texts of the items of a list, one after the other
abbrev pub Each : {V : Type 0} → (V → Language) → List V → Language
Each A [] = Only []
Each A (v ∷ vs) = A v ⋅ Each A vs

-- some text of the language begins with p
abbrev pub Begins : Language → List ℕ → Type 0
Begins L p = (more : List ℕ) × L (p ++ more)

-- n is the length of the longest prefix of b that some text of the language begins with
pub record IsFaultOffset (L : Language) (b : List ℕ) (n : ℕ) : Type 0 where
  pub within : n ≤ length b
  pub begins : Begins L (take n b)
  pub longest : (m : ℕ) → m ≤ length b → Begins L (take m b) → m ≤ n

-- no text continues p with the next octet
abbrev pub Refuses : Language → List ℕ → List ℕ → Type 0
Refuses L p [] = ⊤
Refuses L p (x ∷ rest) = ¬ (Begins L (p ++ x ∷ []))

-- b is read up to where no text continues, and so many octets are left there
pub record Stops (L : Language) (b : List ℕ) (remaining : ℕ) : Type 0 where
  pub read : List ℕ
  pub rest : List ℕ
  pub parts : b ≡ read ++ rest
  pub count : length rest ≡ remaining
  pub begins : Begins L read
  pub refuses : Refuses L read rest

-- no prefix of b is a text of the language
abbrev pub NoPrefix : Language → List ℕ → Type 0
NoPrefix L b = (x : List ℕ) (y : List ℕ) → b ≡ x ++ y → ¬ (L x)

-- where one text comes first, no shorter or longer one does
abbrev pub IsPrefixFree : Language → Type 0
IsPrefixFree L = (p s q t : List ℕ) → L p → L q → p ++ s ≡ q ++ t → p ≡ q

-- what holds of the first octet, if there is one
abbrev pub IfFirst : (ℕ → Type 0) → List ℕ → Type 0
IfFirst P [] = Unit {0}
IfFirst P (x ∷ rest) = P x
