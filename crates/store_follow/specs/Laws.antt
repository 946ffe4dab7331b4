-- Looks at a journal that grows.
use Rattle.std.specs.Prelude.{◌≡◌, ℕ, List, [], ◌∷◌, ◌++◌, drop, length}
use Rattle.journal.specs.Batches.{HasBatches, IsClosed, batches_text}
use Rattle.store_follow.specs.Batches.{AreBetween, BatchTexts}

-- an offset of a journal's file is behind these of its batches, and these come behind it
pub record IsBehind (file : List ℕ) (at : ℕ) (before behind : List (List ℕ)) : Type 0 where
  pub has : HasBatches file (before ++ behind)
  pub at_is : at ≡ length (batches_text before)

-- a look at the file of a journal: where it began, where it came to, and what it wrote
pub record Look : Type 0 where
  pub file : List ℕ
  pub at : ℕ
  pub end : ℕ
  pub text : List ℕ

-- it wrote the entries of all batches on its way
pub record IsLook (look : Look) : Type 0 where
  pub bodies : List (List ℕ)
  pub between : AreBetween look.file look.at look.end bodies
  pub texts : BatchTexts bodies look.text

-- a later file has the batches of one before, and maybe others behind them
abbrev pub Grows : List ℕ → List ℕ → Type 0
Grows file next =
    (bodies : List (List ℕ)) → HasBatches file bodies → (more : List (List ℕ)) × HasBatches next (bodies ++ more)

-- looks at one journal, each from where the one before came to, while it grows
abbrev pub AreLooks : Look → List Look → Type 0
AreLooks look [] = IsLook look
AreLooks look (next ∷ looks) =
    IsLook look × Grows look.file next.file × (next.at ≡ look.end) × AreLooks next looks

abbrev pub last_of : Look → List Look → Look
last_of look [] = look
last_of look (next ∷ looks) = last_of next looks

-- all that they wrote
abbrev pub texts_of : Look → List Look → List ℕ
texts_of look [] = look.text
texts_of look (next ∷ looks) = look.text ++ texts_of next looks

-- what was written are the entries of the batches that come behind the first ones, each once and in their order; and if
-- the last look left none, those of all batches that the journal has by then
pub record WroteEach (file : List ℕ) (end : ℕ) (before : List (List ℕ)) (text : List ℕ) : Type 0 where
  pub written : List (List ℕ)
  pub left : List (List ℕ)
  pub behind : IsBehind file end (before ++ written) left
  pub texts : BatchTexts written text
  pub all : IsClosed (drop end file) → left ≡ []
