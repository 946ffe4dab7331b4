-- What is read of octets that may be the front of a message alone. Each value has one text.
use Rattle.std.specs.Prelude.{◌≡◌, ℕ, ◌<◌, ◌≤◌, List, ◌++◌, length, Result, Ok, Err}
use Rattle.site_messages.specs.declared.gap.Gap.{Gap}
use Rattle.site_messages.specs.declared.gap.Gap.TheVariants.{More, Bad}

-- the octets are the text of a value, and then these; however they go on, they begin with the text of no other
pub record IsWhole {V : Type 0} (In : V → Type 0) (text : V → List ℕ) (b : List ℕ) (v : V) (rest : List ℕ)
    : Type 0 where
  pub valid : In v
  pub parts : b ≡ text v ++ rest
  pub only : (w : V) (more end : List ℕ) → In w → b ++ more ≡ text w ++ end → w ≡ v

-- however the octets go on: to begin with the text of a value they lack at least so many, or never do
abbrev pub IsGap : {V : Type 0} → (V → Type 0) → (V → List ℕ) → List ℕ → Gap → Type 0
IsGap {V} In text b (More n) =
    (0 < n) × ((w : V) (more end : List ℕ) → In w → b ++ more ≡ text w ++ end → n ≤ length more)
IsGap {V} In text b Bad = (w : V) (more end : List ℕ) → In w → ¬ (b ++ more ≡ text w ++ end)

-- the value whose text the octets begin with, and what follows it; or what is lacking
abbrev pub Reads : {V X : Type 0} → (V → Type 0) → (V → List ℕ) → (X → V) → (X → List ℕ) → List ℕ
    → Result X Gap → Type 0
Reads In text view rest b (Ok x) = IsWhole In text b (view x) (rest x)
Reads In text view rest b (Err gap) = IsGap In text b gap
