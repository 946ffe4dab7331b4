-- Files whose archives are joined.
use Rattle.std.specs.Prelude.{◌≡◌, ◌⊎◌, ℕ, List, [], ◌∷◌, ◌++◌, length, None, IfSome, IsSome, codes}
use Rattle.std.specs.List.{AllByRecursion}
use Rattle.octet_devices.specs.Device.{InputState, OutputState}
use Rattle.driver.specs.Devices.{Reports}
use Rattle.driver.specs.declared.status.TheConstants.{FAULT, NO_MEMORY}
use Rattle.set_engine.specs.Combining.{RanJoin, input_words}
use Rattle.driver.specs.Ended.{TellsLine}
use Rattle.set_engine.specs.declared.combination.Combination.{Combination}
use Rattle.commands.specs.Stored.{Opens, RanOut, Stored}

-- the readers of these names, none of which was called
abbrev pub AreOpened : Stored → List (List ℕ) → List InputState → Type 0
AreOpened stored [] [] = Unit {0}
AreOpened stored (name ∷ names) (d ∷ ds) = Opens stored name d × AreOpened stored names ds
AreOpened stored names ds = ⊥

-- each of these names has a file
abbrev pub HaveFiles : Stored → List (List ℕ) → Type 0
HaveFiles stored names = IfSome stored (λ octets. AllByRecursion (λ (name : List ℕ). IsSome (octets name)) names)

-- the first name without a file is told by a line, and nothing is written
pub record LacksOne (how : Combination) (stored : Stored) (names : List (List ℕ)) (n n_new : OutputState) (status : ℕ)
    : Type 0
  where
    pub before : List (List ℕ)
    pub name : List ℕ
    pub later : List (List ℕ)
    pub names_are : names ≡ before ++ name ∷ later
    pub have : HaveFiles stored before
    pub lacks : IfSome stored (λ octets. octets name ≡ None)
    pub told : TellsLine (input_words how (length before) ++ codes "no file\n") FAULT n n_new status

-- not all files are opened: memory runs out, or one is none
abbrev pub FailsToOpen : Combination → Stored → List (List ℕ) → OutputState → OutputState → ℕ → Type 0
FailsToOpen how stored names n n_new status =
    Reports (codes "want of memory\n") NO_MEMORY n n_new status ⊎ LacksOne how stored names n n_new status

-- files are joined; the first name without a file is told before one is read
abbrev pub RanJoinFiles : Combination → Stored → List (List ℕ) → OutputState → OutputState → OutputState → OutputState → ℕ
    → Type 0
RanJoinFiles how stored names w w_new n n_new status =
    RanOut w w_new n n_new status
    ⊎ (((w_new ≡ w) × LacksOne how stored names n n_new status)
    ⊎ ((ds : List InputState) × (es : List InputState) × AreOpened stored names ds
    × RanJoin how ds es w w_new n n_new status))
