-- Which entries are kept, by who has them, and the lines in which two archives differ.
use Rattle.std.specs.Prelude.{◌≡◌, ℕ, Bool, true, false, List, [], ◌∷◌, ◌++◌}
use Rattle.std.specs.List.{AllByRecursion}
use Rattle.archive_text.specs.Entries.{Entry}
use Rattle.archive_join.specs.Shown.{shown}

-- all have it
abbrev pub DoAllHave : List Bool → Type 0
DoAllHave have = AllByRecursion (λ (b : Bool). b ≡ true) have

-- the first has it, and no other
abbrev pub HasFirstAlone : List Bool → Type 0
HasFirstAlone [] = ⊥
HasFirstAlone (first ∷ others) = (first ≡ true) × AllByRecursion (λ (b : Bool). b ≡ false) others

-- of two exactly one has it
abbrev pub HasOneOfTwo : List Bool → Type 0
HasOneOfTwo (true ∷ false ∷ []) = Unit {0}
HasOneOfTwo (false ∷ true ∷ []) = Unit {0}
HasOneOfTwo have = ⊥

-- `< ` where the first has it, else `> `
abbrev pub side_mark : List Bool → List ℕ
side_mark (true ∷ others) = 60 ∷ 32 ∷ []
side_mark have = 62 ∷ 32 ∷ []

-- the line of an entry that one of two has
abbrev pub diff_line : List Bool → Entry → List ℕ
diff_line have e = side_mark have ++ shown e.octets ++ 10 ∷ []
