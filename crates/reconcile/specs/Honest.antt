-- What an honest peer answers.
use Rattle.std.specs.Prelude.{◌≡◌, ◌≢◌, ◌≤◌, List, [], ◌∷◌, Some, ⊤, Result, Ok, Err, length}
use Rattle.std.specs.List.{AllByRecursion}
use Rattle.archive_text.specs.Entries.{Entry}
use Rattle.reconcile.specs.Ranges.{AreThose, Chain, IsInside, IsTold}
use Rattle.reconcile.specs.Requests.{IsFiner}
use Rattle.reconcile.specs.declared.range.Range.{Range}
use Rattle.reconcile.specs.declared.part.Part.{Part}
use Rattle.reconcile.specs.declared.stopped.Stopped.{Stopped}
use Rattle.reconcile.specs.declared.stopped.Stopped.TheVariants.{Lied}

-- the parts of a range of a set: several where it has several entries, and else one
pub record AreParts (xs : List Entry) (r : Range) (parts : List Part) : Type 0 where
  pub entries : List Entry
  pub those : AreThose (IsInside r) xs entries
  pub chain : Chain (Some r.low) r.high parts
  pub told : AllByRecursion (IsTold xs) parts
  pub several : 2 ≤ length entries → IsFiner (length entries) parts
  pub one : length entries ≤ 1 → length parts ≡ 1

-- the parts of each of some ranges
abbrev pub ArePartsOf : List Entry → List Part → List (List Part) → Type 0
ArePartsOf xs [] [] = ⊤
ArePartsOf xs [] (c ∷ cs) = ⊥
ArePartsOf xs (p ∷ ps) [] = ⊥
ArePartsOf xs (p ∷ ps) (c ∷ cs) = AreParts xs p.range c × ArePartsOf xs ps cs

-- an honest peer's answer is so, and it is never seen to lie
abbrev pub Answers : {A : Type 0} → (A → Type 0) → Result A Stopped → Type 0
Answers P (Ok a) = P a
Answers P (Err e) = e ≢ Lied
