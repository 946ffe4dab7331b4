-- How many requests were sent to a peer, and what came of them.
use Rattle.std.specs.Prelude.{◌≡◌, ℕ, ◌+◌, ◌-◌, ◌*◌, ◌≤◌, ◌⊎◌, List, [], ◌∷◌, ◌++◌, Some, ⊤}
use Rattle.std.specs.Prelude.{Result, OnOk, Vec, length, map}
use Rattle.std.specs.List.{AllByRecursion, flat_map, sum_by}
use Rattle.std.specs.declared.alloc.Global.{Global}
use Rattle.archive_text.specs.Entries.{Entry, Has}
use Rattle.archive_text.specs.Text.{IsArchive}
use Rattle.archive_text.specs.declared.limits.TheConstants.{ENTRY_MAX}
use Rattle.reconcile.specs.Ranges.{Chain}
use Rattle.reconcile.specs.declared.part.Part.{Part}
use Rattle.reconcile.specs.declared.stopped.Stopped.{Stopped}

-- how many requests were sent, how many records were put, and of how many the peer said that they are kept
pub record Seen : Type 0 where
  pub requests : ℕ
  pub put : ℕ
  pub kept : ℕ

-- at most so many requests were sent; all that was put is kept, if all were answered
pub record Sends {A E : Type 0} (most : ℕ) (old new : Seen) (r : Result A E) : Type 0 where
  pub requests : new.requests ≤ old.requests + most
  pub kept : OnOk r (new.kept + old.put ≡ old.kept + new.put)

-- what was done, whatever the peer is: the own set keeps each entry, and is an archive; each entry more is where this
-- holds; at Ok the peer said of all that was put that it is kept
pub record Did {A : Type 0} (P : Entry → Type 0) (own_old own_new : List Entry) (old new : Seen)
    (r : Result A Stopped) : Type 0 where
  pub archive : IsArchive ENTRY_MAX own_new
  pub keeps : (x : Entry) → Has own_old x → Has own_new x
  pub from : (x : Entry) → Has own_new x → Has own_old x ⊎ P x
  pub kept : OnOk r (new.kept + old.put ≡ old.kept + new.put)

-- how many requests a part may cost, and the parts
abbrev pub allowed : Part → ℕ
allowed p = 3 * (p.sum.records - 1) + 2

abbrev pub allowance : List Part → ℕ
allowance ps = sum_by allowed ps

-- at least two parts, none of them empty, which have so many entries
pub record IsFiner (n : ℕ) (parts : List Part) : Type 0 where
  pub several : 2 ≤ length parts
  pub some : AllByRecursion (λ (p : Part). 1 ≤ p.sum.records) parts
  pub total : sum_by (λ (p : Part). p.sum.records) parts ≡ n

-- finer parts that make up a part
pub record IsCut (p : Part) (parts : List Part) : Type 0 where
  pub chain : Chain (Some p.range.low) p.range.high parts
  pub finer : IsFiner p.sum.records parts

-- finer parts that make up each of some parts
abbrev pub AreCuts : List Part → List (List Part) → Type 0
AreCuts [] [] = ⊤
AreCuts [] (c ∷ cs) = ⊥
AreCuts (p ∷ ps) [] = ⊥
AreCuts (p ∷ ps) (c ∷ cs) = IsCut p c × AreCuts ps cs

-- the lists that vectors hold
abbrev pub lists_of : List (Vec Part Global) → List (List Part)
lists_of vs = map (λ v. v.items) vs

-- one list behind the other
abbrev pub joined : List (List Part) → List Part
joined cs = flat_map (λ c. c) cs

-- finer parts of some parts are pending behind others
pub record Refined (ps old new : List Part) : Type 0 where
  pub cuts : List (List Part)
  pub pending : new ≡ old ++ joined cuts
  pub finer : AreCuts ps cuts
