-- What becomes of two sets that are joined.
use Rattle.std.specs.Prelude.{◌↔◌, ◌⊎◌, List, Result, Ok, Err}
use Rattle.archive_text.specs.Entries.{Entry, Has}
use Rattle.archive_text.specs.Sets.{IsUnionOfEntries}
use Rattle.archive_text.specs.Text.{IsArchive}
use Rattle.archive_text.specs.declared.limits.TheConstants.{ENTRY_MAX}

-- one set is the union of two
pub record IsJoined (xs ys zs : List Entry) : Type 0 where
  pub archive : IsArchive ENTRY_MAX zs
  pub members : IsUnionOfEntries xs ys zs

-- one set has the entries of the first, and more of the second alone
pub record IsPartly (xs ys zs : List Entry) : Type 0 where
  pub archive : IsArchive ENTRY_MAX zs
  pub keeps : (x : Entry) → Has xs x → Has zs x
  pub from : (x : Entry) → Has zs x → Has xs x ⊎ Has ys x

-- the entries were taken; where a call failed, some of them may have been
abbrev pub Joins : {A E : Type 0} → List Entry → List Entry → List Entry → Result A E → Type 0
Joins xs ys zs (Ok a) = IsJoined xs ys zs
Joins xs ys zs (Err e) = IsPartly xs ys zs

-- both sets are between what they were and their union
pub record Between (a b a_now b_now : List Entry) : Type 0 where
  pub own_keeps : (x : Entry) → Has a x → Has a_now x
  pub own_from : (x : Entry) → Has a_now x → Has a x ⊎ Has b x
  pub other_keeps : (x : Entry) → Has b x → Has b_now x
  pub other_from : (x : Entry) → Has b_now x → Has a x ⊎ Has b x

-- where something holds, each set has what either had there; elsewhere it is as it was
pub record Settled (P : Entry → Type 0) (a b a_now b_now : List Entry) : Type 0 where
  pub own : (x : Entry) → Has a_now x ↔ (Has a x ⊎ (P x × Has b x))
  pub other : (x : Entry) → Has b_now x ↔ (Has b x ⊎ (P x × Has a x))

-- two sets have the same entries where something holds
abbrev pub AgreeOn : (Entry → Type 0) → List Entry → List Entry → Type 0
AgreeOn P a b = (x : Entry) → P x → Has a x ↔ Has b x
