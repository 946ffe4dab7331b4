-- The state of a disk: a folder of names, and what a crash may leave of it.
use Rattle.std.specs.Prelude.{◌≡◌, ◌⊎◌, ℕ, Bool, false, IsTrue, IsSomeAnd, List, [], ◌∷◌, ◌++◌, Option, Some, None}
use Rattle.disk.specs.Files.{File, MayBecome}

-- A name: the file that is under it now; what was under it since the last sync of the folder; and whether its file was
-- given
-- another name since.
pub record Entry : Type 0 where
  pub now : Option File
  pub past : List (Option File)
  pub moved : Bool

-- the entry of each name, and whether a sync has failed
pub record State : Type 0 where
  pub entries : List ℕ → Entry
  pub lost : Bool

-- the octets under each name, where there is a file
abbrev pub Files : Type 0
Files = List ℕ → Option (List ℕ)

-- what a crash may leave of one file, or of none
abbrev pub MayBe : Option File → Option (List ℕ) → Type 0
MayBe None octets = octets ≡ None
MayBe (Some file) octets = IsSomeAnd octets (MayBecome file)

abbrev pub AnyMayBe : List (Option File) → Option (List ℕ) → Type 0
AnyMayBe [] octets = ⊥
AnyMayBe (file ∷ files) octets = MayBe file octets ⊎ AnyMayBe files octets

-- What a crash may leave under one name: what is there, or was there since the folder was synced. Under a name whose
-- file was
-- given another name it may leave anything, since the file may have changed by then.
abbrev pub NameMayLeave : Entry → Option (List ℕ) → Type 0
NameMayLeave entry octets = MayBe entry.now octets ⊎ (AnyMayBe entry.past octets ⊎ IsTrue entry.moved)

-- what a crash may leave: each name on its own
abbrev pub MayLeave : State → Files → Type 0
MayLeave state files = (name : List ℕ) → NameMayLeave (state.entries name) (files name)

-- what is now under the name is kept as its past, and nothing is there
abbrev pub retired : Entry → Entry
retired entry = record entry { now = None; past = entry.past ++ entry.now ∷ [] }

-- the folder was synced
abbrev pub kept : Entry → Entry
kept entry = record entry { past = []; moved = false }
