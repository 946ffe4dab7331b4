-- A draft is written.
use Rattle.std.specs.Prelude.{◌≡◌, ◌≢◌, ℕ, List, None, Some, false, length}
use Rattle.disk.specs.Files.{settled}
use Rattle.disk.specs.Memory.{shown_now}
use Rattle.disk.specs.States.{Files, State}
use Rattle.hex.specs.Hex.{encode_lower}
use Rattle.sha2.specs.Sha256.{sha256}
use Rattle.store_reading.specs.Damages.{position}
use Rattle.store_backup.specs.Copies.{HasCopies, IsCopy}
use Rattle.store_backup.specs.declared.transfer.Transfer.{Transfer}

-- a read of a draft shows this text, and no sync has failed
pub record IsDrafted (state : State) (draft text : List ℕ) : Type 0 where
  pub shown : shown_now (state.entries draft) ≡ Some text
  pub sound : state.lost ≡ false

-- what a read shows under a name but the draft's, it shows still
abbrev pub ShowsStill : State → State → List ℕ → Type 0
ShowsStill old new draft = (name text : List ℕ) → name ≢ draft → shown_now (old.entries name) ≡ Some text
    → shown_now (new.entries name) ≡ Some text

-- a text was written so
pub record IsTransfer (transfer : Transfer) (text : List ℕ) : Type 0 where
  pub hex : transfer.hex ≡ encode_lower (sha256 text)
  pub octets : transfer.octets ≡ position (length text)

-- all of a draft is on the disk, and no sync has failed
pub record IsSettled (state : State) (draft text : List ℕ) : Type 0 where
  pub now : (state.entries draft).now ≡ Some (settled text)
  pub sound : state.lost ≡ false

-- a text may get a name: it is the copy of the file of that name, and nothing is there
pub record IsFreeFor (files : Files) (state : State) (draft name text : List ℕ) : Type 0 where
  pub copies : HasCopies files state draft
  pub vacant : (state.entries name).now ≡ None
  pub apart : name ≢ draft
  pub copy : IsCopy files name text

-- a draft got a name, or that failed: under each other name all is as it was
pub record Places (files : Files) (old new : State) (draft name : List ℕ) : Type 0 where
  pub copies : HasCopies files new draft
  pub still : ShowsStill old new draft
  pub others : (other : List ℕ) → other ≢ draft → other ≢ name → new.entries other ≡ old.entries other

-- the file of a name was written as a draft
pub record IsWrittenOf (files : Files) (state : State) (draft name : List ℕ) (written : Transfer) : Type 0 where
  pub text : List ℕ
  pub file : files name ≡ Some text
  pub drafted : IsDrafted state draft text
  pub transfer : IsTransfer written text
