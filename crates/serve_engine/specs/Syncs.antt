-- How many syncs a server makes at most.
use Rattle.std.specs.Prelude.{ℕ, ◌+◌, ◌*◌, ◌≤◌}

-- no more than n syncs were made since
abbrev pub MakesAtMost : ℕ → ℕ → ℕ → Type 0
MakesAtMost n before now = now ≤ before + n

-- a set is taken: where each other call makes at most so many syncs, this one does so once for each record, and twice more
abbrev pub take_syncs : ℕ → ℕ → ℕ
take_syncs most records = most * (records + 2)

-- what came is committed: the set is taken, and one call commits what it had
abbrev pub commit_syncs : ℕ → ℕ → ℕ
commit_syncs most records = take_syncs most records + most

-- a turn: what came is committed, and one call opens the store again before that, or makes a checkpoint behind it
abbrev pub turn_syncs : ℕ → ℕ → ℕ
turn_syncs most records = commit_syncs most records + most
