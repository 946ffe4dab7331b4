-- A file: what a read shows, and what a crash may leave of it.
use Rattle.std.specs.Prelude.{◌≡◌, ◌≢◌, ℕ, ◌+◌, ◌<◌, ◌≤◌, min, max, List, [], ◌∷◌, ◌++◌, length, slice_index, slice_set}
use Rattle.std.specs.Prelude.{take}

-- its octets as a read shows them; how many of the first are on the disk; the greatest length that it had since the
-- last
-- sync; and the places where an octet was written over since
pub record File : Type 0 where
  pub shown : List ℕ
  pub synced : ℕ
  pub longest : ℕ
  pub rewritten : List ℕ

-- i is none of the places
abbrev pub IsNoneOf : List ℕ → ℕ → Type 0
IsNoneOf [] i = Unit {0}
IsNoneOf (place ∷ places) i = (i ≢ place) × IsNoneOf places i

-- A crash leaves any length between, the octets that are on the disk, and any others. What is shown is always one of the
-- things that it may leave.
pub record MayBecome (file : File) (octets : List ℕ) : Type 0 where
  pub no_shorter : min file.synced (length file.shown) ≤ length octets
  pub no_longer : length octets ≤ max file.longest (length file.shown)
  pub kept : (i : ℕ) → i < file.synced → IsNoneOf file.rewritten i → slice_index octets i ≡ slice_index file.shown i

-- a file of these octets, all on the disk
abbrev pub settled : List ℕ → File
settled octets = record { shown = octets; synced = length octets; longest = length octets; rewritten = [] }

-- octets were written at the end, and a read shows n of them
abbrev pub appended_in_part : ℕ → List ℕ → File → File
appended_in_part n octets file =
    record file { shown = file.shown ++ take n octets; longest = max file.longest (length file.shown + length octets) }

abbrev pub appended : List ℕ → File → File
appended octets file =
    record file { shown = file.shown ++ octets; longest = max file.longest (length file.shown + length octets) }

-- an octet was written over, if it is there
abbrev pub overwritten : ℕ → ℕ → File → File
overwritten at octet file = record file { shown = slice_set file.shown at octet; rewritten = at ∷ file.rewritten }

-- cut to a length, if it is longer
abbrev pub cut_to : ℕ → File → File
cut_to len file = record file { shown = take len file.shown; synced = min file.synced len }
