-- The next entries of archives that are joined.
use Rattle.std.specs.Prelude.{◌≡◌, ℕ, ◌+◌, ◌-◌, ◌^◌, ◌<◌, ℤ, pos, negsuc, ◌⊎◌, ◌&&◌, not, Bool, true, false}
use Rattle.std.specs.Prelude.{List, [], ◌∷◌, ◌++◌, length, slice_index_or}
use Rattle.std.specs.Prelude.{if◌then◌else◌, sum_by, map, slice_set, Option, Some, None}
use Rattle.std.specs.List.{AllByRecursion}
use Rattle.octet_devices.specs.Device.{InputState}
use Rattle.archive_text.specs.Entries.{Entry, Has, IsBelow}
use Rattle.archive_streams.specs.Entries.{current, IsCutShort, IsWhole, Reads, still_to_come}
use Rattle.archive_streams.specs.Joining.{IsWithin}
use Rattle.archive_streams.specs.declared.entries.ArchiveEntries.{ArchiveEntries}
use Rattle.archive_streams.specs.declared.fault.SideFault.{SideFault}
use Rattle.archive_streams.specs.declared.fault.SideFault.TheVariants.{Archive as side_Archive, Input}
use Rattle.archive_streams.specs.declared.fault.InputFault.TheVariants.{Device, Endless as input_Endless}
use Rattle.archive_join.specs.Holders.{is_same}
use Rattle.archive_join.specs.declared.fault.JoinFault.{JoinFault}
use Rattle.archive_join.specs.declared.fault.JoinFault.TheVariants.{Archive, Read, Endless}
use Rattle.archive_join.specs.declared.head.Head.{Head}
use Rattle.archive_join.specs.declared.heads.Least.{Least}

-- nothing was read
pub record IsNew (h : Head) : Type 0 where
  pub unclosed : h.closed ≡ false
  pub none_read : (d : InputState) → Reads h.entries d d []

-- of an archive the entries `ts` were joined into `ws`: it is closed, and these are all; or the next one is due, and
-- all that was joined is not above its greatest; or the next one was read, and is above all that was joined
abbrev pub Place : (closed due : Bool) → List Entry → ArchiveEntries → InputState → InputState → List Entry → Type 0
Place true due ws s d e ts = (due ≡ false) × IsWhole d e ts
Place false true ws s d e ts = Reads s d e ts × ((w : Entry) → Has ws w → IsWithin ts w)
Place false false ws s d e ts =
    Reads s d e (ts ++ current s ∷ []) × ((w : Entry) → Has ws w → IsBelow w (current s))

-- the next entry that was due is there, or the end
abbrev pub Moves : Head → Head → InputState → InputState → Type 0
Moves h k e f =
    (d : InputState) (ts ws : List Entry) → Place h.closed true ws h.entries d e ts
    → Place k.closed false ws k.entries d f ts

-- or there is none
abbrev pub Fails : SideFault → Head → InputState → InputState → Type 0
Fails fault h e f =
    (d : InputState) (ts ws : List Entry) → Place h.closed true ws h.entries d e ts
    → IsCutShort fault d f ts × ((w : Entry) → Has ws w → IsWithin ts w)

-- how far an archive may still be read, and all of them
abbrev pub height : Head → ℕ
height h = if h.closed then 0 else still_to_come h.entries + 1

abbrev pub total : List Head → ℕ
total hs = sum_by height hs

-- the fault of the input of this number
abbrev pub fault_of : ℕ → SideFault → JoinFault
fault_of input (side_Archive fault) = Archive input fault
fault_of input (Input Device) = Read input
fault_of input (Input input_Endless) = Endless input

-- ---- the least of the next entries

-- the head of this number
abbrev pub IsAt : List Head → ℕ → Head → Type 0
IsAt hs at h = h ≡ slice_index_or hs at h

-- the next entry of a head, if there is one, is not below an entry
abbrev pub IsNotAbove : Entry → Head → Type 0
IsNotAbove e h = h.closed ≡ false → (e ≡ current h.entries) ⊎ IsBelow e (current h.entries)

-- the head of this number has an entry that is not above any of these
pub record IsLeast (hs some : List Head) (at : ℕ) : Type 0 where
  pub within : at < length hs
  pub unclosed : (h : Head) → IsAt hs at h → h.closed ≡ false
  pub least : (h : Head) → IsAt hs at h → AllByRecursion (IsNotAbove (current h.entries)) some

-- the number by which an instant is compared: the least one for none
abbrev pub key_of_instant : Option ℤ → ℤ
key_of_instant None = negsuc (2 ^ 63 - 1)
key_of_instant (Some i) = i

-- the number by which the next entry of a head is compared: the greatest one, where it is closed
abbrev pub key_of : Head → ℤ
key_of h = if h.closed then pos (2 ^ 63 - 1) else key_of_instant (current h.entries).instant

-- no head has an entry
abbrev pub AreClosed : List Head → Type 0
AreClosed hs = AllByRecursion (λ (h : Head). h.closed ≡ true) hs

-- whether an entry is the next one of a head
abbrev pub is_next : Entry → Head → Bool
is_next e h = not h.closed && is_same (current h.entries) e

-- the flag of one head alone is set
abbrev pub only : ℕ → List Head → List Bool
only at hs = slice_set (map (λ (h : Head). false) hs) at true

-- the least head of these is known; and where it is not said that it is shared, no other has its entry
pub record IsFound (hs some : List Head) (l : Least) : Type 0 where
  pub least : IsLeast hs some l.at
  pub early : l.at < length some
  pub alone : (h : Head) → IsAt hs l.at h → l.shared ≡ false
      → map (is_next (current h.entries)) some ≡ only l.at some

abbrev pub IsFoundIn : List Head → List Head → Option Least → Type 0
IsFoundIn hs some None = AreClosed some
IsFoundIn hs some (Some l) = IsFound hs some l
