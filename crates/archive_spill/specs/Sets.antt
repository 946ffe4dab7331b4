-- What a set in memory and in runs holds.
use Rattle.std.specs.Prelude.{◌≡◌, ◌≤◌, ◌↔◌, ◌⊎◌, ℕ, List, [], map, false, true}
use Rattle.octet_devices.specs.Device.{InputState}
use Rattle.archive_text.specs.Entries.{Entry, Has}
use Rattle.archive_pages.specs.Paged.{entries_in, room_of}
use Rattle.archive_spill.specs.Runs.{AreKeptIn}
use Rattle.archive_spill.specs.declared.spilled.SpilledArchive.{SpilledArchive}

-- its spill reports its octets, and its pages and runs have the members of a list; the states of runs are told by
-- a function
pub record Keeps {P R : Type 0} (tells : P → Type 0) (state : R → InputState) (s : SpilledArchive P R)
    (es : List Entry) : Type 0
  where
    pub told : tells s.spill
    pub kept : AreKeptIn (map state s.runs.items) (entries_in s.pages) es

-- a run was lost
abbrev pub IsLost : {P R : Type 0} → SpilledArchive P R → Type 0
IsLost s = s.lost ≡ true

-- the octets that its pages may take
abbrev pub limit_of : {P R : Type 0} → SpilledArchive P R → ℕ
limit_of s = s.room

-- its pages take no more than their room, or they have no entry
abbrev pub IsInRoom : {P R : Type 0} → SpilledArchive P R → Type 0
IsInRoom s = (room_of s.pages ≤ s.room) ⊎ (entries_in s.pages ≡ [])

-- it holds the set of a list's members, and no run was lost
pub record Holds {P R : Type 0} (tells : P → Type 0) (state : R → InputState) (s : SpilledArchive P R)
    (es : List Entry) : Type 0
  where
    pub keeps : Keeps tells state s es
    pub sound : s.lost ≡ false

-- it holds a list as it holds another with the same members
pub holds_alike : {P R : Type 0} (tells : P → Type 0) (state : R → InputState) (s : SpilledArchive P R)
    (es fs : List Entry) → ((x : Entry) → Has fs x ↔ Has es x) → Holds tells state s es → Holds tells state s fs
holds_alike tells state s es fs same h = record {
  keeps = record {
    told = h.keeps.told;
    kept = record {
      xss = h.keeps.kept.xss;
      runs = h.keeps.kept.runs;
      members = λ x. (
        λ k. (h.keeps.kept.members x).0 ((same x).0 k),
        λ k. (same x).1 ((h.keeps.kept.members x).1 k),
      );
    };
  };
  sound = h.sound;
}
