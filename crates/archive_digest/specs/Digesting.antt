-- A digest under way.
use Rattle.std.specs.Prelude.{◌≡◌, ℕ, ◌^◌, ◌<◌, List, [], ◌∷◌, ◌++◌, Option, length}
use Rattle.octet_devices.specs.Device.{InputState}
use Rattle.octet_devices.specs.Held.{Carries, Held, StopsWithin}
use Rattle.archive_text.specs.Entries.{Entry, Has, IsBelow}
use Rattle.archive_streams.specs.Entries.{current, IsOpen, IsWhole, Reads}
use Rattle.archive_sets.specs.Selected.{IsReadAt}
use Rattle.archive_sets.specs.declared.fault.SelectFault.{SelectFault}
use Rattle.archive_sets.specs.declared.fault.SelectFault.TheVariants.{Write, Memory}
use Rattle.archive_digest.specs.DigestedWith.{DigestedWith, IsToBeWritten, StoppedWith}
use Rattle.archive_digest.specs.Digests.{Part, IsDivided, before_last, lines_with}
use Rattle.archive_digest.specs.Sums.{IsTallyOf}
use Rattle.archive_digest.specs.declared.digesting.Digesting.{Digesting}
use Rattle.archive_digest.specs.declared.roots.Roots.{Roots}
use Rattle.archive_text.specs.declared.period.Period.{Period}

-- nothing was read, counted or held back
pub record IsFresh (roots : Roots) (s : Digesting) : Type 0 where
  pub unclosed : IsOpen s.entries
  pub none_read : (d : InputState) → Reads s.entries d d []
  pub none_held : s.held ≡ record { octets = []; sent = 0 }
  pub none_counted : IsTallyOf roots s.tally [] []

-- only the reading went on
pub record KeepsOutput (s t : Digesting) : Type 0 where
  pub held : t.held ≡ s.held
  pub name : t.name ≡ s.name
  pub tally : t.tally ≡ s.tally

-- the parts of entries are earlier ones and, behind them, the latest of this name, which has the greatest entry
pub record EndsIn (period : Period) (name : List ℕ) (xs : List Entry) (earlier : List Part)
    (latest : List Entry) : Type 0 where
  pub divided : IsDivided period xs (earlier ++ record { name = name; entries = latest } ∷ [])
  pub last : Entry
  pub among : Has latest last
  pub greatest : (e : Entry) → Has xs e → ¬ (IsBelow last e)

-- or there are no entries yet
abbrev pub IsSoFar : Period → List ℕ → List Entry → List Part → List Entry → Type 0
IsSoFar period name xs earlier [] = (xs ≡ []) × (earlier ≡ [])
IsSoFar period name xs earlier (e ∷ es) = EndsIn period name xs earlier (e ∷ es)

-- of these entries all are counted, and the lines of the earlier parts were put
pub record UnderWay (roots : Roots) (period : Period) (s : Digesting) (xs : List Entry) (start now : Option (List ℕ))
    : Type 0 where
  pub earlier : List Part
  pub latest : List Entry
  pub so_far : IsSoFar period s.name xs earlier latest
  pub tally : IsTallyOf roots s.tally xs latest
  pub carries : Carries start now s.held (lines_with roots earlier)

-- the entries that were read are those that were counted
pub record Running (roots : Roots) (period : Period) (s : Digesting) (d e : InputState) (start now : Option (List ℕ))
    : Type 0 where
  pub xs : List Entry
  pub reads : Reads s.entries d e xs
  pub under_way : UnderWay roots period s xs start now

-- one entry more was read
pub record Looking (roots : Roots) (period : Period) (s : Digesting) (d e : InputState) (start now : Option (List ℕ))
    : Type 0 where
  pub xs : List Entry
  pub reads : Reads s.entries d e (xs ++ current s.entries ∷ [])
  pub under_way : UnderWay roots period s xs start now

-- the archive was read to its end
pub record ReadWhole (roots : Roots) (period : Period) (s : Digesting) (d e : InputState) (start now : Option (List ℕ))
    : Type 0 where
  pub xs : List Entry
  pub whole : IsWhole d e xs
  pub under_way : UnderWay roots period s xs start now

-- of what was to be written the writer took so many octets at its fault; at each other fault the rest of the lines is
-- held back
abbrev pub IsLeftAt : Roots → SelectFault → Held → InputState → InputState → List Entry → List Part → Option (List ℕ)
    → Option (List ℕ) → Type 0
IsLeftAt roots (Write sent) held d e xs parts start now =
    (text : List ℕ) × IsToBeWritten roots d e xs parts text × (length text < 2 ^ 64) × StopsWithin start now text sent
IsLeftAt roots Memory held d e xs parts start now = ⊥
IsLeftAt roots fault held d e xs parts start now = Carries start now held (lines_with roots (before_last parts))

-- a fault halts it behind these entries
pub record Halted (roots : Roots) (period : Period) (fault : SelectFault) (held : Held) (d e : InputState)
    (start now : Option (List ℕ)) : Type 0 where
  pub xs : List Entry
  pub parts : List Part
  pub read : IsReadAt fault d e xs
  pub divided : IsDivided period xs parts
  pub short : length (lines_with roots (before_last parts)) < 2 ^ 64
  pub left : IsLeftAt roots fault held d e xs parts start now

-- ---- the steps

-- the entry that was read last is counted
abbrev pub Counts : Period → Digesting → Digesting → Option (List ℕ) → Option (List ℕ) → Type 0
Counts period s t a b =
    (roots : Roots) (d e : InputState) (start : Option (List ℕ)) → Looking roots period s d e start a
    → Running roots period t d e start b

-- or the writer fails
abbrev pub CountFails : Period → SelectFault → Digesting → Digesting → Option (List ℕ) → Option (List ℕ) → Type 0
CountFails period fault s t a b =
    (roots : Roots) (d e : InputState) (start : Option (List ℕ)) → Looking roots period s d e start a
    → Halted roots period fault t.held d e start b

-- the digest of a whole archive is written
abbrev pub Finishes : Digesting → Option (List ℕ) → Option (List ℕ) → ℕ → Type 0
Finishes s a b n =
    (roots : Roots) (period : Period) (d e : InputState) (start : Option (List ℕ))
    → ReadWhole roots period s d e start a
    → DigestedWith roots period d e start b n

-- or the writer fails
abbrev pub FinishFails : SelectFault → Digesting → Option (List ℕ) → Option (List ℕ) → Type 0
FinishFails fault s a b =
    (roots : Roots) (period : Period) (d e : InputState) (start : Option (List ℕ))
    → ReadWhole roots period s d e start a
    → StoppedWith roots period fault d e start b
