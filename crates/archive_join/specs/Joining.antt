-- Archives on their way into one, by what is kept of their entries.
use Rattle.std.specs.Prelude.{◌≡◌, ◌↔◌, ℕ, Bool, true, List, [], map, Option, length, Result, IfErr, OnOk}
use Rattle.std.specs.List.{AllByRecursion}
use Rattle.octet_devices.specs.Device.{InputState}
use Rattle.octet_devices.specs.Held.{Carries, Held, StopsWithin, counted}
use Rattle.archive_text.specs.Entries.{Entry, Has, IsAscending}
use Rattle.archive_streams.specs.Entries.{current}
use Rattle.archive_sets.specs.Selections.{IsSelection}
use Rattle.archive_join.specs.Heads.{IsAt, IsNew, is_next}
use Rattle.archive_join.specs.Holders.{holders, IsHeld, kept_text}
use Rattle.archive_join.specs.Joined.{StopsUpTo}
use Rattle.archive_join.specs.Sides.{AdvanceHalts, Advances, AreIdle, Standing}
use Rattle.archive_join.specs.declared.fault.JoinFault.{JoinFault}
use Rattle.archive_join.specs.declared.fault.JoinFault.TheVariants.{Write}
use Rattle.archive_join.specs.declared.head.Head.{Head}
use Rattle.archive_join.specs.declared.joining.Join.{Join}

-- nothing was read, and each first entry is due
pub record IsFresh (j : Join) : Type 0 where
  pub heads : AllByRecursion IsNew j.heads.items
  pub due : j.holders.items ≡ map (λ (h : Head). true) j.heads.items
  pub none_held : j.held ≡ record { octets = []; sent = 0 }
  pub count : j.count ≡ 0

-- what is held back, and how many are kept, is as it was
pub record KeepsOutput (j k : Join) : Type 0 where
  pub held : k.held ≡ j.held
  pub count : k.count ≡ j.count

-- the archives whose next entries were due have them, or a fault of one of them was met
pub record AdvancesOrHalts {X : Type 0} (r : Result X JoinFault) (j k : Join) (es fs : List InputState) : Type 0 where
  pub on : OnOk r (Advances j.heads.items j.holders.items k.heads.items k.holders.items es fs)
  pub halts : IfErr r (λ fault. AdvanceHalts fault j.heads.items j.holders.items es fs)

-- the ascending list of what some list has
pub record IsUnionOf (xss : List (List Entry)) (ws : List Entry) : Type 0 where
  pub ascending : IsAscending ws
  pub members : (e : Entry) → Has ws e ↔ IsHeld xss e

-- what was joined, and of the text of what is kept of it a part is held back
pub record Collects (keeps : List Bool → Type 0) (text : List Bool → Entry → List ℕ) (tss : List (List Entry))
    (ws : List Entry) (held : Held) (count : ℕ) (start now : Option (List ℕ)) : Type 0 where
  pub ys : List Entry
  pub union : IsUnionOf tss ws
  pub kept : IsSelection (λ (e : Entry). keeps (holders tss e)) ws ys
  pub carries : Carries start now held (kept_text text tss ys)
  pub count_is : count ≡ counted (length ys)

-- the archives are joined up to here; the next entries that these flags say are due
pub record JoiningAs (keeps : List Bool → Type 0) (text : List Bool → Entry → List ℕ) (bs : List Bool) (j : Join)
    (ds es : List InputState) (start now : Option (List ℕ)) : Type 0 where
  pub tss : List (List Entry)
  pub ws : List Entry
  pub standing : Standing j.heads.items bs ds es tss ws
  pub collects : Collects keeps text tss ws j.held j.count start now

abbrev pub Joining : (List Bool → Type 0) → (List Bool → Entry → List ℕ) → Join → List InputState → List InputState
    → Option (List ℕ) → Option (List ℕ) → Type 0
Joining keeps text j ds es start now = JoiningAs keeps text j.holders.items j ds es start now

-- the holders are those whose next entry is that of the head of this number
abbrev pub AreHolders : List Head → List Bool → ℕ → Type 0
AreHolders hs bs least = (h : Head) → IsAt hs least h → bs ≡ map (is_next (current h.entries)) hs

-- of a text the writer took so many octets at its fault; at each other fault the rest is held back
abbrev pub IsUnderWay : JoinFault → Held → Option (List ℕ) → Option (List ℕ) → List ℕ → Type 0
IsUnderWay (Write sent) held start now text = StopsWithin start now text sent
IsUnderWay fault held start now text = Carries start now held text

-- a fault stops it, and what was kept before is written or held back
abbrev pub Halted : (List Bool → Type 0) → (List Bool → Entry → List ℕ) → JoinFault → Held → List InputState
    → List InputState → Option (List ℕ) → Option (List ℕ) → Type 0
Halted keeps text fault held ds es start now = StopsUpTo keeps text fault ds es (IsUnderWay fault held start now)

-- the least next entry is joined, and kept by who has it; or the writer fails
abbrev pub Takes : (List Bool → Type 0) → (List Bool → Entry → List ℕ) → Join → Join → Option (List ℕ) → Option (List ℕ)
    → Type 0
Takes keeps text j k a b =
    (bs : List Bool) (ds es : List InputState) (start : Option (List ℕ)) → AreIdle bs
    → JoiningAs keeps text bs j ds es start a → Joining keeps text k ds es start b

abbrev pub TakeHalts : (List Bool → Type 0) → (List Bool → Entry → List ℕ) → JoinFault → Join → Join → Option (List ℕ)
    → Option (List ℕ) → Type 0
TakeHalts keeps text fault j k a b =
    (bs : List Bool) (ds es : List InputState) (start : Option (List ℕ)) → AreIdle bs
    → JoiningAs keeps text bs j ds es start a → Halted keeps text fault k.held ds es start b

-- one turn
abbrev pub Turns : (List Bool → Type 0) → (List Bool → Entry → List ℕ) → Join → Join → List InputState → List InputState
    → Option (List ℕ) → Option (List ℕ) → Type 0
Turns keeps text j k es fs a b =
    (ds : List InputState) (start : Option (List ℕ)) → Joining keeps text j ds es start a
    → Joining keeps text k ds fs start b

abbrev pub TurnHalts : (List Bool → Type 0) → (List Bool → Entry → List ℕ) → JoinFault → Join → Join → List InputState
    → List InputState → Option (List ℕ) → Option (List ℕ) → Type 0
TurnHalts keeps text fault j k es fs a b =
    (ds : List InputState) (start : Option (List ℕ)) → Joining keeps text j ds es start a
    → Halted keeps text fault k.held ds fs start b
