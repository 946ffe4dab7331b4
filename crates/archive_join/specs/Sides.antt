-- Archives on their way into one, by what was read of each.
use Rattle.std.specs.Prelude.{◌≡◌, ℕ, ◌+◌, ◌<◌, ◌≤◌, drop, Bool, true, false, List, [], ◌∷◌, ◌++◌, map, length, slice_index_or}
use Rattle.std.specs.List.{AllByRecursion}
use Rattle.octet_devices.specs.Device.{InputState}
use Rattle.archive_text.specs.Entries.{Entry, Has, IsBelow}
use Rattle.archive_streams.specs.Joining.{IsWithin}
use Rattle.archive_join.specs.Heads.{IsAt, Place, total}
use Rattle.archive_join.specs.Holders.{IsHeld}
use Rattle.archive_join.specs.Inputs.{AreGiven, MayBeFronts}
use Rattle.archive_join.specs.Joined.{IsCauseIn, IsFirstFault}
use Rattle.archive_join.specs.declared.fault.JoinFault.{JoinFault}
use Rattle.archive_join.specs.declared.head.Head.{Head}

-- an archive: its head, whether its next entry is due, where its reader stood and stands, and what was joined of it
pub record Side : Type 0 where
  pub head : Head
  pub due : Bool
  pub before : InputState
  pub now : InputState
  pub joined : List Entry

abbrev pub IsPlaced : List Entry → Side → Type 0
IsPlaced ws s = Place s.head.closed s.due ws s.head.entries s.before s.now s.joined

-- the archives with these heads and flags: of each what was joined, into `ws` in all
pub record Standing (hs : List Head) (bs : List Bool) (ds es : List InputState) (tss : List (List Entry))
    (ws : List Entry) : Type 0 where
  pub sides : List Side
  pub heads : hs ≡ map (λ (s : Side). s.head) sides
  pub due : bs ≡ map (λ (s : Side). s.due) sides
  pub befores : ds ≡ map (λ (s : Side). s.before) sides
  pub nows : es ≡ map (λ (s : Side). s.now) sides
  pub joined : tss ≡ map (λ (s : Side). s.joined) sides
  pub placed : AllByRecursion (IsPlaced ws) sides

-- a front goes on behind what was joined of it, above all that was joined
abbrev pub GoesBeyond : List Entry → List Entry → List Entry → Type 0
GoesBeyond ws ts fs =
    (later : List Entry) × (fs ≡ ts ++ later) × ((e w : Entry) → Has later e → Has ws w → IsBelow w e)

abbrev pub GoBeyond : List Entry → List (List Entry) → List (List Entry) → Type 0
GoBeyond ws [] [] = Unit {0}
GoBeyond ws (ts ∷ tss) (fs ∷ fss) = GoesBeyond ws ts fs × GoBeyond ws tss fss
GoBeyond ws [] (fs ∷ fss) = ⊥
GoBeyond ws (ts ∷ tss) [] = ⊥

-- what was given, behind which each front goes on, whatever follows
pub record AreFurther (ds es : List InputState) (tss : List (List Entry)) (ws : List Entry) : Type 0 where
  pub given : List (List ℕ)
  pub read : AreGiven ds es given
  pub beyond : (fss : List (List Entry)) → MayBeFronts es given fss → GoBeyond ws tss fss

-- a fault of an input, of whose front all is joined, and above whose greatest nothing is
pub record Halting (fault : JoinFault) (ds es : List InputState) (tss : List (List Entry)) (ws : List Entry) : Type 0 where
  pub further : AreFurther ds es tss ws
  pub bound : List Entry
  pub cause : IsCauseIn fault ds es bound
  pub first : IsFirstFault fault ws further.given
  pub bound_held : (e : Entry) → Has bound e → IsHeld tss e
  pub all_within : (w : Entry) → Has ws w → IsWithin bound w

-- next entries that were due are read
abbrev pub Advances : List Head → List Bool → List Head → List Bool → List InputState → List InputState → Type 0
Advances hs bs ks cs es fs =
    (ds : List InputState) (tss : List (List Entry)) (ws : List Entry)
    → Standing hs bs ds es tss ws → Standing ks cs ds fs tss ws

-- or an input has no next one
abbrev pub AdvanceHalts : JoinFault → List Head → List Bool → List InputState → List InputState → Type 0
AdvanceHalts fault hs bs es fs =
    (ds : List InputState) (tss : List (List Entry)) (ws : List Entry)
    → Standing hs bs ds es tss ws → Halting fault ds fs tss ws

-- the archives come nearer to their ends, where a next entry was due
pub record Nears (hs : List Head) (bs : List Bool) (ks : List Head) : Type 0 where
  pub no_farther : total ks ≤ total hs
  pub nearer : (at : ℕ) (h : Head) → at < length hs → IsAt hs at h → h.closed ≡ false → slice_index_or bs at false ≡ true
      → total ks < total hs

-- the same of one archive
pub record NearsAt (hs : List Head) (bs : List Bool) (ks : List Head) (at : ℕ) : Type 0 where
  pub no_farther : total ks ≤ total hs
  pub nearer : (h : Head) → IsAt hs at h → h.closed ≡ false → slice_index_or bs at false ≡ true → total ks < total hs
  pub others : drop (at + 1) ks ≡ drop (at + 1) hs

-- no next entry is due
abbrev pub AreIdle : List Bool → Type 0
AreIdle bs = AllByRecursion (λ (b : Bool). b ≡ false) bs
