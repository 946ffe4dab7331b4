-- The next entries of archives that are joined.
use Rattle.std.proofs.Common.{◌≡◌, ◌∙◌, ℕ, ◌+◌, ◌<◌, Bool, true, false, not, ◌&&◌, List, [], ◌∷◌}
use Rattle.std.proofs.Common.{◌++◌, length, get_or, refl, sym, ap, inl, arith}
use Rattle.std.proofs.Common.{true≢false}
use Rattle.std.specs.Prelude.{if◌then◌else◌}
use Rattle.std.proofs.lemmas.Bool.{false≢true}
use Rattle.std.proofs.lemmas.List.{get_or_at, get_or_default}
use Rattle.octet_devices.specs.Device.{InputState}
use Rattle.archive_text.specs.Entries.{Entry, Has, IsBelow}
use Rattle.archive_text.proofs.Ascending.{ascending_across}
use Rattle.archive_text.proofs.Orders.{below_differ}
use Rattle.archive_streams.specs.Entries.{current, Ends, Halts, IsCutShort, ReadsOne, still_to_come}
use Rattle.archive_streams.specs.Joining.{IsWithin}
use Rattle.archive_streams.specs.declared.entries.ArchiveEntries.{ArchiveEntries}
use Rattle.archive_streams.specs.declared.fault.SideFault.{SideFault}
use Rattle.archive_streams.proofs.EntrySteps.{begun}
use Rattle.archive_join.specs.Heads.{Fails, IsAt, Moves, Place, height, is_next}
use Rattle.archive_join.specs.Holders.{is_same}
use Rattle.archive_join.specs.declared.head.Head.{Head}
use Rattle.archive_join.proofs.Holders.{same_decides}
use Rattle.archive_join.proofs.Lists.{parted}
use Rattle.archive_streams.proofs.Joining.{within_below}

-- ---- a head moves

moves_on : (closed after : Bool) (s t : ArchiveEntries) (e f : InputState) → closed ≡ false → after ≡ false
    → ReadsOne s t e f → (d : InputState) (ts ws : List Entry) → Place closed true ws s d e ts
    → Place after false ws t d f ts
moves_on true after s t e f off on one d ts ws p = absurd (true≢false off)
moves_on false true s t e f off on one d ts ws p = absurd (true≢false on)
moves_on false false s t e f off on one d ts ws p =
    let reads = one.reads d ts p.0 in
    let read = begun t d f (ts ++ current t ∷ []) reads in (
      reads,
      λ w h. within_below ts w (current t) (p.1 w h) (λ m has.
          ascending_across ts (current t ∷ []) m (current t) read.archive.ascending has (inl refl)),
    )

-- the next entry is there
pub moved : (h k : Head) (e f : InputState) → h.closed ≡ false → k.closed ≡ false → ReadsOne h.entries k.entries e f
    → Moves h k e f
moved h k e f off on one = moves_on h.closed k.closed h.entries k.entries e f off on one

moves_to_end : (closed after : Bool) (s t : ArchiveEntries) (e f : InputState) → closed ≡ false → after ≡ true
    → Ends s t e f → (d : InputState) (ts ws : List Entry) → Place closed true ws s d e ts
    → Place after false ws t d f ts
moves_to_end true after s t e f off on one d ts ws p = absurd (true≢false off)
moves_to_end false true s t e f off on one d ts ws p = (refl, one.whole d ts p.0)
moves_to_end false false s t e f off on one d ts ws p = absurd (false≢true on)

-- or the end
pub ended : (h k : Head) (e f : InputState) → h.closed ≡ false → k.closed ≡ true → Ends h.entries k.entries e f
    → Moves h k e f
ended h k e f off on one = moves_to_end h.closed k.closed h.entries k.entries e f off on one

fails_at : (fault : SideFault) (closed : Bool) (s t : ArchiveEntries) (e f : InputState) → closed ≡ false
    → Halts fault s t e f → (d : InputState) (ts ws : List Entry) → Place closed true ws s d e ts
    → IsCutShort fault d f ts × ((w : Entry) → Has ws w → IsWithin ts w)
fails_at fault true s t e f off one d ts ws p = absurd (true≢false off)
fails_at fault false s t e f off one d ts ws p = (one.cut_short d ts p.0, p.1)

-- or there is none
pub failed : (fault : SideFault) (h : Head) (t : ArchiveEntries) (e f : InputState) → h.closed ≡ false
    → Halts fault h.entries t e f → Fails fault h e f
failed fault h t e f off one = fails_at fault h.closed h.entries t e f off one

stays_at : (closed : Bool) (s : ArchiveEntries) (e : InputState) → closed ≡ true
    → (d : InputState) (ts ws : List Entry) → Place closed true ws s d e ts → Place closed false ws s d e ts
stays_at true s e off d ts ws p = absurd (true≢false p.0)
stays_at false s e off d ts ws p = absurd (false≢true off)

-- a closed one stays
pub stays : (h : Head) (e : InputState) → h.closed ≡ true → Moves h h e e
stays h e off = stays_at h.closed h.entries e off

-- ---- how far it is to the end

height_at : (closed : Bool) (n : ℕ) → closed ≡ false → (if closed then 0 else n + 1) ≡ n + 1
height_at true n off = absurd (true≢false off)
height_at false n off = refl

height_closed : (closed : Bool) (n : ℕ) → closed ≡ true → (if closed then 0 else n + 1) ≡ 0
height_closed true n on = refl
height_closed false n on = absurd (false≢true on)

pub nearer : (h k : Head) → h.closed ≡ false → k.closed ≡ false → still_to_come k.entries < still_to_come h.entries
    → height k < height h
nearer h k off on less =
    omega (arith, less, height_at h.closed (still_to_come h.entries) off, height_at k.closed (still_to_come k.entries) on)

pub nearer_end : (h k : Head) → h.closed ≡ false → k.closed ≡ true → height k < height h
nearer_end h k off on =
    omega (arith, height_at h.closed (still_to_come h.entries) off, height_closed k.closed (still_to_come k.entries) on)

-- ---- whether an entry is the next one

next_closed_at : (closed same : Bool) → closed ≡ true → false ≡ (not closed && same)
next_closed_at true same on = refl
next_closed_at false same on = absurd (false≢true on)

pub next_closed : (e : Entry) (h : Head) → h.closed ≡ true → false ≡ is_next e h
next_closed e h on = next_closed_at h.closed (is_same (current h.entries) e) on

next_open_at : (closed same answer : Bool) → closed ≡ false → same ≡ answer → answer ≡ (not closed && same)
next_open_at true same answer off is = absurd (true≢false off)
next_open_at false same answer off is = sym is

same_off : (a e : Entry) → ¬ (a ≡ e) → is_same a e ≡ false
same_off a e other = off (is_same a e) (same_decides a e).0
  where
    off : (b : Bool) → (b ≡ true → a ≡ e) → b ≡ false
    off true h = absurd (other (h refl))
    off false h = refl

pub next_equal : (e a : Entry) (h : Head) → h.closed ≡ false → a ≡ current h.entries → a ≡ e → true ≡ is_next e h
next_equal e a h off is same =
    next_open_at h.closed (is_same (current h.entries) e) true off ((same_decides (current h.entries) e).1 (sym is ∙ same))

pub next_less : (e a : Entry) (h : Head) → h.closed ≡ false → a ≡ current h.entries → IsBelow a e → false ≡ is_next e h
next_less e a h off is below =
    next_open_at h.closed (is_same (current h.entries) e) false off
    (same_off (current h.entries) e (λ same. below_differ a e below (is ∙ same)))

pub next_greater : (e a : Entry) (h : Head) → h.closed ≡ false → a ≡ current h.entries → IsBelow e a → false ≡ is_next e h
next_greater e a h off is below =
    next_open_at h.closed (is_same (current h.entries) e) false off
    (same_off (current h.entries) e (λ same. below_differ e a below (sym (is ∙ same))))

-- ---- the least

-- one head has a number
pub one_at : (hs : List Head) (at : ℕ) (h k : Head) → at < length hs → IsAt hs at h → IsAt hs at k → h ≡ k
one_at hs at h k within is also = is ∙ get_or_default hs at h k within ∙ sym also

-- a head with a number
pub at_number : (hs : List Head) (at : ℕ) → at < length hs → (h : Head) × IsAt hs at h
at_number hs at within =
    let p = parted hs at within in
    (p.here, sym (ap (λ (l : List Head). get_or l at p.here) p.parts ∙ get_or_at p.front p.here p.back p.here at p.size))

-- ---- what a call of an archive's reader answers

read_at : (closed some : Bool) (s t : ArchiveEntries) (e f : InputState) → closed ≡ false
    → (some ≡ true → ReadsOne s t e f) → (some ≡ false → Ends s t e f) → (d : InputState) (ts ws : List Entry)
    → Place closed true ws s d e ts → Place (not some) false ws t d f ts
read_at closed true s t e f off one end d ts ws p = moves_on closed false s t e f off refl (one refl) d ts ws p
read_at closed false s t e f off one end d ts ws p = moves_to_end closed true s t e f off refl (end refl) d ts ws p

pub read_or_end : (h : Head) (some : Bool) (t : ArchiveEntries) (e f : InputState) → h.closed ≡ false
    → (some ≡ true → ReadsOne h.entries t e f) → (some ≡ false → Ends h.entries t e f) → (d : InputState)
    (ts ws : List Entry) → Place h.closed true ws h.entries d e ts → Place (not some) false ws t d f ts
read_or_end h some t e f off one end d ts ws p = read_at h.closed some h.entries t e f off one end d ts ws p
