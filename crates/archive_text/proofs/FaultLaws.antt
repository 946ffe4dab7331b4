-- The fault of what is left of a text, at its position in the whole.
use Rattle.std.proofs.Common.{ℕ, ◌+◌, refl, arith, List, [], ◌∷◌, ◌++◌, length, ◌≡◌, ◌≤◌, inl, inr, subst, sym}
use Rattle.archive_text.specs.Entries.{Entry, IsAscending, IsBelow}
use Rattle.archive_text.specs.Faults.{BeginsWithOctets, IsFaultBefore, IsFaultBehind}
use Rattle.archive_text.specs.Text.{BeginsWithEntry, text_of}
use Rattle.archive_text.specs.declared.fault.ArchiveFault.{ArchiveFault}
use Rattle.archive_text.specs.declared.fault.ArchiveFault.TheVariants.{BadFrame, EntryTooLong, BadEntry, NotCanonical}
use Rattle.archive_text.specs.declared.fault.ArchiveFault.TheVariants.{NotAscending}
use Rattle.archive_text.proofs.Ascending.{not_after}
use Rattle.archive_text.specs.Positions.{later, position_of}

-- why the rest begins with no entry is why the text does not go on behind the entries
pub fault_later : (most : ℕ) (es : List Entry) (rest : List ℕ) (fault : ArchiveFault) → IsFaultBefore most rest fault
    → IsFaultBehind most es rest (later (length (text_of es)) fault)
fault_later most es rest (BadFrame at) h = (at, h, refl)
fault_later most es rest (EntryTooLong at) h = (omega (arith, h.0), h.1)
fault_later most es rest (BadEntry at fault) h = (omega (arith, h.0), (refl, h.1))
fault_later most es rest (NotCanonical at) h = (omega (arith, h.0), (refl, h.1))
fault_later most es rest (NotAscending at) h = absurd h

pub fault_behind : (most n : ℕ) (es : List Entry) (rest : List ℕ) (fault : ArchiveFault) → n ≡ length (text_of es)
    → IsFaultBefore most rest fault → IsFaultBehind most es rest (later n fault)
fault_behind most n es rest fault start h =
    subst (λ (k : ℕ). IsFaultBehind most es rest (later k fault)) (sym start) (fault_later most es rest fault h)

-- and lies in the rest
pub position_within : (most : ℕ) (rest : List ℕ) (fault : ArchiveFault) → IsFaultBefore most rest fault
    → position_of fault ≤ length rest
position_within most rest (BadFrame at) (inl (none, offset)) = offset.within
position_within most rest (BadFrame at) (inr (count, behind, follows, low, cut, is)) = omega (arith, is)
position_within most rest (EntryTooLong at) (is, h) = omega (arith, is)
position_within most rest (BadEntry at fault) (is, h) = omega (arith, is)
position_within most rest (NotCanonical at) (is, h) = omega (arith, is)
position_within most rest (NotAscending at) h = absurd h

-- an entry that is read is counted octets
pub begins_with_octets : (most : ℕ) (rest : List ℕ) (e : Entry) (behind : List ℕ) → BeginsWithEntry most rest e behind
    → BeginsWithOctets most rest e.octets
begins_with_octets most rest e behind h = (h.carries, h.fits, (behind, h.parts))

-- an entry that is not above the last
pub not_ascending : (most : ℕ) (es : List Entry) (l e : Entry) (rest behind : List ℕ) → IsAscending (es ++ l ∷ [])
    → BeginsWithEntry most rest e behind → ¬ (IsBelow l e)
    → IsFaultBehind most (es ++ l ∷ []) rest (NotAscending (length (text_of (es ++ l ∷ []))))
not_ascending most es l e rest behind ascending h none =
    (refl, (e, h.entry, begins_with_octets most rest e behind h, not_after es l e ascending none))
