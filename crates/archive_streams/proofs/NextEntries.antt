-- The entry that comes next, or why there is none.
use Rattle.std.proofs.Common.{◌≡◌, ℕ, ◌+◌, ◌*◌, ◌<◌, ◌≤◌, List, [], ◌∷◌, ◌++◌, length, refl, sym, ap, subst, arith, inl}
use Rattle.std.proofs.Common.{inr}
use Rattle.std.specs.Prelude.{◌≢◌, ◌⊎◌}
use Rattle.std.specs.Fmt.{decimal}
use Rattle.std.proofs.lemmas.List.{length-append}
use Rattle.std.proofs.lemmas.Nat.{mul-le}
use Rattle.syslog_frame.specs.Frames.{framed}
use Rattle.syslog_frame.specs.declared.framing.Framing.TheVariants.{Counted}
use Rattle.octet_devices.specs.declared.loops.TheConstants.{READER_CALLS}
use Rattle.archive_text.specs.Entries.{Entry, IsAscending}
use Rattle.archive_text.specs.Faults.{BeginsWithOctets, IsFaultBefore, IsNotAscending}
use Rattle.archive_text.specs.Text.{IsArchive}
use Rattle.archive_text.specs.declared.fault.ArchiveFault.{ArchiveFault}
use Rattle.archive_text.specs.declared.fault.ArchiveFault.TheVariants.{BadFrame, EntryTooLong, BadEntry, NotCanonical}
use Rattle.archive_text.specs.declared.fault.ArchiveFault.TheVariants.{NotAscending}
use Rattle.archive_text.specs.declared.limits.TheConstants.{ENTRY_MAX}
use Rattle.archive_text.proofs.Ascending.{not_after}
use Rattle.archive_streams.specs.EntryTexts.{entry_in, HoldsEntry, IsAbove}
use Rattle.archive_streams.specs.Faults.{IsSideFault}
use Rattle.archive_text.specs.Positions.{later, position_of}
use Rattle.archive_streams.specs.Judging.{IsJudged}
use Rattle.octet_devices.specs.Device.{InputState}
use Rattle.archive_streams.specs.Pieces.{ReadsOn, reach, size_of, unused}
use Rattle.archive_streams.specs.Sides.{EndsWith, IsNextFault}
use Rattle.archive_streams.specs.declared.entry.EntryText.{EntryText}
use Rattle.archive_streams.specs.declared.fault.SideFault.TheVariants.{Archive}
use Rattle.archive_streams.specs.declared.pieces.Pieces.{Pieces}
use Rattle.archive_streams.specs.declared.pieces.TheConstants.{ENTRIES_READ_MAX}
use Rattle.archive_text.proofs.FaultLaws.{fault_behind}

-- an entry has octets before it
begun : (most : ℕ) (s b : List ℕ) → BeginsWithOctets most s b → 0 < length s
begun most s b w = omega (
  arith,
  ap length w.2.1,
  length-append (framed Counted b) w.2.0,
  length-append (decimal (length b)) (32 ∷ b),
)

-- octets that are no entry are the fault of what they begin
pub judged_fault : (most : ℕ) (b s : List ℕ) (fault : ArchiveFault) (ends : ℕ) → BeginsWithOctets most s b
    → IsJudged b fault
    → IsFaultBefore most s fault × (0 < length s) × (position_of fault ≡ length s → 0 < ends)
judged_fault most b s (BadEntry at fault) ends w j =
    ((j.0, (b, w, j.1)), begun most s b w, λ e. absurd (omega (arith, e, j.0, begun most s b w)))
judged_fault most b s (NotCanonical at) ends w j =
    ((j.0, (b, w, j.1)), begun most s b w, λ e. absurd (omega (arith, e, j.0, begun most s b w)))
judged_fault most b s (BadFrame at) ends w j = absurd j
judged_fault most b s (EntryTooLong at) ends w j = absurd j
judged_fault most b s (NotAscending at) ends w j = absurd j

position_later : (fault : ArchiveFault) (position : ℕ)
    → position_of (later position fault) ≡ position + position_of fault
position_later (BadFrame at) position = refl
position_later (EntryTooLong at) position = refl
position_later (BadEntry at fault) position = refl
position_later (NotCanonical at) position = refl
position_later (NotAscending at) position = refl

pub next_fault : (fault : ArchiveFault) (last : EntryText) (position : ℕ) (rest : List ℕ) (p : Pieces)
    → IsSideFault (Archive fault) rest p
    → IsNextFault (Archive (later position fault)) last position rest p
next_fault fault last position rest p h = (
  λ es archive ends e. fault_behind ENTRY_MAX position es rest fault (sym e) h.0,
  h.1,
  λ e. h.2 (omega (arith, e, position_later fault position)),
)

-- ---- the last entry

pub some_or_none : (l : List ℕ) → (l ≡ []) ⊎ (l ≢ [])
some_or_none [] = inl refl
some_or_none (x ∷ l) = inr (λ e. absurd cc)

-- an entry that is not above the last one is no further entry
not_next : (last t : EntryText) (rest : List ℕ) (es : List Entry) → HoldsEntry t → ¬ (IsAbove last (entry_in t))
    → IsArchive ENTRY_MAX es → EndsWith es last
    → IsNotAscending ENTRY_MAX es (t.text.items ++ rest)
not_next last t rest es h low archive ends =
    elim (some_or_none last.text.items) [
      | inl none ↦ absurd (low (λ some. absurd (some none)))
      | inr some ↦ after
          (ends.some some)
    ]
  where
    after : (before : List Entry) × (es ≡ before ++ entry_in last ∷ [])
        → IsNotAscending ENTRY_MAX es (t.text.items ++ rest)
    after (before, same) = (
      entry_in t,
      h.entry,
      (h.carries, h.fits, (rest, ap (λ (s : List ℕ). s ++ rest) h.text_is)),
      λ up. not_after before (entry_in last) (entry_in t) (subst IsAscending same archive.ascending)
          (λ below. low (λ some. below)) (subst (λ (l : List Entry). IsAscending (l ++ entry_in t ∷ [])) same up),
    )

pub not_above_fault : (last t : EntryText) (position : ℕ) (rest : List ℕ) (p : Pieces) → HoldsEntry t
    → ¬ (IsAbove last (entry_in t))
    → IsNextFault (Archive (NotAscending position)) last position (t.text.items ++ rest) p
not_above_fault last t position rest p h low =
    let some : 0 < length (t.text.items ++ rest) =
    omega (
      arith,
      length-append t.text.items rest,
      ap length h.text_is,
      length-append (decimal (length (entry_in t).octets)) (32 ∷ (entry_in t).octets),
    ) in (
      λ es archive ends e. (sym e, not_next last t rest es h low archive ends),
      some,
      λ e. absurd (omega (arith, e, some)),
    )

-- ---- positions

-- no more octets are given than the largest pieces have
pub reach_short : (p : Pieces) → reach p ≤ ENTRIES_READ_MAX * READER_CALLS
reach_short p = mul-le (size_of p) p.calls ENTRIES_READ_MAX READER_CALLS p.most p.few

pub near_on : (p q : Pieces) (d e : InputState) (s text : List ℕ) (position : ℕ) → ReadsOn p q d e s (text ++ unused q)
    → position + length s ≤ reach p → position + length text + length (unused q) ≤ reach q
near_on p q d e s text position x near = omega
    (arith, x.far, near, ap length x.grown, length-append s x.more, length-append text (unused q))
