-- The longest prefix of a text that is an old archive, and the fault behind it.
use Rattle.std.proofs.Common.{◌≡◌, ℕ, ◌<◌, ◌≤◌, ◌∙◌, inl, inr, refl, sym, ap, subst, arith, List, [], ◌∷◌, ◌++◌, length}
use Rattle.std.proofs.Common.{append_assoc}
use Rattle.std.specs.Prelude.{decimal}
use Rattle.std.proofs.lemmas.List.{append-nil, length-append}
use Rattle.octet_language.specs.Language.{AnyOf}
use Rattle.octet_language.specs.Reading.{Follows}
use Rattle.octet_language.proofs.Lists.{one_more}
use Rattle.syslog_frame.specs.MsgLen.{MsgLen}
use Rattle.syslog_frame.specs.declared.framing.Framing.TheVariants.{Counted}
use Rattle.syslog_frame.specs.declared.limits.TheConstants.{COUNT_MAX}
use Rattle.syslog_frame.proofs.FrameLaws.{one_frame, same_count}
use Rattle.syslog_reading.specs.WellFormed.{WellFormed}
use Rattle.archive_text.specs.Entries.{Entry, IsAscending}
use Rattle.archive_text.specs.Faults.{BeginsWithOctets, IsBadFrame, IsTooLong}
use Rattle.archive_text.specs.Text.{text_of}
use Rattle.archive_text.specs.declared.fault.ArchiveFault.{ArchiveFault}
use Rattle.archive_text.specs.declared.fault.ArchiveFault.TheVariants.{BadFrame, EntryTooLong, BadEntry, NotCanonical}
use Rattle.archive_text.specs.declared.fault.ArchiveFault.TheVariants.{NotAscending}
use Rattle.archive_text.proofs.Ascending.{ascending_left}
use Rattle.archive_text.proofs.Texts.{GoesOn, text_length}
use Rattle.archive_migration.specs.OldEntries.{IsOldArchive}
use Rattle.archive_migration.specs.OldFaults.{IsOldArchiveFault, IsOldFaultBehind, IsLongestOldArchive}
use Rattle.archive_migration.specs.OldTexts.{BeginsWithOldEntry}
use Rattle.archive_migration.proofs.OldForms.{old_well_formed, same_old_octets}
use Rattle.archive_migration.proofs.OldTexts.{first_of_old_text, old_archive_right, one_old_begins}

-- ---- where no entry goes on

-- no entry that the rest begins with is above the entries
abbrev pub IsStuck : ℕ → List Entry → List ℕ → Type 0
IsStuck most es rest = (e : Entry) (behind : List ℕ) → BeginsWithOldEntry most rest e behind
    → ¬ (IsAscending (es ++ e ∷ []))

-- so no longer archive begins the text
none_longer : (most : ℕ) (es fs : List Entry) (rest behind : List ℕ) → most ≤ COUNT_MAX → IsStuck most es rest
    → IsOldArchive most fs → GoesOn es rest fs behind
    → length (text_of fs) ≤ length (text_of es)
none_longer most es fs rest behind low stuck h ([], same, is) =
    omega (arith, ap (λ xs. length (text_of xs)) (same ∙ append-nil es))
none_longer most es fs rest behind low stuck h (g ∷ gs, same, is) =
    let ascending : IsAscending (es ++ g ∷ gs) = subst IsAscending same h.ascending in
    let moved : es ++ g ∷ gs ≡ (es ++ g ∷ []) ++ gs = sym (append_assoc es (g ∷ []) gs) in
    let further : IsOldArchive most (es ++ g ∷ gs) = subst (IsOldArchive most) same h in
    absurd (stuck g (text_of gs ++ behind) (first_of_old_text most rest g gs behind low
    (old_archive_right most es (g ∷ gs) further) is)
    (ascending_left (es ++ g ∷ []) gs (subst IsAscending moved ascending)))

-- an archive whose text begins the text, and behind which none of its entries goes on, is the longest
pub old_longest_stuck : (most : ℕ) (text : List ℕ) (es : List Entry) (rest : List ℕ) → most ≤ COUNT_MAX
    → IsOldArchive most es → text ≡ text_of es ++ rest → IsStuck most es rest
    → IsLongestOldArchive most text es rest
old_longest_stuck most text es rest low h is stuck = record {
  archive = h;
  parts = is;
  longest = λ fs behind k also.
      elim (one_old_begins most most es fs rest behind low low h k (sym is ∙ also)) [
        | inl later ↦ none_longer most es fs rest behind low stuck k later
        | inr (gs, same, more) ↦ omega (arith, ap (λ xs. length (text_of xs)) same, text_length fs gs)
      ];
}

-- ---- a fault and a further entry exclude each other

-- the length and the space before an entry
length_of_entry : (most count : ℕ) (rest behind : List ℕ) (e : Entry) (s : List ℕ) → BeginsWithOldEntry most rest e s
    → Follows (MsgLen count) rest behind
    → (count ≡ length e.octets) × (behind ≡ e.octets ++ s)
length_of_entry most count rest behind e s h (text, is, (some, small, form)) =
    same_count count (length e.octets) behind (e.octets ++ s) small h.carries.1
    (sym (one_more (decimal count) 32 behind) ∙ ap (λ (t : List ℕ). t ++ behind) (sym form) ∙ sym is ∙ h.parts
    ∙ append_assoc (decimal (length e.octets)) (32 ∷ e.octets) s)

bad_frame_excludes : (most n : ℕ) (rest : List ℕ) (e : Entry) (s : List ℕ) → IsBadFrame most rest n
    → BeginsWithOldEntry most rest e s → ⊥
bad_frame_excludes most n rest e s (inl (none, offset)) h =
    none (decimal (length e.octets) ++ 32 ∷ []) (e.octets ++ s)
    (h.parts ∙ append_assoc (decimal (length e.octets)) (32 ∷ e.octets) s
    ∙ sym (one_more (decimal (length e.octets)) 32 (e.octets ++ s)))
    (length e.octets, (h.carries.0, h.carries.1, refl))
bad_frame_excludes most n rest e s (inr (count, behind, follows, low, cut, at)) h =
    let both = length_of_entry most count rest behind e s h follows in
    omega (arith, cut, both.0, ap length both.1, length-append e.octets s)

too_long_excludes : (most : ℕ) (rest : List ℕ) (e : Entry) (s : List ℕ) → IsTooLong most rest
    → BeginsWithOldEntry most rest e s → ⊥
too_long_excludes most rest e s (count, behind, follows, long) h =
    let both = length_of_entry most count rest behind e s h follows in
    omega (arith, long, both.0, h.fits)

-- the octets at the start are those of the entry
octets_of_entry : (most : ℕ) (rest b : List ℕ) (e : Entry) (s : List ℕ) → BeginsWithOctets most rest b
    → BeginsWithOldEntry most rest e s → e.octets ≡ b
octets_of_entry most rest b e s (carries, fits, (behind, is)) h =
    one_frame Counted e.octets b s behind h.carries carries (sym h.parts ∙ is)

bad_entry_excludes : (most : ℕ) (rest b : List ℕ) (e : Entry) (s : List ℕ) → BeginsWithOctets most rest b
    → ¬ (AnyOf WellFormed b) → BeginsWithOldEntry most rest e s → ⊥
bad_entry_excludes most rest b e s begins bad h =
    let same = octets_of_entry most rest b e s begins h in
    let q = old_well_formed h.entry.0 e.octets h.entry.1.valid h.entry.1.canonical in
    bad (q.0, subst (WellFormed q.0) same q.1)

-- behind entries with a fault no further entry stands
pub old_fault_excludes : (most : ℕ) (es : List Entry) (rest : List ℕ) (fault : ArchiveFault)
    → IsOldFaultBehind most es rest fault → IsStuck most es rest
old_fault_excludes most es rest (BadFrame at) (n, bad, is) e s h ascending = bad_frame_excludes most n rest e s bad h
old_fault_excludes most es rest (EntryTooLong at) (is, long) e s h ascending = too_long_excludes most rest e s long h
old_fault_excludes most es rest (BadEntry at fault) (is, (start, (b, begins, bad))) e s h ascending =
    bad_entry_excludes most rest b e s begins bad.1 h
old_fault_excludes most es rest (NotCanonical at) (is, (start, (b, begins, none))) e s h ascending =
    none.1 e h.entry (octets_of_entry most rest b e s begins h)
old_fault_excludes most es rest (NotAscending at) (is, (f, entry, begins, none)) e s h ascending =
    none (subst (λ x. IsAscending (es ++ x ∷ []))
    (same_old_octets e f h.entry entry (octets_of_entry most rest f.octets e s begins h)) ascending)

-- entries with a fault behind them are the longest archive
pub old_longest_faulty : (most : ℕ) (text : List ℕ) (es : List Entry) (rest : List ℕ) (fault : ArchiveFault)
    → most ≤ COUNT_MAX → IsOldArchive most es → text ≡ text_of es ++ rest
    → IsOldFaultBehind most es rest fault → IsLongestOldArchive most text es rest
old_longest_faulty most text es rest fault low h is bad =
    old_longest_stuck most text es rest low h is (old_fault_excludes most es rest fault bad)

-- and are the fault of the text, where something is left
pub old_archive_fault : (most : ℕ) (text : List ℕ) (es : List Entry) (rest : List ℕ) (fault : ArchiveFault)
    → most ≤ COUNT_MAX → IsOldArchive most es → text ≡ text_of es ++ rest → 0 < length rest
    → IsOldFaultBehind most es rest fault → IsOldArchiveFault most text fault
old_archive_fault most text es rest fault low h is some bad =
    (es, rest, old_longest_faulty most text es rest fault low h is bad, some, bad)

-- the text of an archive has no fault
pub old_archive_has_no_fault : (most : ℕ) (es : List Entry) (fault : ArchiveFault) → IsOldArchive most es
    → ¬ (IsOldArchiveFault most (text_of es) fault)
old_archive_has_no_fault most es fault h (fs, rest, prefix, some, bad) =
    omega (
      arith,
      prefix.longest es [] h (sym (append-nil (text_of es))),
      ap length prefix.parts,
      length-append (text_of fs) rest,
      some,
    )
