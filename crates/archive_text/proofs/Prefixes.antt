-- The longest prefix of a text that is an archive, and the fault behind it.
use Rattle.std.proofs.Common.{◌≡◌, ℕ, ◌<◌, ◌≤◌, ◌∙◌, inl, inr, refl, sym, ap, subst, arith, List, [], ◌∷◌, ◌++◌, length}
use Rattle.std.proofs.Common.{append_assoc}
use Rattle.std.specs.Prelude.{decimal, ◌⊎◌}
use Rattle.std.proofs.lemmas.List.{append-nil, length-append}
use Rattle.octet_language.specs.Language.{AnyOf}
use Rattle.octet_language.specs.Reading.{Follows}
use Rattle.octet_language.proofs.Lists.{one_more}
use Rattle.syslog_frame.specs.MsgLen.{MsgLen}
use Rattle.syslog_frame.specs.declared.framing.Framing.TheVariants.{Counted}
use Rattle.syslog_frame.specs.declared.limits.TheConstants.{COUNT_MAX}
use Rattle.syslog_frame.proofs.FrameLaws.{one_frame, same_count}
use Rattle.syslog_reading.specs.WellFormed.{WellFormed}
use Rattle.syslog_grammar.proofs.CanonicalParses.{canonical_well_formed}
use Rattle.archive_text.specs.Entries.{Entry, IsAscending}
use Rattle.archive_text.specs.Faults.{BeginsWithOctets, IsArchiveFault, IsBadFrame, IsFaultBehind, IsLongestArchive}
use Rattle.archive_text.specs.Faults.{IsTooLong}
use Rattle.archive_text.specs.Text.{BeginsWithEntry, IsArchive, entry_text, text_of}
use Rattle.archive_text.specs.declared.fault.ArchiveFault.{ArchiveFault}
use Rattle.archive_text.specs.declared.fault.ArchiveFault.TheVariants.{BadFrame, EntryTooLong, BadEntry, NotCanonical}
use Rattle.archive_text.specs.declared.fault.ArchiveFault.TheVariants.{NotAscending}
use Rattle.archive_text.proofs.Ascending.{archive_right, ascending_left}
use Rattle.archive_text.proofs.Texts.{GoesOn, first_of_text, one_begins, same_octets, text_length, text_some}
use Rattle.archive_text.specs.declared.limits.TheConstants.{ENTRY_MAX}

-- ---- where no entry goes on

-- no entry that the rest begins with is above the entries
abbrev pub IsStuck : ℕ → List Entry → List ℕ → Type 0
IsStuck most es rest = (e : Entry) (behind : List ℕ) → BeginsWithEntry most rest e behind
    → ¬ (IsAscending (es ++ e ∷ []))

-- so no longer archive begins the text
none_longer : (most : ℕ) (es fs : List Entry) (rest behind : List ℕ) → most ≤ COUNT_MAX → IsStuck most es rest
    → IsArchive most fs → GoesOn es rest fs behind
    → length (text_of fs) ≤ length (text_of es)
none_longer most es fs rest behind low stuck h ([], same, is) =
    omega (arith, ap (λ xs. length (text_of xs)) (same ∙ append-nil es))
none_longer most es fs rest behind low stuck h (g ∷ gs, same, is) =
    let ascending : IsAscending (es ++ g ∷ gs) = subst IsAscending same h.ascending in
    let moved : es ++ g ∷ gs ≡ (es ++ g ∷ []) ++ gs = sym (append_assoc es (g ∷ []) gs) in
    let further : IsArchive most (es ++ g ∷ gs) = subst (IsArchive most) same h in
    absurd (stuck g (text_of gs ++ behind) (first_of_text most rest g gs behind low
    (archive_right most es (g ∷ gs) further) is)
    (ascending_left (es ++ g ∷ []) gs (subst IsAscending moved ascending)))

-- an archive whose text begins the text, and behind which none of its entries goes on, is the longest
pub longest_stuck : (most : ℕ) (text : List ℕ) (es : List Entry) (rest : List ℕ) → most ≤ COUNT_MAX → IsArchive most es
    → text ≡ text_of es ++ rest → IsStuck most es rest
    → IsLongestArchive most text es rest
longest_stuck most text es rest low h is stuck = record {
  archive = h;
  parts = is;
  longest = λ fs behind k also.
      elim (one_begins most most es fs rest behind low low h k (sym is ∙ also)) [
        | inl later ↦ none_longer most es fs rest behind low stuck k later
        | inr (gs, same, more) ↦ omega (arith, ap (λ xs. length (text_of xs)) same, text_length fs gs)
      ];
}

stuck_nil : (most : ℕ) (es : List Entry) → IsStuck most es []
stuck_nil most es e behind h ascending = omega
    (arith, ap length h.parts, length-append (entry_text e) behind, text_some e)

-- nothing is left
pub longest_whole : (most : ℕ) (text : List ℕ) (es : List Entry) → most ≤ COUNT_MAX → IsArchive most es
    → text ≡ text_of es → IsLongestArchive most text es []
longest_whole most text es low h is = longest_stuck most text es [] low h (is ∙ sym (append-nil (text_of es)))
    (stuck_nil most es)

-- the longest archive that octets begin with goes on behind each other one
pub front_goes_on : (given r s : List ℕ) (xs fs : List Entry) → IsArchive ENTRY_MAX xs → given ≡ text_of xs ++ r
    → IsLongestArchive ENTRY_MAX given fs s → (later : List Entry) × (fs ≡ xs ++ later)
front_goes_on given r s xs fs a parts f =
    placed (one_begins ENTRY_MAX ENTRY_MAX xs fs r s (omega arith) (omega arith) a f.archive (sym parts ∙ f.parts))
  where
    shorter : (gs : List Entry) → xs ≡ fs ++ gs → (later : List Entry) × (fs ≡ xs ++ later)
    shorter [] same = ([], sym (append-nil fs) ∙ sym same ∙ sym (append-nil xs))
    shorter (g ∷ gs) same =
        absurd (omega (
          arith,
          f.longest xs r a parts,
          ap (λ (l : List Entry). length (text_of l)) same,
          text_length fs (g ∷ gs),
          length-append (entry_text g) (text_of gs),
          text_some g,
        ))

    placed : GoesOn xs r fs s ⊎ GoesOn fs s xs r → (later : List Entry) × (fs ≡ xs ++ later)
    placed (inl (gs, same, more)) = (gs, same)
    placed (inr (gs, same, more)) = shorter gs same

-- two longest archives are one
pub one_longest : (most : ℕ) (text : List ℕ) (es fs : List Entry) (r s : List ℕ) → most ≤ COUNT_MAX
    → IsLongestArchive most text es r → IsLongestArchive most text fs s → (es ≡ fs) × (r ≡ s)
one_longest most text es fs r s low h k =
    elim (one_begins most most es fs r s low low h.archive k.archive (sym h.parts ∙ k.parts)) [
      | inl later ↦ same_length es fs r s (h.longest fs s k.archive k.parts) (sym h.parts ∙ k.parts) later
      | inr later ↦ let both = same_length fs es s r (k.longest es r h.archive h.parts) (sym k.parts ∙ h.parts) later in
          (sym both.0, sym both.1)
    ]
  where
    same_length : (es fs : List Entry) (r s : List ℕ) → length (text_of fs) ≤ length (text_of es)
        → text_of es ++ r ≡ text_of fs ++ s → GoesOn es r fs s → (es ≡ fs) × (r ≡ s)
    same_length es fs r s le both ([], same, is) = (sym (same ∙ append-nil es), is)
    same_length es fs r s le both (g ∷ gs, same, is) =
        absurd (omega (
          arith,
          ap (λ xs. length (text_of xs)) same,
          text_length es (g ∷ gs),
          length-append (entry_text g) (text_of gs),
          text_some g,
        ))

-- ---- a fault and a further entry exclude each other

-- the length and the space before an entry
length_of_entry : (most count : ℕ) (rest behind : List ℕ) (e : Entry) (s : List ℕ) → BeginsWithEntry most rest e s
    → Follows (MsgLen count) rest behind
    → (count ≡ length e.octets) × (behind ≡ e.octets ++ s)
length_of_entry most count rest behind e s h (text, is, (some, small, form)) =
    same_count count (length e.octets) behind (e.octets ++ s) small h.carries.1
    (sym (one_more (decimal count) 32 behind) ∙ ap (λ (t : List ℕ). t ++ behind) (sym form) ∙ sym is ∙ h.parts
    ∙ append_assoc (decimal (length e.octets)) (32 ∷ e.octets) s)

bad_frame_excludes : (most n : ℕ) (rest : List ℕ) (e : Entry) (s : List ℕ) → IsBadFrame most rest n
    → BeginsWithEntry most rest e s → ⊥
bad_frame_excludes most n rest e s (inl (none, offset)) h =
    none (decimal (length e.octets) ++ 32 ∷ []) (e.octets ++ s)
    (h.parts ∙ append_assoc (decimal (length e.octets)) (32 ∷ e.octets) s
    ∙ sym (one_more (decimal (length e.octets)) 32 (e.octets ++ s)))
    (length e.octets, (h.carries.0, h.carries.1, refl))
bad_frame_excludes most n rest e s (inr (count, behind, follows, low, cut, at)) h =
    let both = length_of_entry most count rest behind e s h follows in
    omega (arith, cut, both.0, ap length both.1, length-append e.octets s)

too_long_excludes : (most : ℕ) (rest : List ℕ) (e : Entry) (s : List ℕ) → IsTooLong most rest
    → BeginsWithEntry most rest e s → ⊥
too_long_excludes most rest e s (count, behind, follows, long) h =
    let both = length_of_entry most count rest behind e s h follows in
    omega (arith, long, both.0, h.fits)

-- the octets at the start are those of the entry
octets_of_entry : (most : ℕ) (rest b : List ℕ) (e : Entry) (s : List ℕ) → BeginsWithOctets most rest b
    → BeginsWithEntry most rest e s → e.octets ≡ b
octets_of_entry most rest b e s (carries, fits, (behind, is)) h =
    one_frame Counted e.octets b s behind h.carries carries (sym h.parts ∙ is)

bad_entry_excludes : (most : ℕ) (rest b : List ℕ) (e : Entry) (s : List ℕ) → BeginsWithOctets most rest b
    → ¬ (AnyOf WellFormed b) → BeginsWithEntry most rest e s → ⊥
bad_entry_excludes most rest b e s begins bad h =
    let same = octets_of_entry most rest b e s begins h in
    let r = h.entry.0 in
    bad (r, subst (WellFormed r) same (canonical_well_formed r e.octets h.entry.1.valid h.entry.1.canonical))

-- behind entries with a fault no further entry stands
pub fault_excludes : (most : ℕ) (es : List Entry) (rest : List ℕ) (fault : ArchiveFault)
    → IsFaultBehind most es rest fault → IsStuck most es rest
fault_excludes most es rest (BadFrame at) (n, bad, is) e s h ascending = bad_frame_excludes most n rest e s bad h
fault_excludes most es rest (EntryTooLong at) (is, long) e s h ascending = too_long_excludes most rest e s long h
fault_excludes most es rest (BadEntry at fault) (is, (start, (b, begins, bad))) e s h ascending =
    bad_entry_excludes most rest b e s begins bad.1 h
fault_excludes most es rest (NotCanonical at) (is, (start, (b, begins, none))) e s h ascending =
    none.1 e h.entry (octets_of_entry most rest b e s begins h)
fault_excludes most es rest (NotAscending at) (is, (f, entry, begins, none)) e s h ascending =
    none (subst (λ x. IsAscending (es ++ x ∷ []))
    (same_octets e f h.entry entry (octets_of_entry most rest f.octets e s begins h)) ascending)

-- entries with a fault behind them are the longest archive
pub longest_faulty : (most : ℕ) (text : List ℕ) (es : List Entry) (rest : List ℕ) (fault : ArchiveFault)
    → most ≤ COUNT_MAX → IsArchive most es → text ≡ text_of es ++ rest
    → IsFaultBehind most es rest fault → IsLongestArchive most text es rest
longest_faulty most text es rest fault low h is bad =
    longest_stuck most text es rest low h is (fault_excludes most es rest fault bad)

-- and are the fault of the text, where something is left
pub archive_fault : (most : ℕ) (text : List ℕ) (es : List Entry) (rest : List ℕ) (fault : ArchiveFault)
    → most ≤ COUNT_MAX → IsArchive most es → text ≡ text_of es ++ rest → 0 < length rest
    → IsFaultBehind most es rest fault → IsArchiveFault most text fault
archive_fault most text es rest fault low h is some bad =
    (es, rest, longest_faulty most text es rest fault low h is bad, some, bad)

-- the text of an archive has no fault
pub archive_has_no_fault : (most : ℕ) (es : List Entry) (fault : ArchiveFault) → IsArchive most es
    → ¬ (IsArchiveFault most (text_of es) fault)
archive_has_no_fault most es fault h (fs, rest, prefix, some, bad) =
    omega (
      arith,
      prefix.longest es [] h (sym (append-nil (text_of es))),
      ap length prefix.parts,
      length-append (text_of fs) rest,
      some,
    )
