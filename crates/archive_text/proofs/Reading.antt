-- Entries that are read from a text.
use Rattle.std.proofs.Common.{◌≡◌, ℕ, ◌≤◌, ◌∙◌, sym, ap, arith, List, [], ◌∷◌, ◌++◌, length, take, drop, append_assoc}
use Rattle.std.specs.Prelude.{ℤ, decimal}
use Rattle.std.proofs.lemmas.List.{length-take-le, take-append-drop}
use Rattle.octet_language.specs.Reading.{Follows}
use Rattle.syslog_frame.specs.MsgLen.{MsgLen}
use Rattle.syslog_value.specs.Parts.{Parts, IsRecord}
use Rattle.syslog_fields.specs.Canonical.{Canonical}
use Rattle.syslog_reading.specs.ViewParts.{IsViewOf, ViewParts}
use Rattle.syslog_grammar.proofs.CanonicalParses.{canonical_well_formed}
use Rattle.archive_text.specs.Entries.{Entry, IsEntry}
use Rattle.archive_text.specs.Faults.{BeginsWithOctets, IsCountedFirst, IsCountFault, IsFaultBefore}
use Rattle.syslog_grammar.proofs.ShownRecords.{shown_time}
use Rattle.archive_text.specs.declared.fault.ArchiveFault.{ArchiveFault}
use Rattle.archive_text.specs.declared.fault.ArchiveFault.TheVariants.{BadFrame, EntryTooLong, BadEntry, NotCanonical, NotAscending}

-- the octets that a view shows, where they are canonical, are an entry
pub canonical_entry : (e : Entry) (s : ViewParts) → IsViewOf e.octets s → e.instant ≡ s.instant
    → (r : Parts ℤ) × IsRecord r × Canonical r e.octets → IsEntry e
canonical_entry e s seen instant (r, valid, canonical) = (
  r,
  record {
    valid = valid;
    instant = instant
        ∙ shown_time e.octets s r seen (canonical_well_formed r e.octets valid canonical);
    canonical = canonical;
  },
)

-- behind a length and its space
pub behind_length : (count used : ℕ) (text behind : List ℕ) → MsgLen count (take used text) → behind ≡ drop used text
    → Follows (MsgLen count) text behind
behind_length count used text behind h e =
    (take used text, sym (take-append-drop used text) ∙ ap (λ (s : List ℕ). take used text ++ s) (sym e), h)

-- the octets that a length counts
pub counted : (most count used : ℕ) (text behind octets rest : List ℕ) → MsgLen count (take used text)
    → behind ≡ drop used text → octets ≡ take count behind → rest ≡ drop count behind → count ≤ length behind
    → count ≤ most → IsCountedFirst most text octets rest
counted most count used text behind octets rest h e f g within low =
    let size : length octets ≡ count = ap length f ∙ length-take-le count behind within in
    let parted : octets ++ rest ≡ behind =
    ap (λ (s : List ℕ). s ++ rest) f ∙ ap (λ (s : List ℕ). take count behind ++ s) g ∙ take-append-drop count behind in
    let length_and_space : take used text ≡ decimal (length octets) ++ 32 ∷ [] =
    h.2 ∙ ap (λ (n : ℕ). decimal n ++ 32 ∷ []) (sym size) in
    let whole : text ≡ (decimal (length octets) ++ 32 ∷ []) ++ (octets ++ rest) =
    sym (take-append-drop used text) ∙ ap (λ (s : List ℕ). s ++ drop used text) length_and_space
    ∙ ap (λ (s : List ℕ). (decimal (length octets) ++ 32 ∷ []) ++ s) (sym e ∙ sym parted) in record {
      carries = (omega (arith, h.0), omega (arith, h.1));
      fits = omega arith;
      parts = whole ∙ append_assoc (decimal (length octets)) (32 ∷ []) (octets ++ rest)
          ∙ sym (append_assoc (decimal (length octets)) (32 ∷ octets) rest);
    }

-- counted octets that come first
pub counted_begin : (most : ℕ) (text octets rest : List ℕ) → IsCountedFirst most text octets rest
    → BeginsWithOctets most text octets
counted_begin most text octets rest c = (c.carries, c.fits, (rest, c.parts))

-- where none do, no entry does
pub count_fault : (most : ℕ) (text : List ℕ) (fault : ArchiveFault) → IsCountFault most text fault
    → IsFaultBefore most text fault
count_fault most text (BadFrame at) h = h
count_fault most text (EntryTooLong at) h = h
count_fault most text (BadEntry at fault) h = absurd h
count_fault most text (NotCanonical at) h = absurd h
count_fault most text (NotAscending at) h = absurd h
