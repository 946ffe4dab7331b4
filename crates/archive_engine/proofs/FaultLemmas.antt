-- The fault of a text that goes on behind it.
use Rattle.std.proofs.Common.{◌≡◌, ℕ, ◌+◌, ◌≤◌, List, [], ◌∷◌, ◌++◌, length, sym, ap, subst, ◌∙◌}
use Rattle.std.proofs.Common.{append_assoc, arith, inl, inr}
use Rattle.std.proofs.lemmas.List.{append-nil, length-append, take_all}
use Rattle.octet_language.specs.Language.{AnyOf, Begins}
use Rattle.syslog_frame.specs.Frames.{framed}
use Rattle.syslog_frame.specs.MsgLen.{MsgLen}
use Rattle.syslog_frame.specs.declared.framing.Framing.TheVariants.{Counted}
use Rattle.archive_text.specs.Entries.{Entry}
use Rattle.archive_text.specs.Faults.{BeginsWithOctets, IsArchiveFault, IsFaultBehind, IsLongestArchive}
use Rattle.archive_text.specs.Text.{text_of}
use Rattle.archive_text.specs.declared.fault.ArchiveFault.{ArchiveFault}
use Rattle.archive_text.specs.declared.fault.ArchiveFault.TheVariants.{BadFrame, EntryTooLong, BadEntry}
use Rattle.archive_text.specs.declared.fault.ArchiveFault.TheVariants.{NotCanonical, NotAscending}
use Rattle.archive_text.specs.declared.limits.TheConstants.{ENTRY_MAX}
use Rattle.archive_text.proofs.Prefixes.{archive_fault, longest_faulty, one_longest}
use Rattle.archive_text.specs.Positions.{position_of as at_of}
use Rattle.archive_streams.proofs.Counting.{bad_count}

begins_longer : (most : ℕ) (rest more b : List ℕ) → BeginsWithOctets most rest b
    → BeginsWithOctets most (rest ++ more) b
begins_longer most rest more b (carries, fits, (behind, e)) =
    (carries, fits, (behind ++ more, ap (λ (s : List ℕ). s ++ more) e ∙ append_assoc (framed Counted b) behind more))

-- a fault before the end of the octets
behind_longer : (es : List Entry) (rest more : List ℕ) (fault : ArchiveFault)
    → (at_of fault ≡ length (text_of es) + length rest → ⊥) → IsFaultBehind ENTRY_MAX es rest fault
    → IsFaultBehind ENTRY_MAX es (rest ++ more) fault
behind_longer es rest more (BadFrame at) inside (n, inl (none, offset), is) =
    (n, bad_count ENTRY_MAX rest more n (none, dead, offset), is)
  where
    dead : Begins (AnyOf MsgLen) rest → ⊥
    dead begins =
        let far : length rest ≤ n =
        offset.longest (length rest) (omega arith)
        (subst (Begins (AnyOf MsgLen)) (sym (take_all (length rest) rest (omega arith))) begins)
        in
        inside (omega (arith, is, far, offset.within))
behind_longer es rest more (BadFrame at) inside (n, inr (count, behind, follows, fits, short, cut), is) =
    absurd (inside (omega (arith, is, cut)))
behind_longer es rest more (EntryTooLong at) inside (is, (count, behind, (text, e, counted), high)) = (
  is,
  (
    count,
    behind ++ more,
    (text, ap (λ (s : List ℕ). s ++ more) e ∙ append_assoc text behind more, counted),
    high,
  ),
)
behind_longer es rest more (BadEntry at fault) inside (is, (start, (b, begins, bad))) =
    (is, (start, (b, begins_longer ENTRY_MAX rest more b begins, bad)))
behind_longer es rest more (NotCanonical at) inside (is, (start, (b, begins, bad))) =
    (is, (start, (b, begins_longer ENTRY_MAX rest more b begins, bad)))
behind_longer es rest more (NotAscending at) inside (is, (e, entry, begins, none)) =
    (is, (e, entry, begins_longer ENTRY_MAX rest more e.octets begins, none))

-- a text has the fault of the octets that it begins with, and their front
pub record HasFaultOf (x text : List ℕ) (fault : ArchiveFault) : Type 0 where
  pub fault_is : IsArchiveFault ENTRY_MAX text fault
  pub front : (es : List Entry) (r : List ℕ) → IsLongestArchive ENTRY_MAX text es r
      → (s : List ℕ) × IsLongestArchive ENTRY_MAX x es s

longer : (x more : List ℕ) (fault : ArchiveFault) → IsArchiveFault ENTRY_MAX x fault → (at_of fault ≡ length x → ⊥)
    → HasFaultOf x (x ++ more) fault
longer x more fault (es, rest, longest, some, behind) inside =
    let place : length x ≡ length (text_of es) + length rest =
    ap length longest.parts ∙ length-append (text_of es) rest
    in
    let later = behind_longer es rest more fault (λ at. inside (at ∙ sym place)) behind in
    let parts : x ++ more ≡ text_of es ++ (rest ++ more) =
    ap (λ (s : List ℕ). s ++ more) longest.parts ∙ append_assoc (text_of es) rest more
    in
    let front =
    longest_faulty ENTRY_MAX (x ++ more) es (rest ++ more) fault (omega arith) longest.archive parts later
    in
    record {
      fault_is =
          archive_fault ENTRY_MAX (x ++ more) es (rest ++ more) fault (omega arith) longest.archive parts
          (omega (arith, some, length-append rest more)) later;
      front = λ fs r f.
          let same = (one_longest ENTRY_MAX (x ++ more) es fs (rest ++ more) r (omega arith) front f).0 in
          (rest, subst (λ (l : List Entry). IsLongestArchive ENTRY_MAX x l rest) same longest);
    }

-- where the octets end at their fault, the text ends there
pub goes_on : (x more : List ℕ) (fault : ArchiveFault) → IsArchiveFault ENTRY_MAX x fault
    → (at_of fault ≡ length x → more ≡ []) → HasFaultOf x (x ++ more) fault
goes_on x [] fault is end =
    let same : x ++ [] ≡ x = append-nil x in
    record {
      fault_is = subst (λ (s : List ℕ). IsArchiveFault ENTRY_MAX s fault) (sym same) is;
      front = λ es r f. (r, subst (λ (s : List ℕ). IsLongestArchive ENTRY_MAX s es r) same f);
    }
goes_on x (m ∷ more) fault is end = longer x (m ∷ more) fault is (λ at. absurd (more_than_none (end at)))
  where
    more_than_none : m ∷ more ≡ [] → ⊥
    more_than_none e = absurd cc
