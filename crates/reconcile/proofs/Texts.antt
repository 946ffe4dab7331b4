-- Facts on texts that are read behind others.
use Rattle.std.proofs.Common.{◌≡◌, ℕ, ◌<◌, List, [], ◌∷◌, ◌++◌, sym, refl, ap, ◌∙◌, inl, inr, arith, length, append_assoc}
use Rattle.std.specs.List.{AllByRecursion}
use Rattle.std.proofs.lemmas.List.{append-nil, length-append}
use Rattle.archive_text.specs.Entries.{Entry, IsBelow}
use Rattle.archive_text.specs.Faults.{IsFaultBefore, IsFaultBehind}
use Rattle.archive_text.specs.Text.{BeginsWithEntry, IsArchive, entry_text, text_of}
use Rattle.archive_text.specs.declared.fault.ArchiveFault.{ArchiveFault}
use Rattle.archive_text.specs.declared.fault.ArchiveFault.TheVariants.{NotAscending}
use Rattle.archive_text.specs.declared.limits.TheConstants.{ENTRY_MAX}
use Rattle.archive_text.proofs.Ascending.{below_last}
use Rattle.archive_text.proofs.FaultLaws.{fault_later}
use Rattle.archive_text.proofs.Prefixes.{IsStuck, fault_excludes, longest_stuck}
use Rattle.archive_text.proofs.Texts.{text_push, text_some}
use Rattle.reconcile.specs.Texts.{IsOfNoArchive, IsReadingFault, IsTextFault}
use Rattle.reconcile.specs.declared.stopped.Stopped.{Stopped}

-- where no entry goes on behind an archive, and something is left
stuck_is_none : (es : List Entry) (rest : List ℕ) → IsArchive ENTRY_MAX es → IsStuck ENTRY_MAX es rest
    → 0 < length rest → IsOfNoArchive (text_of es ++ rest)
stuck_is_none es rest h stuck some fs k same =
    let l = longest_stuck ENTRY_MAX (text_of es ++ rest) es rest (omega arith) h refl stuck in
    let less = l.longest fs [] k (same ∙ sym (append-nil (text_of fs))) in
    omega (arith, less, some, ap length same, length-append (text_of es) rest)

pub none_read : (es : List Entry) (rest : List ℕ) (fault : ArchiveFault) → IsArchive ENTRY_MAX es
    → IsFaultBefore ENTRY_MAX rest fault → 0 < length rest → IsOfNoArchive (text_of es ++ rest)
none_read es rest fault h bad some =
    stuck_is_none es rest h
    (fault_excludes ENTRY_MAX es rest _ (fault_later ENTRY_MAX es rest fault bad)) some

pub none_above : (es : List Entry) (e : Entry) (rest behind : List ℕ) → IsArchive ENTRY_MAX es
    → BeginsWithEntry ENTRY_MAX rest e behind → ¬ (AllByRecursion (λ x. IsBelow x e) es) → 0 < length rest
    → IsOfNoArchive (text_of es ++ rest)
none_above es e rest behind h begins none some =
    let fault : IsFaultBehind ENTRY_MAX es rest (NotAscending (length (text_of es))) = (
      refl,
      (
        e,
        begins.entry,
        (begins.carries, begins.fits, (behind, begins.parts)),
        λ ascending. none (below_last es e ascending),
      ),
    ) in
    stuck_is_none es rest h (fault_excludes ENTRY_MAX es rest (NotAscending (length (text_of es))) fault) some

-- an entry that was read is shorter than the text
pub read_shorter : (text rest : List ℕ) (e : Entry) → text ≡ entry_text e ++ rest → length rest < length text
read_shorter text rest e parts = omega (arith, ap length parts, length-append (entry_text e) rest, text_some e)

pub text_more : (es now : List Entry) (e : Entry) (text rest : List ℕ) → text ≡ entry_text e ++ rest
    → now ≡ es ++ e ∷ [] → text_of now ++ rest ≡ text_of es ++ text
text_more es now e text rest parts is =
    ap (λ (l : List Entry). text_of l ++ rest) is ∙ ap (λ (l : List ℕ). l ++ rest) (text_push es e)
    ∙ append_assoc (text_of es) (entry_text e) rest ∙ ap (λ (l : List ℕ). text_of es ++ l) (sym parts)

-- a fault behind what was read is one of the whole text
pub text_fault : (front rest text : List ℕ) (fault : Stopped) → front ++ rest ≡ text → 0 < length rest
    → IsReadingFault front rest fault → IsTextFault text fault
text_fault front rest text fault whole some (inl (lied, none)) =
    inl (lied, λ es h same. none some es h (whole ∙ same))
text_fault front rest text fault whole some (inr memory) = inr memory
